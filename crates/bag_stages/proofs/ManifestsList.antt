-- Every bag has a list of the faults of its manifests.
use Rattle.bag_stages.proofs.Common.{ℕ, List, refl, Contains, is_utf8, Alg, manifest_name, Kind, Payload, Tag}
use Rattle.bag_stages.proofs.Common.{some_faults, IsManifestFault, Bag, file, has_file, rules_in, HasList, unnamed}
use Rattle.bag_stages.proofs.Common.{IsUnlistedManifest, IsLineFault, IsOfManifest, IsOfManifests}
use Rattle.bag_stages.proofs.Common.{FaultsAreListed, manifest_of, named_in, HasManifest, Some}
use Rattle.bag_stages.proofs.BagLists.{manifests_listed, over_algs, over_kinds, there_or_not}
use Rattle.bag_stages.proofs.HasLists.{Decided, true_or_not, both_decided, not_decided, nothing, one_where, same_set}
use Rattle.bag_stages.proofs.HasLists.{either, for_each}
use Rattle.bag_stages.proofs.InFile.{lines_have_list}
use Rattle.bag_stages.proofs.LeftOut.{v10_or_not}
use Rattle.bag_stages.proofs.ManifestFaults.{Lacks, LacksAt, IsOfSome, from_unlisted, line_tells, of_manifest_is}
use Rattle.bag_stages.proofs.ManifestFaults.{of_some, to_unlisted}

pub missing_or_not : (paths : List (List ℕ)) (path : List ℕ) → Decided (¬ (Contains paths path))
missing_or_not paths path = not_decided (Contains paths path) (there_or_not paths path)

module _ (bag : Bag) where
  lines_of : (kind : Kind) (alg : Alg) → HasList (IsLineFault bag kind alg)
  lines_of kind alg =
      lines_have_list bag (manifest_of kind alg) (Some alg) 5 (IsManifestFault (rules_in bag) kind alg) is_utf8
      (line_tells bag kind alg)
      (λ bytes. some_faults (rules_in bag) kind alg bytes (is_utf8 bytes) refl) (file bag (manifest_of kind alg)) refl

  lacks_or_not : (alg : Alg) (other : List ℕ) → Decided (Lacks bag alg other)
  lacks_or_not alg other =
      both_decided _ _ (v10_or_not (rules_in bag))
      (both_decided _ _ (true_or_not (has_file bag (manifest_of Tag alg)))
      (missing_or_not (named_in bag Tag alg) (manifest_name Payload other)))

  unlisted : (kind : Kind) (alg : Alg) → HasList (IsUnlistedManifest bag kind alg)
  unlisted Payload alg = nothing _ (λ f h. h)
  unlisted Tag alg =
      same_set _ (IsUnlistedManifest bag Tag alg) (to_unlisted bag alg) (from_unlisted bag alg)
      (for_each (LacksAt bag alg) (λ other.
      one_where (unnamed (manifest_of Tag alg) alg (manifest_name Payload other)) (Lacks bag alg other)
      (lacks_or_not alg other))
      (HasManifest bag Payload) (manifests_listed bag Payload))

pub manifest_faults_are_listed : FaultsAreListed IsOfManifests
manifest_faults_are_listed bag =
    same_set (IsOfSome bag) (IsOfManifests bag) (λ f h. of_manifest_is bag f h.0 h.1.0 h.1.1) (of_some bag)
    (over_kinds (λ kind f. (alg : Alg) × IsOfManifest bag kind alg f)
    (λ kind. over_algs (IsOfManifest bag kind) (λ alg.
    either (IsUnlistedManifest bag kind alg) (IsLineFault bag kind alg) (unlisted bag kind alg)
    (lines_of bag kind alg))))
