-- Every bag has a list of the faults of its validity.
use Rattle.bag_stages.proofs.Common.{arith, ◌≡◌, ◌≢◌, ℕ, List, Option, None, Some, refl, sym, ◌∙◌, is_utf8, Alg}
use Rattle.bag_stages.proofs.Common.{IsEntry, Kind, ManifestEntry, some_entries, Bag, file, digest, rules_in, HasList}
use Rattle.bag_stages.proofs.Common.{lines_or_none, manifest_of, IsEntryIn, IsOfValidity, FaultsAreListed}
use Rattle.bag_stages.proofs.BagLists.{over_algs, over_kinds, other_or_not}
use Rattle.bag_stages.proofs.HasLists.{nothing, one_where, same_set, for_each}
use Rattle.bag_stages.proofs.ValidityFaults.{sum_fault, IsOfEntry, IsOfKind, IsOfManifest, IsOfSomeEntry}
use Rattle.bag_stages.proofs.ValidityFaults.{entry_of_validity, validity_of_entry}

-- the entries of what is at the place of a manifest
entries_or_none : (bag : Bag) (kind : Kind) (alg : Alg) (content : Option (List ℕ))
    → HasList (IsEntry (rules_in bag) kind alg (lines_or_none content))
entries_or_none bag kind alg None = nothing _ (λ e h. let clash : None ≡ Some h.0 = h.1.1 in cc)
entries_or_none bag kind alg (Some bytes) =
    let entries = some_entries (rules_in bag) kind alg bytes (is_utf8 bytes) refl in (entries.0, entries.1.members)

module _ (bag : Bag) where
  pub entries_listed : (kind : Kind) (alg : Alg) → HasList (IsEntryIn bag kind alg)
  entries_listed kind alg = entries_or_none bag kind alg (file bag (manifest_of kind alg))

  -- the fault of an entry's file, where it is there and has another digest
  of_file : (kind : Kind) (alg : Alg) (entry : ManifestEntry) (content : Option (List ℕ))
      → file bag entry.path ≡ content → HasList (IsOfEntry bag kind alg entry)
  of_file kind alg entry None e = nothing _ (λ f h. let clash : None ≡ Some h.0 = sym e ∙ h.1 in cc)
  of_file kind alg entry (Some content) e =
      same_set _ (IsOfEntry bag kind alg entry)
      (λ f h. (content, e, h.0, h.1))
      (λ f h. grind arith)
      (one_where (sum_fault kind alg entry content) (entry.digest ≢ digest alg content)
      (other_or_not entry.digest (digest alg content)))

  of_manifest : (kind : Kind) (alg : Alg) → HasList (IsOfManifest bag kind alg)
  of_manifest kind alg =
      for_each (IsOfEntry bag kind alg) (λ entry. of_file kind alg entry (file bag entry.path) refl)
      (IsEntryIn bag kind alg) (entries_listed kind alg)

  of_some_entry : HasList (IsOfSomeEntry bag)
  of_some_entry = over_kinds (IsOfKind bag) (λ kind. over_algs (IsOfManifest bag kind) (of_manifest kind))

pub validity_faults_are_listed : FaultsAreListed IsOfValidity
validity_faults_are_listed bag =
    same_set (IsOfSomeEntry bag) (IsOfValidity bag) (entry_of_validity bag) (validity_of_entry bag) (of_some_entry bag)
