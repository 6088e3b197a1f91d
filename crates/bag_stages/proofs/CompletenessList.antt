-- Every bag has a list of the faults of its completeness and of its names.
use Rattle.bag_stages.proofs.Common.{◌≡◌, ◌⊎◌, ℕ, List, [], Option, None, Some, refl, Alg, Code, PayloadFileNotListed}
use Rattle.bag_stages.proofs.Common.{Kind, Payload, Tag, Bag, has_file, LacksFile, of_path, rules_in, IsByV10, IsByV097}
use Rattle.bag_stages.proofs.Common.{HasList, IsLeftOutByAll, IsLeftOutByOne, named_in, Names, IsClashFault}
use Rattle.bag_stages.proofs.Common.{missing_code, IsIncomplete, IsFileLeftOutByAll, IsFileLeftOutByOne, IsMissing}
use Rattle.bag_stages.proofs.Common.{IsMissingFromSome, IsFileLeftOut, IsOfPath, IsV10LeftOutByOne, IsV097LeftOutByAll}
use Rattle.bag_stages.proofs.Common.{IsV10LeftOutBySome, FaultsAreListed, IsOfCompleteness, IsPayloadFile}
use Rattle.bag_stages.proofs.BagLists.{over_algs}
use Rattle.bag_stages.proofs.HasLists.{Decided, false_or_not, one_where, same_set, either, for_each, where_so}
use Rattle.bag_stages.proofs.LeftOut.{v097_or_not, v10_or_not, by_all_or_not, by_one_or_not}
use Rattle.bag_stages.proofs.ClashList.{clash_faults_are_listed, payload_files_listed}
use Rattle.bag_stages.proofs.CompletenessFaults.{either_is, is_either}

-- the faults of those of some paths of which this holds
of_paths : (code : Code) (alg : Option Alg) (IsPath D : List ℕ → Type 0) → HasList IsPath
    → ((path : List ℕ) → Decided (D path)) → HasList (IsOfPath code alg (λ path. IsPath path × D path))
of_paths code alg IsPath D paths decided =
    same_set (λ f. (path : List ℕ) × IsPath path × (D path × (f ≡ of_path code path alg [])))
    (IsOfPath code alg (λ path. IsPath path × D path))
    (λ f h. rw h.2.1 (refl, (h.1, h.2.0)))
    (λ f h. (f.path, h.1.0, (h.1.1, h.0)))
    (for_each _ (λ path. one_where (of_path code path alg []) (D path) (decided path)) IsPath paths)

module _ (bag : Bag) where
  missing : (kind : Kind) (alg : Alg) → HasList (IsMissing bag kind alg)
  missing kind alg =
      of_paths (missing_code kind) (Some alg) (Names bag kind alg) (LacksFile bag)
      (named_in bag kind alg, λ path. (λ c. c, λ c. c)) (λ path. false_or_not (has_file bag path))

  -- payload files that are left out
  left_out : (told : Option Alg) (IsOut : List ℕ → Type 0) → ((path : List ℕ) → Decided (IsOut path))
      → HasList (IsOfPath PayloadFileNotListed told (λ path. IsPayloadFile bag path × IsOut path))
  left_out told IsOut decided =
      of_paths PayloadFileNotListed told (IsPayloadFile bag) IsOut (payload_files_listed bag) decided

  unlisted : (alg : Alg) → HasList (IsV10LeftOutByOne bag alg)
  unlisted alg =
      where_so (IsByV10 bag) (IsFileLeftOutByOne bag alg) (v10_or_not (rules_in bag))
      (left_out (Some alg) (IsLeftOutByOne bag alg) (λ path. by_one_or_not bag path alg))

  in_all : HasList (IsV097LeftOutByAll bag)
  in_all =
      where_so (IsByV097 bag) (IsFileLeftOutByAll bag) (v097_or_not (rules_in bag))
      (left_out None (IsLeftOutByAll bag) (by_all_or_not bag))

  incomplete : HasList (IsIncomplete bag)
  incomplete =
      either (λ f. IsMissingFromSome bag Payload f ⊎ IsMissingFromSome bag Tag f) (IsFileLeftOut bag)
      (either (IsMissingFromSome bag Payload) (IsMissingFromSome bag Tag)
      (over_algs (IsMissing bag Payload) (missing Payload)) (over_algs (IsMissing bag Tag) (missing Tag)))
      (either (IsV10LeftOutBySome bag) (IsV097LeftOutByAll bag) (over_algs (IsV10LeftOutByOne bag) unlisted) in_all)

pub completeness_faults_are_listed : FaultsAreListed IsOfCompleteness
completeness_faults_are_listed bag =
    same_set (λ f. IsIncomplete bag f ⊎ IsClashFault bag f) (IsOfCompleteness bag) (either_is bag) (is_either bag)
    (either (IsIncomplete bag) (IsClashFault bag) (incomplete bag) (clash_faults_are_listed bag))
