-- The faults of completeness and of names.
use Rattle.bag_stages.proofs.Common.{arith, ◌≡◌, ◌⊎◌, inl, inr, ◌++◌, List, [], Bool, None, Some, refl, sym, ap, subst}
use Rattle.bag_stages.proofs.Common.{is_lt, IsPermutation, IsSortedBy, stage, IsListOf, Code, PayloadFileMissing}
use Rattle.bag_stages.proofs.Common.{TagFileMissing, PayloadFileNotListed, NameClash, same_members, Kind, Payload, Tag}
use Rattle.bag_stages.proofs.Common.{Bag, fault_cmp, Fault, rules_in, At, IsLeftOut, IsClashFault, IsSoughtClash}
use Rattle.bag_stages.proofs.Common.{missing_code, HasEachOnce, IsIncomplete, IsMissingFromSome, IsFileLeftOut}
use Rattle.bag_stages.proofs.Common.{IsV097LeftOutByAll, IsWrongOfSome, FaultsAreOfStage, IsPayloadFile}
use Rattle.bag_stages.proofs.Common.{IsSoughtInStageSix}
use Rattle.bag_stages.proofs.LeftOut.{by_all, by_one, left_out_by, not_both}
use Rattle.bag_stages.specs.CompletenessStage.{CompletenessHolds, IsOfCompleteness}
use Rattle.bag_stages.proofs.FaultFields.{has_fields, made_of}
use Rattle.bag_stages.proofs.Sorted.{both_once, once_listed, same_once, sorted_once}

-- what the codes of the stage say
module _ (bag : Bag) (f : Fault) where
  holds_stage : (c : Code) → CompletenessHolds bag f c → stage c ≡ 6
  unfolding CompletenessHolds
  holds_stage PayloadFileMissing h = refl
  holds_stage c h = grind arith

  missing_code_is : (kind : Kind) → IsMissingFromSome bag kind f → f.code ≡ missing_code kind
  missing_code_is kind (alg, (is, wrong)) = ap (λ (x : Fault). x.code) is

  unlisted_code_is : IsFileLeftOut bag f → f.code ≡ PayloadFileNotListed
  unlisted_code_is h = grind arith

  not_listed : f.code ≡ PayloadFileNotListed → At f f.path f.alg 0 [] → IsPayloadFile bag f.path
      → IsLeftOut (rules_in bag) bag f.alg f.path → IsFileLeftOut bag f
  not_listed e at here out = elim (left_out_by bag f.path (rules_in bag) f.alg out) [
    | inl (by, (alg, is, left)) ↦ inl
        (alg, (by, (made_of f PayloadFileNotListed f.path (Some alg) 0 [] e (rw (sym is) at), (here, left))))
    | inr (by, is, left) ↦ inr (by, (made_of f PayloadFileNotListed f.path None 0 [] e (rw (sym is) at), (here, left)))
  ]

  incomplete_is : IsIncomplete bag f → IsOfCompleteness bag f
  unfolding IsOfCompleteness CompletenessHolds
  incomplete_is (inl (inl (alg, (is, (named, lacks))))) =
      subst (CompletenessHolds bag f) (sym (ap (λ (x : Fault). x.code) is))
      (alg, has_fields f PayloadFileMissing f.path (Some alg) 0 [] is, named, lacks)
  incomplete_is (inl (inr (alg, (is, (named, lacks))))) =
      subst (CompletenessHolds bag f) (sym (ap (λ (x : Fault). x.code) is))
      (alg, has_fields f TagFileMissing f.path (Some alg) 0 [] is, named, lacks)
  incomplete_is (inr (inl (alg, (by, (is, (here, out)))))) = grind (arith, has_fields, by_one)
  incomplete_is (inr (inr (by, (is, (here, out))))) = grind (arith, has_fields, by_all)

  no_clash : IsIncomplete bag f → f.code ≡ NameClash → ⊥
  no_clash h e = grind (arith, missing_code_is, unlisted_code_is)

  of_holds : (c : Code) → f.code ≡ c → CompletenessHolds bag f c → IsIncomplete bag f ⊎ (f.code ≡ NameClash)
  unfolding CompletenessHolds
  of_holds NameClash e h = inr e
  of_holds c e h = grind (arith, made_of, not_listed)

  pub either_is : IsIncomplete bag f ⊎ IsClashFault bag f → IsOfCompleteness bag f
  either_is h = grind (arith, incomplete_is)

  pub is_either : IsOfCompleteness bag f → IsIncomplete bag f ⊎ IsClashFault bag f
  unfolding IsOfCompleteness
  is_either h = elim (of_holds f.code refl h) [ inl a ↦ inl a | inr e ↦ inr (h, e) ]

  unlisted_apart : IsMissingFromSome bag Payload f ⊎ IsMissingFromSome bag Tag f → IsFileLeftOut bag f → ⊥
  unlisted_apart h k = grind (arith, missing_code_is, unlisted_code_is)

pub completeness_of_stage_six : FaultsAreOfStage 6 IsOfCompleteness
unfolding IsOfCompleteness
completeness_of_stage_six bag f h = holds_stage bag f f.code h

module _ (bag : Bag) where
  abbrev OfOne : Fault → Type 0
  OfOne f = IsWrongOfSome bag f ⊎ IsMissingFromSome bag Tag f

  one_or_all : (f : Fault) → OfOne f ⊎ IsV097LeftOutByAll bag f → IsIncomplete bag f
  one_or_all f h = grind arith

  of_one_or_all : (f : Fault) → IsIncomplete bag f → OfOne f ⊎ IsV097LeftOutByAll bag f
  of_one_or_all f h = grind arith

  tags_apart : (f : Fault) → IsWrongOfSome bag f → IsMissingFromSome bag Tag f → ⊥
  tags_apart f h k = grind (arith, missing_code_is bag f, unlisted_apart bag f)

  all_apart : (f : Fault) → OfOne f → IsV097LeftOutByAll bag f → ⊥
  all_apart f h k = grind (arith, unlisted_apart bag f, not_both)

  -- what payload manifests are wrong about, then tag manifests, and then all payload manifests at once
  pub incomplete_once : (payload tag all : List Fault) → HasEachOnce (IsWrongOfSome bag) payload
      → HasEachOnce (IsMissingFromSome bag Tag) tag → IsListOf fault_cmp (IsV097LeftOutByAll bag) all
      → HasEachOnce (IsIncomplete bag) ((payload ++ tag) ++ all)
  incomplete_once payload tag all p t a =
      same_once _ _ ((payload ++ tag) ++ all) one_or_all of_one_or_all
      (both_once OfOne (IsV097LeftOutByAll bag) (payload ++ tag) all all_apart
      (both_once _ _ payload tag tags_apart p t) (once_listed _ all a))

  pub sought_is : (clashes : Bool) (f : Fault) → IsIncomplete bag f ⊎ IsSoughtClash clashes bag f
      → IsSoughtInStageSix clashes bag f
  sought_is clashes f h = grind (arith, incomplete_is, no_clash)

  pub is_sought : (clashes : Bool) (f : Fault) → IsSoughtInStageSix clashes bag f
      → IsIncomplete bag f ⊎ IsSoughtClash clashes bag f
  is_sought clashes f h = elim (is_either bag f h.0) [ inl a ↦ inl a | inr clash ↦ inr (clash, h.1 clash.1) ]

  -- both, sorted
  pub all_sought : (clashes : Bool) (files names all : List Fault) → HasEachOnce (IsIncomplete bag) files
      → IsListOf fault_cmp (IsSoughtClash clashes bag) names
      → IsPermutation (files ++ names) all → IsSortedBy (λ x y. is_lt (fault_cmp x y)) all
      → IsListOf fault_cmp (IsSoughtInStageSix clashes bag) all
  all_sought clashes files names all once list perm sorted =
      same_members fault_cmp _ _ all (sought_is clashes) (is_sought clashes)
      (sorted_once (λ f. IsIncomplete bag f ⊎ IsSoughtClash clashes bag f) (files ++ names) all
      (both_once _ _ files names (λ f h k. no_clash bag f h k.0.1) once (once_listed _ names list)) perm sorted)
