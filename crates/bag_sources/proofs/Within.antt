-- What stands between two bounds, by its stage.
use Rattle.bag_sources.proofs.Common.{◌≡◌, ◌≢◌, ◌<◌, ◌∙◌, inl, inr, ℕ, true, false, true≢false, List, []}
use Rattle.bag_sources.proofs.Common.{Option, refl, sym, subst, stage}
use Rattle.bag_sources.proofs.Common.{same_members, nothing_listed, fault_cmp, text_cmp, Bag, Fault}
use Rattle.bag_sources.proofs.Common.{IsListOf, Check, Full, IsOfValidity, validity_of_stage_seven, reaches}
use Rattle.bag_sources.proofs.Common.{asked_at_full, asked_is_reached, is_of_validity, of_validity, seven_not_reached}
use Rattle.bag_sources.proofs.Common.{AreAheadBefore, IsAhead, IsStageAbove, IsAbove, IsReported, IsSummed, IsToOpen}
use Rattle.bag_sources.proofs.Common.{is_passed}
use Rattle.bag_sources.proofs.Chosen.{full_or_not}
use Rattle.bag_sources.proofs.Parts.{to_before}
use Rattle.bag_sources.specs.Parts.{has_early, has_late, is_before, is_early_before, is_file_before}
use Rattle.bag_sources.specs.Parts.{is_file_within, is_late_before, is_within, whole}
use Rattle.bag_sources.specs.StartPart.{AreEarlyWithin, AreSummedWithin, AreToOpenWithin, IsAheadWithin, IsStageWithin}
use Rattle.bag_sources.specs.StartPart.{IsWithin}
use Rattle.bag_sources.specs.declared.part.Bound.{Bound}
use Rattle.bag_sources.specs.declared.part.Bound.TheVariants.{Start, File, End}
use Rattle.bag_sources.specs.declared.part.Bounds.{Bounds}

early_before : (bound : Bound) (f : Fault) → stage f.code < 7 → is_before bound f ≡ is_early_before bound
early_before Start f low = refl
early_before (File path) f low = to_before path f (inl low)
early_before End f low = refl

late_before : (bound : Bound) (f : Fault) → stage f.code ≡ 8 → is_before bound f ≡ is_late_before bound
late_before Start f eight = refl
late_before (File path) f eight = rw eight refl
late_before End f eight = refl

before_by_file : (bound : Bound) (f : Fault) → stage f.code ≡ 7 → is_before bound f ≡ is_file_before bound f.path
before_by_file Start f seven = refl
before_by_file (File path) f seven = rw seven refl
before_by_file End f seven = refl

module _ (bounds : Bounds) where
  pub within_early : (f : Fault) → stage f.code < 7 → is_within bounds f ≡ has_early bounds
  within_early f low = rw (early_before bounds.from f low, early_before bounds.until f low) refl

  pub within_late : (f : Fault) → stage f.code ≡ 8 → is_within bounds f ≡ has_late bounds
  within_late f eight = rw (late_before bounds.from f eight, late_before bounds.until f eight) refl

  pub within_by_file : (f : Fault) → stage f.code ≡ 7 → is_within bounds f ≡ is_file_within bounds f.path
  within_by_file f seven = rw (before_by_file bounds.from f seven, before_by_file bounds.until f seven) refl

  module _ (check : Check) (after : Option Fault) where
    -- the stages before that of digests stand there together
    pub early_kept : has_early bounds ≡ true → (faults : List Fault) → AreAheadBefore check 7 after faults
        → AreEarlyWithin check after bounds faults
    early_kept is faults list =
        same_members fault_cmp (λ f. IsAhead check after f × (stage f.code < 7))
        (λ f. IsAheadWithin check after bounds f × (stage f.code < 7)) faults
        (λ f h. ((h.0, within_early f h.1 ∙ is), h.1)) (λ f h. (h.0.0, h.1)) list

    pub early_left : has_early bounds ≡ false → AreEarlyWithin check after bounds []
    early_left is =
        nothing_listed fault_cmp (λ f. IsAheadWithin check after bounds f × (stage f.code < 7))
        (λ f h. true≢false (sym h.0.1 ∙ within_early f h.1 ∙ is))

    -- and so does the eighth stage
    pub late_kept : has_late bounds ≡ true → (faults : List Fault) → IsStageAbove check 8 after faults
        → IsStageWithin check 8 after bounds faults
    late_kept is faults list =
        same_members fault_cmp (IsAbove after (λ f. IsReported check f × (stage f.code ≡ 8)))
        (λ f. IsAheadWithin check after bounds f × (stage f.code ≡ 8)) faults
        (λ f h. (((h.0.0, h.1), within_late f h.0.1 ∙ is), h.0.1)) (λ f h. ((h.0.0.0, h.1), h.0.0.1)) list

    pub late_left : has_late bounds ≡ false → IsStageWithin check 8 after bounds []
    late_left is =
        nothing_listed fault_cmp (λ f. IsAheadWithin check after bounds f × (stage f.code ≡ 8))
        (λ f h. true≢false (sym h.0.1 ∙ within_late f h.1 ∙ is))

    -- at depth Full the faults of validity are those of the seventh stage
    seventh_at_full : (faults : List Fault) → check.options.depth ≡ Full
        → IsListOf fault_cmp (IsAbove after (IsWithin bounds (IsOfValidity check.bag))) faults
        → IsStageWithin check 7 after bounds faults
    seventh_at_full faults full list =
        same_members fault_cmp (IsAbove after (IsWithin bounds (IsOfValidity check.bag)))
        (λ f. IsAheadWithin check after bounds f × (stage f.code ≡ 7)) faults
        (λ f h. let at = validity_of_stage_seven check.bag f h.0.0 in (
          (((is_of_validity check.bag check.profile f h.0.0, asked_at_full check.options f.code full at), h.1), h.0.1),
          at,
        ))
        (λ f h. ((of_validity check.bag check.profile f h.0.0.0.0 h.1, h.0.1), h.0.0.1))
        list

    -- and below it there are none
    seventh_below : check.options.depth ≢ Full → IsStageWithin check 7 after bounds []
    seventh_below below =
        nothing_listed fault_cmp (λ f. IsAheadWithin check after bounds f × (stage f.code ≡ 7))
        (λ f h. let reach : reaches check.options.depth 7 ≡ true =
        subst (λ n. reaches check.options.depth n ≡ true) h.1
        (asked_is_reached check.options f.code h.0.0.0.1) in
        let clash : true ≡ false = sym reach ∙ seven_not_reached check.options.depth below in cc)

    -- the faults of files are the seventh stage, at each depth
    pub seventh : (sums : List Fault)
        → (check.options.depth ≡ Full
        → IsListOf fault_cmp (IsAbove after (IsWithin bounds (IsOfValidity check.bag))) sums)
        → (check.options.depth ≢ Full → sums ≡ []) → IsStageWithin check 7 after bounds sums
    seventh sums full none = elim (full_or_not check.options.depth) [
      | inl e ↦ seventh_at_full sums e (full e)
      | inr below ↦ subst (IsStageWithin check 7 after bounds) (sym (none below)) (seventh_below below)
    ]

    -- and the files that are still to be opened are those that it needs
    pub to_open : (paths : List (List ℕ))
        → (check.options.depth ≡ Full → AreSummedWithin check.bag after bounds paths)
        → (check.options.depth ≢ Full → paths ≡ []) → AreToOpenWithin check after bounds paths
    to_open paths full none = elim (full_or_not check.options.depth) [
      | inl e ↦ same_members text_cmp
          (λ path. (IsSummed check.bag path × (is_passed after path ≡ false)) × (is_file_within bounds path ≡ true))
          (λ path. IsToOpen check after path × (is_file_within bounds path ≡ true)) paths
          (λ path h. ((e, h.0.0, h.0.1), h.1)) (λ path h. ((h.0.1, h.0.2), h.1)) (full e)
      | inr below ↦ subst (AreToOpenWithin check after bounds) (sym (none below))
          (nothing_listed text_cmp (λ path. IsToOpen check after path × (is_file_within bounds path ≡ true))
          (λ path h. absurd (below h.0.0)))
    ]

-- all stands in the whole report
module _ (check : Check) (after : Option Fault) where
  pub all_ahead : (faults : List Fault) → IsListOf fault_cmp (IsAheadWithin check after whole) faults
      → IsListOf fault_cmp (IsAhead check after) faults
  all_ahead faults list =
      same_members fault_cmp (IsAheadWithin check after whole) (IsAhead check after) faults (λ f h. h.0)
      (λ f h. (h, refl)) list

  pub all_to_open : (paths : List (List ℕ)) → AreToOpenWithin check after whole paths
      → IsListOf text_cmp (IsToOpen check after) paths
  all_to_open paths list =
      same_members text_cmp (λ path. IsToOpen check after path × (is_file_within whole path ≡ true))
      (IsToOpen check after) paths (λ path h. h.0) (λ path h. (h, refl)) list

module _ (bag : Bag) (after : Option Fault) where
  pub all_faults : (faults : List Fault)
      → IsListOf fault_cmp (IsAbove after (IsWithin whole (IsOfValidity bag))) faults
      → IsListOf fault_cmp (IsAbove after (IsOfValidity bag)) faults
  all_faults faults list =
      same_members fault_cmp (IsAbove after (IsWithin whole (IsOfValidity bag))) (IsAbove after (IsOfValidity bag))
      faults (λ f h. (h.0.0, h.1)) (λ f h. ((h.0, refl), h.1)) list

  pub all_files : (paths : List (List ℕ)) → AreSummedWithin bag after whole paths
      → IsListOf text_cmp (λ path. IsSummed bag path × (is_passed after path ≡ false)) paths
  all_files paths list =
      same_members text_cmp
      (λ path. (IsSummed bag path × (is_passed after path ≡ false)) × (is_file_within whole path ≡ true))
      (λ path. IsSummed bag path × (is_passed after path ≡ false)) paths (λ path h. h.0) (λ path h. (h, refl)) list
