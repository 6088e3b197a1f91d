-- A greater cursor has passed more files.
use Rattle.bag_sources.proofs.Common.{◌≡◌, ◌≢◌, ◌<◌, ◌≤◌, ◌∙◌, ◌==◌, ◌&&◌, inl, ℕ, true}
use Rattle.bag_sources.proofs.Common.{List, Some, nat_lt, refl, sym, ap}
use Rattle.bag_sources.proofs.Common.{arith, nat_list_cmp_total, ordering_reverse, Ordering, Less, Greater, eq-eqb}
use Rattle.bag_sources.proofs.Common.{eqb-true, lt-ltb, ltb-true, or_left, or_right}
use Rattle.bag_sources.proofs.Common.{stage, text_cmp}
use Rattle.bag_sources.proofs.Common.{fault_cmp, Fault, not_both, fault_cmp_total}
use Rattle.bag_sources.proofs.Common.{less_by_path, is_passed}
use Rattle.bag_sources.proofs.Common.{is_lt, and_parts, cases_lt, inr, or_cases}
use Rattle.bag_tree.proofs.SameText.{exact_texts}
use Rattle.bag_sources.proofs.Chosen.{less_by_stage, less_is}

less_on : (x y path : List ℕ) (r : Ordering) → text_cmp x y ≡ Less → text_cmp y path ≡ r → r ≢ Greater
    → text_cmp x path ≡ Less
less_on x y path r less is other = grind (arith, nat_list_cmp_total.trans x y path, exact_texts y path)

module _ (f g : Fault) (less : fault_cmp f g ≡ Less) (path : List ℕ) where
  pub no_earlier : stage f.code ≤ stage g.code
  no_earlier =
      elim (cases_lt (stage g.code) (stage f.code))
      [ inl low ↦ absurd (not_both fault_cmp_total f g less (less_by_stage g f low)) | inr le ↦ le ]

  pub not_above : stage g.code ≡ stage f.code → text_cmp f.path g.path ≢ Greater
  not_above same is =
      not_both fault_cmp_total f g less
      (less_by_path g f same (nat_list_cmp_total.antisymm g.path f.path ∙ ap ordering_reverse is))

  past_seven : 7 < stage g.code → is_passed (Some g) path ≡ true
  past_seven past =
      or_left (nat_lt 7 (stage g.code)) (stage g.code == 7 && is_lt (text_cmp path g.path))
      (lt-ltb 7 (stage g.code) past)

  at_seven : stage g.code ≡ 7 → text_cmp path g.path ≡ Less → is_passed (Some g) path ≡ true
  at_seven seven below = grind (arith, eq-eqb, or_right, nat_lt, is_lt)

  from_seven : stage f.code ≡ 7 → text_cmp path f.path ≡ Less → is_passed (Some g) path ≡ true
  from_seven seven below = elim (cases_lt 7 (stage g.code)) [
    | inl past ↦ past_seven past
    | inr most ↦ (let now : stage g.code ≡ 7 = omega (arith, most, no_earlier, seven) in
        at_seven now (less_on path f.path g.path (text_cmp f.path g.path) below refl (not_above (now ∙ sym seven))))
  ]

  pub passed_on : is_passed (Some f) path ≡ true → is_passed (Some g) path ≡ true
  passed_on passed = grind (arith, or_cases, and_parts, eqb-true, ltb-true, less_is, from_seven, no_earlier, past_seven)
