-- The rules of the renewed bag: those of its declaration, which is kept, or written.
use Rattle.bag_renew.proofs.Common.{◌≡◌, ◌||◌, ◌&&◌, ◌∙◌, ℕ, Bool, true, false, not, cond, List, Option, None, Some}
use Rattle.bag_renew.proofs.Common.{is_some, refl, ap, sym, tag_path, Declaration, Bag, file, has_file, is_kept, keeps}
use Rattle.bag_renew.proofs.Common.{new_rules, Renewal}
use Rattle.std.specs.Prelude.{option_and_then}
use Rattle.bag_text.specs.Rules.{rules_of}
use Rattle.bag_text.specs.declared.rules.Rules.{Rules}
use Rattle.bag_text.specs.declared.rules.Rules.TheVariants.{V10, V097}
use Rattle.bag_read.specs.Declaration.{declared_version}
use Rattle.bag_facts.specs.Facts.{IsByV10, rules_in}
use Rattle.bag_facts.specs.FactsOfBag.{IsByV097}
use Rattle.bag_renewed.specs.Renewed.{is_v10}
use Rattle.bag_changes.proofs.KeptOr.{becomes_v10, keeps_rules}

v10_stays : (to_1_0 : Bool) → cond to_1_0 V10 V10 ≡ V10
v10_stays true = refl
v10_stays false = refl

v097_was : (to_1_0 : Bool) (rules : Rules) → cond to_1_0 V10 rules ≡ V097 → (rules ≡ V097) × (to_1_0 ≡ false)
v097_was true rules is = cc
v097_was false rules is = (is, refl)

-- the rules of a bag are those of its declaration
pub by_content : (b : Bag) (o : Option (List ℕ)) → file b (tag_path Declaration) ≡ o
    → rules_in b ≡ rules_of (option_and_then declared_version o)
unfolding rules_in
by_content b o at = ap (λ (content : Option (List ℕ)). rules_of (option_and_then declared_version content)) at

none_by : (o : Option (List ℕ)) → is_some o ≡ false → o ≡ None
none_by None lacks = refl
none_by (Some c) lacks = cc

module _ (bag : Bag) (renewal : Renewal) where
  -- a bag of 1.0 stays one
  pub still_v10 : IsByV10 bag → new_rules bag renewal ≡ V10
  still_v10 v10 = ap (λ rules. cond renewal.to_1_0 V10 rules) v10 ∙ v10_stays renewal.to_1_0

  -- a renewed bag of 0.97 was one, and keeps what needs no change
  pub was_v097 : new_rules bag renewal ≡ V097 → IsByV097 bag
  was_v097 is = (v097_was renewal.to_1_0 (rules_in bag) is).0

  pub v097_keeps : new_rules bag renewal ≡ V097 → keeps bag renewal ≡ true
  v097_keeps is =
      let was = v097_was renewal.to_1_0 (rules_in bag) is in
      ap (λ rules. is_v10 rules || not renewal.to_1_0) was.0 ∙ ap (λ asked. is_v10 V097 || not asked) was.1

  written_by : (k : Bool) → keeps bag renewal ≡ k → is_kept bag renewal (tag_path Declaration) ≡ false
      → new_rules bag renewal ≡ V10
  written_by false k isnt = becomes_v10 bag renewal k
  written_by true k isnt =
      let lacks : has_file bag (tag_path Declaration) ≡ false =
      sym (ap (λ b. b && has_file bag (tag_path Declaration)) k) ∙ isnt in
      keeps_rules bag renewal k ∙ by_content bag None (none_by (file bag (tag_path Declaration)) lacks)

  -- where the declaration is written, they are those of 1.0
  pub of_written : is_kept bag renewal (tag_path Declaration) ≡ false → new_rules bag renewal ≡ V10
  of_written isnt = written_by (keeps bag renewal) refl isnt

  -- and a bag that has them keeps what needs no change
  pub renewed_keeps : (b : Bag) → rules_in b ≡ new_rules bag renewal → keeps b renewal ≡ true
  renewed_keeps b same =
      ap (λ rules. is_v10 rules || not renewal.to_1_0) same ∙ keeps_by renewal.to_1_0 (rules_in bag)
    where
      keeps_by : (to_1_0 : Bool) (rules : Rules) → (is_v10 (cond to_1_0 V10 rules) || not to_1_0) ≡ true
      keeps_by true rules = refl
      keeps_by false V10 = refl
      keeps_by false V097 = refl
