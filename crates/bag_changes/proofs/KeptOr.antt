-- The bytes of a file that is kept, where it is there and the bag keeps it; and the rules of a bag that
-- keeps what needs no change.
use Rattle.bag_changes.proofs.Common.{◌≡◌, ◌⊎◌, ◌&&◌, ◌||◌, ◌∙◌, inl, inr, ℕ, Bool, true, false, not, cond, List}
use Rattle.bag_changes.proofs.Common.{Option, None, Some, is_some, refl, ap, sym, and_parts, false≢true}
use Rattle.bag_changes.proofs.Common.{Bag, file, has_file, is_kept, keeps, kept_or, new_rules, Renewal, rules_in}
use Rattle.std.specs.Option.{unwrap_or}
use Rattle.bag_text.specs.declared.rules.Rules.{Rules}
use Rattle.bag_text.specs.declared.rules.Rules.TheVariants.{V10, V097}
use Rattle.bag_facts.specs.Facts.{IsByV10}
use Rattle.bag_facts.specs.FactsOfBag.{IsByV097}
use Rattle.bag_renewed.specs.Renewed.{is_v10}

-- ---- the rules, by whether the bag keeps what needs no change

rules_stay : (rules : Rules) (to_1_0 : Bool) → (is_v10 rules || not to_1_0) ≡ true → cond to_1_0 V10 rules ≡ rules
rules_stay rules false is = refl
rules_stay V10 true is = refl
rules_stay V097 true is = absurd (false≢true is)

rules_change : (rules : Rules) (to_1_0 : Bool) → (is_v10 rules || not to_1_0) ≡ false
    → (rules ≡ V097) × (to_1_0 ≡ true)
rules_change V097 true is = (refl, refl)
rules_change V097 false is = absurd (false≢true (sym is))
rules_change V10 to_1_0 is = absurd (false≢true (sym is))

module _ (bag : Bag) (renewal : Renewal) where
  -- it has the rules that it had
  pub keeps_rules : keeps bag renewal ≡ true → new_rules bag renewal ≡ rules_in bag
  keeps_rules is = rules_stay (rules_in bag) renewal.to_1_0 is

  -- one of 1.0 keeps what needs no change
  pub v10_keeps : IsByV10 bag → keeps bag renewal ≡ true
  v10_keeps is = ap (λ rules. is_v10 rules || not renewal.to_1_0) is

  -- else it is one of 0.97 that becomes one of 1.0
  pub is_old : keeps bag renewal ≡ false → IsByV097 bag
  is_old is = (rules_change (rules_in bag) renewal.to_1_0 is).0

  pub becomes_v10 : keeps bag renewal ≡ false → new_rules bag renewal ≡ V10
  becomes_v10 is = ap (λ b. cond b V10 (rules_in bag)) (rules_change (rules_in bag) renewal.to_1_0 is).1

  -- ---- the bytes at a path

  module _ (path new : List ℕ) where
    abbrev pub WasKept : Type 0
    WasKept = (is_kept bag renewal path ≡ true) × (file bag path ≡ Some (kept_or bag renewal path new))

    abbrev pub WasWritten : Type 0
    WasWritten = (is_kept bag renewal path ≡ false) × (kept_or bag renewal path new ≡ new)

    by_parts : (k : Bool) (o : Option (List ℕ)) → keeps bag renewal ≡ k → file bag path ≡ o → WasKept ⊎ WasWritten
    by_parts false o k at =
        inr (ap (λ b. b && has_file bag path) k, ap (λ b. cond b (unwrap_or (file bag path) new) new) k)
    by_parts true None k at =
        inr (
          ap (λ b. b && has_file bag path) k ∙ ap is_some at,
          ap (λ b. cond b (unwrap_or (file bag path) new) new) k ∙ ap (λ o. unwrap_or o new) at,
        )
    by_parts true (Some old) k at =
        inl (
          ap (λ b. b && has_file bag path) k ∙ ap is_some at,
          at
              ∙ ap Some (sym (ap (λ b. cond b (unwrap_or (file bag path) new) new) k ∙ ap (λ o. unwrap_or o new) at)),
        )

    pub kept_or_written : WasKept ⊎ WasWritten
    kept_or_written = by_parts (keeps bag renewal) (file bag path) refl refl

  pub kept_keeps : (path : List ℕ) → is_kept bag renewal path ≡ true → keeps bag renewal ≡ true
  kept_keeps path is = (and_parts (keeps bag renewal) (has_file bag path) is).0

  -- where a file is kept, so are the rules
  pub kept_rules : (path : List ℕ) → is_kept bag renewal path ≡ true → new_rules bag renewal ≡ rules_in bag
  kept_rules path is = keeps_rules (kept_keeps path is)
