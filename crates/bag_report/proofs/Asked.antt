-- The faults of a stage that are asked for.
use Rattle.bag_report.proofs.Common.{◌≡◌, ◌≢◌, ◌<◌, ℕ, List, [], true, false, sym, subst, ◌∙◌, filter, arith, and_parts}
use Rattle.bag_report.proofs.Common.{stage, IsListOf, NameClash, nothing_listed, same_members, fault_cmp, Fault}
use Rattle.bag_report.proofs.Common.{reaches, Check, is_fast, IsStageOf, IsFoundAt}
use Rattle.std.proofs.lemmas.Bool.Decides.{nat_tests}
use Rattle.bag_text.specs.declared.code.Code.{Code}
use Rattle.bag_faults.specs.declared.options.Depth.{Depth}
use Rattle.bag_faults.specs.declared.options.Depth.TheVariants.{Declaration, Full}
use Rattle.bag_faults.specs.declared.options.Options.{Options}
use Rattle.bag_report.specs.Report.{asks}
use Rattle.bag_report.proofs.Filtered.{filtered_list}

fast_reaches : (d : Depth) → is_fast d ≡ true → reaches d 3 ≡ true
fast_reaches d e = grind arith

-- what is asked for is of a stage that the depth reaches
pub asked_is_reached : (options : Options) (c : Code) → asks options c ≡ true → reaches options.depth (stage c) ≡ true
unfolding asks
asked_is_reached options c e = grind (arith, fast_reaches, and_parts)

-- at depth Full the faults of the seventh stage are
pub asked_at_full : (options : Options) (c : Code) → options.depth ≡ Full → stage c ≡ 7 → asks options c ≡ true
unfolding asks
asked_at_full options c e at = grind arith

-- and no other depth reaches it
pub seven_not_reached : (d : Depth) → d ≢ Full → reaches d 7 ≡ false
seven_not_reached d below = grind arith

-- a clash of names is asked for only where clashes are
pub asked_clash : (options : Options) (c : Code) → asks options c ≡ true → c ≡ NameClash → options.clashes ≡ true
unfolding asks
asked_clash options c e is = (and_parts _ _ (subst (λ d. asks options d ≡ true) is e)).0

module _ (check : Check) (k : ℕ) (faults : List Fault) where
  -- nothing is asked for of a stage that the depth doesn't reach
  pub not_reached : reaches check.options.depth k ≡ false → faults ≡ [] → IsStageOf check k faults
  not_reached beyond none = rw none (nothing_listed fault_cmp _
      (λ f h. let reach : reaches check.options.depth k
      ≡ true = subst (λ n. reaches check.options.depth n ≡ true) h.1 (asked_is_reached check.options f.code h.0.1)
      in
      let clash : true ≡ false = sym reach ∙ beyond in cc))

  -- those of the faults that a stage finds which are asked for
  pub asked_of_stage : IsListOf fault_cmp (IsFoundAt check.options.clashes check.bag check.profile k) faults
      → IsStageOf check k (filter (λ f. asks check.options f.code) faults)
  asked_of_stage list =
      let IsFound : Fault → Type 0 = IsFoundAt check.options.clashes check.bag check.profile k in
      same_members fault_cmp (λ f. IsFound f × (asks check.options f.code ≡ true)) _ _
      (λ f h. ((h.0.0, h.1), h.0.1))
      (λ f h. ((h.0.0, h.1, asked_clash check.options f.code h.0.1), h.0.1))
      (filtered_list fault_cmp IsFound (λ f. asks check.options f.code) faults list)

-- a depth that reaches a stage above the first reads more than the declaration
pub reads_more : (d : Depth) (k : ℕ) → reaches d k ≡ true → 1 < k → d ≢ Declaration
reads_more d k h two = grind (arith, nat_tests)
