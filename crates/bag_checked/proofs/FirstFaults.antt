-- The first fault of a bag, stage by stage.
use Rattle.bag_checked.proofs.Common.{◌+◌, ◌<◌, ◌∷◌, ◌≡◌, ◌⊎◌, inl, inr, ℕ, List, None, Contains, arith, refl}
use Rattle.bag_checked.proofs.Common.{subst, sym, contains_cases, contains_first, Bag}
use Rattle.std.proofs.lemmas.Bool.{cases_order}
use Rattle.std.specs.Cmp.{nat_cmp_is}
use Rattle.std.specs.List.Sorted.{IsStrictlySortedBy}
use Rattle.std.specs.declared.cmp.Ordering.TheVariants.{Less}
use Rattle.bag_text.proofs.ListOf.{member_has}
use Rattle.bag_text.specs.Code.{stage}
use Rattle.bag_text.specs.Order.{IsListOf}
use Rattle.bag_text.specs.declared.code.Code.{Code}
use Rattle.bag_faults.proofs.Ascending.{not_both, not_less_than_itself}
use Rattle.bag_faults.proofs.Ordered.{fault_cmp_total}
use Rattle.bag_facts.specs.FactsOfBag.{IsFactsOf}
use Rattle.bag_faults.specs.FaultOrder.{fault_cmp}
use Rattle.bag_facts.specs.declared.facts.Facts.{Facts}
use Rattle.bag_faults.specs.declared.fault.Fault.{Fault}
use Rattle.bag_report.specs.Stages.{IsStageOf, check_of_facts}
use Rattle.bag_checked.specs.FirstFaults.{HasNoneAt, HasNoneBefore, IsFaultBy, IsFirst, IsFoundAt, IsFoundFirst}
use Rattle.bag_checked.specs.declared.checked.Unchecked.{Unchecked}
use Rattle.bag_checked.specs.declared.checked.Unchecked.TheVariants.{Faulty, Stopped}

-- the first of an ascending list is the first of its members
pub first_listed : (Member : Fault → Type 0) (xs rest : List Fault) (fault : Fault) → IsListOf fault_cmp Member xs
    → xs ≡ fault ∷ rest → IsFirst Member fault
unfolding IsStrictlySortedBy
first_listed Member xs rest fault list same =
    let up : IsStrictlySortedBy fault_cmp (fault ∷ rest) = subst (IsStrictlySortedBy fault_cmp) same list.ascending in
    record {
      member =
          (list.members fault).0
          (subst (λ (ys : List Fault). Contains ys fault) (sym same) (contains_first fault rest));
      none_less = λ f is less. elim (contains_cases fault rest f
          (subst (λ (ys : List Fault). Contains ys f) same ((list.members f).1 is))) [
            | inl one ↦ not_less_than_itself fault_cmp_total f fault (sym one) less
            | inr later ↦ not_both fault_cmp_total f fault less
                (member_has (λ y. fault_cmp fault y ≡ Less) rest f up.0 later)
          ];
    }

less_by_stage : (x y : Fault) → stage x.code < stage y.code → fault_cmp x y ≡ Less
less_by_stage x y less = rw (sym (nat_cmp_is (stage x.code) (stage y.code) Less less)) refl

no_stage_zero : (c : Code) → stage c < 1 → ⊥
no_stage_zero c h = grind arith

module _ (facts : Facts) where
  pub before_first : HasNoneBefore facts 1
  before_first bag of f is before = no_stage_zero f.code before

  pub one_more : (k : ℕ) → HasNoneBefore facts k → HasNoneAt facts k → HasNoneBefore facts (k + 1)
  one_more k none at bag of f is before = grind arith

  pub first_in_stage : (k : ℕ) (faults rest : List Fault) (fault : Fault)
      → ((bag : Bag) → IsFactsOf bag facts → IsStageOf (check_of_facts bag None facts) k faults)
      → faults ≡ fault ∷ rest → IsFoundAt facts k (Faulty fault)
  first_in_stage k faults rest fault list same = λ bag of.
      first_listed (λ f. IsFaultBy facts bag f × (stage f.code ≡ k)) faults rest fault (list bag of) same

  -- where stages before have none, it is the first of all
  module _ (k : ℕ) (none : HasNoneBefore facts k) (bag : Bag) (of : IsFactsOf bag facts) (fault : Fault)
      (first : IsFirst (λ f. IsFaultBy facts bag f × (stage f.code ≡ k)) fault) where
    by_stage : (f : Fault) → IsFaultBy facts bag f → fault_cmp f fault ≡ Less
        → (stage f.code ≡ k) ⊎ ((stage f.code < k) ⊎ (k < stage f.code)) → ⊥
    by_stage f is less (inl same) = first.none_less f (is, same) less
    by_stage f is less (inr (inl before)) = none bag of f is before
    by_stage f is less (inr (inr after)) =
        not_both fault_cmp_total f fault less
        (less_by_stage fault f (subst (λ n. n < stage f.code) (sym first.member.1) after))

    first_of_all : IsFirst (IsFaultBy facts bag) fault
    first_of_all =
        record {
          member = first.member.0;
          none_less = λ f is less. by_stage f is less (cases_order (stage f.code) k);
        }

  pub found_first : (k : ℕ) → k < 7 → (e : Unchecked) → HasNoneBefore facts k → IsFoundAt facts k e
      → IsFoundFirst facts e
  found_first k lt (Stopped stop) none h = h
  found_first k lt (Faulty fault) none h = λ bag of. (
    subst (λ n. n < 7) (sym (h bag of).member.1) lt,
    first_of_all k none bag of fault (h bag of),
  )
