use Rattle.bag_checked.proofs.Common.{inl, inr, sym, ap, subst, contains_cases, contains_nothing, Contains}
use Rattle.bag_stages.specs.Expected.{Expected, given}
use Rattle.bag_stages.specs.Unpacking.{still_packed}
use Rattle.bag_checked.proofs.checked.with_given.Goals as goal

pub loop-alg-preserved : goal.loop-alg-preserved
loop-alg-preserved c = (
  λ other d.
      let first = given c.in-Some.alg c.in-Some.field-0-1.now in
      let members = c.with-all.ensures.members other.alg in
      elim (c.loop-alg.invariant.0 other d) [
        | inl a ↦ inl (members.1 (inl a))
        | inr b ↦ elim (contains_cases first (still_packed c.next.new.self) other
            (subst (λ l. Contains l other) c.in-Some.ensures.steps b)) [
              | inl same ↦ inl (members.1 (inr (ap (λ (x : Expected). x.alg) (sym same))))
              | inr after ↦ inr after
            ]
      ],
  λ alg has. (c.with-all.ensures.members alg).1 (inl (c.loop-alg.invariant.1 alg has)),
)

pub returns-clause-given : goal.returns-clause-given
returns-clause-given c = λ one d.
    elim (c.loop-alg.invariant.0 one d) [
      | inl a ↦ a
      | inr b ↦ absurd (contains_nothing one (subst (λ l. Contains l one) c.in-None.ensures.steps.0 b))
    ]
