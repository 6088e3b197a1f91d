use Rattle.bag_sources.proofs.Common.{inl, inr, sym, ap, subst, contains_cases, contains_nothing, Expected, Contains}
use Rattle.bag_stages.specs.Expected.{given}
use Rattle.bag_stages.specs.Unpacking.{still_packed}
use Rattle.bag_sources.proofs.to_sum.algs_of.Goals as goal

pub loop-alg-preserved : goal.loop-alg-preserved
loop-alg-preserved c = λ other d.
    let first = given c.in-Some.alg c.in-Some.field-0-1.now in
    let members = c.with-algs.ensures.members other.alg in
    elim (c.loop-alg.invariant other d) [
      | inl a ↦ inl (members.1 (inl a))
      | inr b ↦ elim (contains_cases first (still_packed c.next.new.self) other
          (subst (λ l. Contains l other) c.in-Some.ensures.steps b)) [
            | inl same ↦ inl (members.1 (inr (ap (λ (x : Expected). x.alg) (sym same))))
            | inr after ↦ inr after
          ]
    ]

pub returns : goal.returns
returns c = λ one d.
    elim (c.loop-alg.invariant one d) [
      | inl a ↦ a
      | inr b ↦ absurd (contains_nothing one (subst (λ l. Contains l one) c.in-None.ensures.steps.0 b))
    ]
