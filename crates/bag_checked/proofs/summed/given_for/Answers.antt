use Rattle.bag_checked.specs.Summed.{IsGivenFor}
use Rattle.std.specs.Prelude.{IfOk, Result, Ok, Err}
use Rattle.bag_checked.proofs.summed.given_for.Goals as goal

both : {X E : Type 0} (P Q R : X → Type 0) → ((x : X) → P x → Q x → R x) → (r : Result X E) → IfOk r P → IfOk r Q
    → IfOk r R
both P Q R f (Ok x) p q = f x p q
both P Q R f (Err e) p q = tt

pub returns : goal.returns
returns c =
    both _ _ (IsGivenFor c.args.facts.now c.args.path.now) (λ expected algs faults. record {
      algs = algs;
      faults = faults;
    }) c.expected_of.result c.expected_of.ensures.algs c.expected_of.ensures.faults
