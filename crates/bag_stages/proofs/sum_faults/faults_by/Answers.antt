use Rattle.bag_stages.proofs.Common.{◌∙◌, ◌∷◌, [], None, Some, sym, subst, append_assoc, Contains, filter_map}
use Rattle.bag_stages.proofs.Common.{differing, faults_of_bytes}
use Rattle.bag_stages.proofs.SumFaults.{looked_at}
use Rattle.bag_stages.specs.Expected.{given}
use Rattle.bag_stages.specs.Unpacking.{still_packed}
use Rattle.bag_text.proofs.ListOf.{contains_behind, contains_first}
use Rattle.bag_stages.proofs.sum_faults.faults_by.Goals as goal

pub loop-alg-preserved-in_default : goal.loop-alg-preserved-in_default
loop-alg-preserved-in_default c =
    let one = given c.in-Some.alg c.in-Some.digest.now in
    let rest = still_packed c.next.new.self in
    let first = c.in-Some.ensures.steps in
    let among = c.loop-alg.invariant.among in
    record {
      faults = λ content sums.
          looked_at (differing c.args.path.now content) one (still_packed c.loop-alg.alg-iterator) rest
          c.loop-alg.faults.items (faults_of_bytes c.args.path.now content c.args.expected.now) None first
          (c.loop-alg.invariant.faults content sums)
          (sym c.in_default.is
          ∙ c.in_ok-fault.ensures content
          (among content sums one (subst (λ l. Contains l one) (sym first)
          (contains_first one rest))));
      among = λ content sums other d.
          among content sums other
          (subst (λ l. Contains l other) (sym first) (contains_behind one rest other d));
    }

pub loop-alg-preserved : goal.loop-alg-preserved
loop-alg-preserved c =
    let one = given c.in-Some.alg c.in-Some.digest.now in
    let rest = still_packed c.next.new.self in
    let first = c.in-Some.ensures.steps in
    let among = c.loop-alg.invariant.among in
    record {
      faults = λ content sums.
          rw c.in_ok-push.ensures.items
          (append_assoc c.loop-alg.faults.items (c.in-Some-2.fault ∷ [])
          (filter_map (differing c.args.path.now content) rest)
          ∙ looked_at (differing c.args.path.now content) one (still_packed c.loop-alg.alg-iterator) rest
          c.loop-alg.faults.items (faults_of_bytes c.args.path.now content c.args.expected.now)
          (Some c.in-Some-2.fault) first (c.loop-alg.invariant.faults content sums)
          (sym c.in-Some-2.is
          ∙ c.in_ok-fault.ensures content
          (among content sums one (subst (λ l. Contains l one) (sym first)
          (contains_first one rest)))));
      among = λ content sums other d.
          among content sums other
          (subst (λ l. Contains l other) (sym first) (contains_behind one rest other d));
    }
