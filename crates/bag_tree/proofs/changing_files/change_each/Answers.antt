use Rattle.bag_tree.proofs.Common.{◌≡◌, ◌+◌, ◌-◌, length, refl, arith}
use Rattle.std.proofs.lemmas.Option.{slice_get_read}
use Rattle.bag_tree.proofs.ChangingFiles.{none_changed, one_more_changed}
use Rattle.bag_tree.proofs.changing_files.change_each.Goals as goal

pub loop-place-init : goal.loop-place-init
loop-place-init g c = none_changed c.args.beside.now c.args.changes.now (g.T.Tree.state c.args.tree.now)

pub returns-in-Err-clause-stopped : goal.returns-in-Err-clause-stopped
returns-in-Err-clause-stopped g c =
    let back : c.loop-place.place + 1 - 1 ≡ c.loop-place.place = omega arith in
    record {
      first = omega arith;
      change = c.index-changes-place.result;
      place =
          rw back (slice_get_read c.args.changes.now (length c.args.changes.now) c.loop-place.place _ refl
          c.loop-place-test.true c.index-changes-place.is);
      before = g.T.Tree.state c.loop-place.tree;
      changed = rw back c.loop-place.invariant;
      left = c.in-Err.ensures.left;
      refused = c.in-Err.ensures.refused;
      answered = c.in-Err.ensures.answered;
      asked = c.in-Err.ensures.asked;
    }

pub loop-place-preserved : goal.loop-place-preserved
loop-place-preserved g c =
    one_more_changed c.args.beside.now c.args.changes.now c.loop-place.place c.index-changes-place.result _ _ _
    c.loop-place-test.true c.index-changes-place.is c.loop-place.invariant
    c.in_default.ensures.done c.in_default.ensures.no_failure c.in_default.ensures.asked
