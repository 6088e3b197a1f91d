use Rattle.bag_store.proofs.Common.{arith}
use Rattle.bag_store.proofs.BagSteps.{free_not_within, has_both}
use Rattle.bag_store.proofs.ChangedTree.{count_grows, moved_changed, step_same}
use Rattle.bag_store.proofs.Durable.{moved_durable, synced_durable}
use Rattle.bag_store.proofs.RefusedCalls.{move_answered_so, tells_move}
use Rattle.bag_store.proofs.file_tree.FileTreeWriteTree.move_in.Goals as goal

pub returns-in-Ok-clause-moves : goal.returns-in-Ok-clause-moves
returns-in-Ok-clause-moves g c = record {
  changed =
      moved_changed _ _ _ _ _ _ c.give.ensures.given c.args.top.now c.args.folder.now (g.met.D.Disk.is_disk c.args.self.now.disk)
      (g.met.D.Disk.is_disk c.move_in.new.disk) c.requires.top
      c.in-Ok.ensures.failures c.give.ensures.failures c.in-Ok.ensures.closed c.in-Ok.ensures.moved;
  no_failure = grind arith;
  possible = λ honest.
      let moves = c.in-Ok.ensures.moved honest in (
        has_both _ c.args.top.now c.args.folder.now c.requires.folder moves.folder_is moves.source,
        free_not_within _ _ (g.met.D.Disk.is_disk c.args.self.now.disk) moves.free,
      );
  last = grind arith;
  leaves = tt;
  refused = tt;
  asked = c.in-Ok.ensures.asked;
}

pub returns-in-Err-clause-moves : goal.returns-in-Err-clause-moves
returns-in-Err-clause-moves g c = record {
  changed = tt;
  no_failure = tt;
  possible = tt;
  last = grind arith;
  leaves =
      step_same _ _ _ _ _ _ c.refuse.ensures.given c.in-Err.ensures.same
      (count_grows c.in-Err.refusal _ _ _ _ c.in-Err.ensures.failures c.refuse.ensures.failures);
  refused =
      move_answered_so (g.D.Disk.state c.args.self.now.disk) (g.D.Disk.state c.move_in.new.disk) _ _ c.in-Err.refusal _
      _ _ _ _
      c.in-Err.ensures.failures c.refuse.ensures.failures c.refuse.ensures.fault (λ none. none)
      c.in-Err.ensures.refused;
  asked = c.in-Err.ensures.asked;
}

pub returns-in-Err-clause-cause : goal.returns-in-Err-clause-cause
returns-in-Err-clause-cause g c =
    tells_move (g.D.Disk.state c.args.self.now.disk) (g.D.Disk.state c.move_in.new.disk)
    c.in-Err.refusal _ _ _ _
    c.refuse.ensures.fault c.in-Err.ensures.failures c.in-Err.ensures.refused

pub invariant_of-self : goal.invariant_of-self
invariant_of-self g c = record {
  durable =
      λ _. moved_durable (g.D.Disk.state c.args.self.now.disk) (g.D.Disk.state c.move_in.new.disk)
      c.in-Ok.ensures.closed.noted c.args.top.now c.args.folder.now c.in-Ok.ensures.asked;
}

pub invariant_of-self-in-Err : goal.invariant_of-self-in-Err
invariant_of-self-in-Err g c = record {
  durable =
      λ is. synced_durable (g.D.Disk.state c.args.self.now.disk) (g.D.Disk.state c.move_in.new.disk)
      c.in-Err.ensures.same.noted (c.args.self.now.durable is) c.in-Err.ensures.asked;
}
