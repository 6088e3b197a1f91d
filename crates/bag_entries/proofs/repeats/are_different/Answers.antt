use Rattle.bag_entries.proofs.RepeatedLines.{different_by_order}
use Rattle.bag_entries.proofs.repeats.are_different.Goals as goal

pub returns-then-is_ascending : goal.returns-then-is_ascending
returns-then-is_ascending c = λ _. different_by_order c.args.entries.now (c.is_ascending.ensures c.if-is_ascending.true)
