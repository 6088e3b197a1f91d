use Rattle.bag_entries.proofs.Common.{refl, contains, nat_cmp}
use Rattle.bag_entries.proofs.RepeatedLines.{none_named_again}
use Rattle.bag_entries.proofs.repeats.repeated_lines.Goals as goal

pub returns-then-branch : goal.returns-then-branch
returns-then-branch c = λ n.
    none_named_again c.args.entries.now (c.in_ok-are_different.ensures c.if-branch.true) n
    (contains nat_cmp c.new.result n) (rw c.new.ensures.empty refl)
