use Rattle.bag_text.proofs.Spellings.{escape_behind}
use Rattle.bag_text.proofs.path.escape_path.Goals as goal

pub loop-c-preserved-in-Continue-branch-2 : goal.loop-c-preserved-in-Continue-branch-2
loop-c-preserved-in-Continue-branch-2 c = escape_behind _ _ _ _ _ c.in_ok-push_str-in-Some-escape_of.ensures.bytes
    c.loop-c.invariant c.in-Some-escape_of.ensures

pub loop-c-preserved : goal.loop-c-preserved
loop-c-preserved c = escape_behind _ _ _ _ _ c.in_ok-push-in-None-escape_of.ensures.bytes c.loop-c.invariant
    c.in-None-escape_of.ensures
