use Rattle.bag_tags.proofs.SpelledPaths.{line_ends_behind}
use Rattle.bag_tags.proofs.spelling.escape_line_ends.Goals as goal

pub loop-c-preserved-in-Continue-branch-2 : goal.loop-c-preserved-in-Continue-branch-2
loop-c-preserved-in-Continue-branch-2 c = line_ends_behind _ _ _ _ _ c.in_ok-push_str-in-Some-escape_of.ensures.bytes
    c.loop-c.invariant c.in-Some-escape_of.ensures

pub loop-c-preserved : goal.loop-c-preserved
loop-c-preserved c = line_ends_behind _ _ _ _ _ c.in_ok-push-in-None-escape_of.ensures.bytes c.loop-c.invariant
    c.in-None-escape_of.ensures
