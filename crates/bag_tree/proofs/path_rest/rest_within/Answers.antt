use Rattle.bag_tree.proofs.Within.{within_after, not_after, not_in_front}
use Rattle.bag_tree.proofs.path_rest.rest_within.Goals as goal

pub returns-in_default : goal.returns-in_default
returns-in_default c = not_in_front c.args.top.now c.args.path.now (λ rest e. c.in_default.ensures rest e)

pub returns-then-is_below : goal.returns-then-is_below
returns-then-is_below c = (
  within_after c.args.top.now c.args.path.now c.in-Some.rest.now c.in-Some.ensures c.if-is_below.ensures,
  c.in-Some.ensures,
)

pub returns-else-is_below : goal.returns-else-is_below
returns-else-is_below c = not_after c.args.top.now c.args.path.now c.in-Some.rest.now c.in-Some.ensures
    c.if-is_below.ensures.0 c.if-is_below.ensures.1
