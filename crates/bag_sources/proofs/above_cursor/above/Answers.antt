use Rattle.bag_sources.proofs.Common.{rules, option_copied, is_above}
use Rattle.std.proofs.lemmas.Fn.{filter_same}
use Rattle.bag_sources.proofs.Positions.{above_none}
use Rattle.bag_sources.proofs.above_cursor.above.Goals as goal

pub returns-in-Some : goal.returns-in-Some
returns-in-Some c = let after = option_copied c.args.after
    in filter_same _ (is_above after) _ (λ f b after call. search rules) _ _ c.retain.ensures.filtered

pub returns-in_default : goal.returns-in_default
returns-in_default c = rw c.in_default.is (above_none c.args.faults.items)
