use Rattle.bag_profile.proofs.Common.{◌≡◌, rules, sym, subst, members_view, IsAscending}
use Rattle.bag_profile.specs.Unchecked.{unchecked_of}
use Rattle.bag_profile.proofs.Orders.{unchecked_ascend}
use Rattle.bag_profile.proofs.unchecked.unchecked_of.Goals as goal

pub returns-clause-ascending : goal.returns-clause-ascending
unfolding unchecked_of
returns-clause-ascending c =
    let es = c.args.members.now.entries in
    let all : c.loop-key.unchecked ≡ unchecked_of (members_view es) = search rules in
    subst IsAscending (sym all) (unchecked_ascend es c.into_iter-key-iterator.ensures.into_iter_gives.5)
