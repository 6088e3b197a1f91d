use Rattle.bag_text.proofs.Common.{flag_of}
use Rattle.bag_text.proofs.AlgSets.{members_more, Contains-with_member}
use Rattle.bag_text.proofs.alg_set.AlgSet.with.Goals as goal

pub returns-clause-value : goal.returns-clause-value
returns-clause-value c = rw (c.flag_index.ensures.value, ← c.set.view_is)
    (members_more c.set.inside c.args.alg c.set.invariant)

pub returns-clause-members : goal.returns-clause-members
returns-clause-members c member =
    rw (c.flag_index.ensures.value, ← c.set.view_is, members_more c.set.inside c.args.alg c.set.invariant)
    (Contains-with_member (flag_of c.set.inside) c.args.alg member)
