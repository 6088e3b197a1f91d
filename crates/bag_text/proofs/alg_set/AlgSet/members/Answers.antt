use Rattle.bag_text.proofs.Common.{rank_cmp, algs, flag_of}
use Rattle.std.proofs.lemmas.List.Kept.{IsStrictlySortedBy-filter}
use Rattle.bag_text.proofs.AlgSets.{list_ascends, member_more, no_member_more}
use Rattle.bag_text.proofs.alg_set.AlgSet.members.Goals as goal
use Rattle.bag_text.proofs.alg_set.AlgSet.members.Goals.{then-flags-flag_index+in_ok-push, else-flags-flag_index}

pub returns-in_err-members-clause-ascend : goal.returns-in_err-members-clause-ascend
returns-in_err-members-clause-ascend c = rw (← c.self.view_is)
    (IsStrictlySortedBy-filter rank_cmp (flag_of c.self.inside) algs list_ascends)

pub returns-in_err-push-clause-ascend : goal.returns-in_err-push-clause-ascend
returns-in_err-push-clause-ascend c = rw (← c.self.view_is)
    (IsStrictlySortedBy-filter rank_cmp (flag_of c.self.inside) algs list_ascends)

pub returns-clause-ascend : goal.returns-clause-ascend
returns-clause-ascend c = rw (← c.self.view_is)
    (IsStrictlySortedBy-filter rank_cmp (flag_of c.self.inside) algs list_ascends)

pub loop-alg-preserved : goal.loop-alg-preserved
loop-alg-preserved c =
    let set = c.args.self in
    let p = flag_of c.self.inside in
    let i = c.loop-alg.alg-index in
    elim c.if-flags-flag_index.branch [
      | then-flags-flag_index+in_ok-push w ↦ rw w.members-is
          (rw w.in_ok-push.ensures.items
          (member_more set p i c.loop-alg.members.items c.self.view_is c.loop-alg-test.true c.loop-alg.invariant
          (rw (← c.flag_index.ensures.value) w.if-flags-flag_index.true)))
      | else-flags-flag_index w ↦ rw w.members-is
          (no_member_more set p i c.loop-alg.members.items c.self.view_is c.loop-alg-test.true c.loop-alg.invariant
          (rw (← c.flag_index.ensures.value) w.if-flags-flag_index.false))
    ]
