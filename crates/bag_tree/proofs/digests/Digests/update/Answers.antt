use Rattle.bag_tree.proofs.Common.{rules, arith, ◌<◌, All-append, All-from_get_or, rank_within}
use Rattle.bag_tree.proofs.Updates.{one_more}
use Rattle.bag_tree.proofs.digests.Digests.update.Goals as goal

pub loop-slot-preserved : goal.loop-slot-preserved
loop-slot-preserved c = record {
  long = search rules;
  updated =
      one_more _ _ _ _ _ c.loop-slot.invariant.updated (omega (arith, c.loop-slot.invariant.long))
      c.update_slot.ensures;
}

pub returns : goal.returns
returns c = λ algs message taken. record {
  bytes =
      All-append (λ b. b < 256) message _ taken.bytes
      (All-from_get_or (λ b. b < 256) _ 0 (λ i _. let fits = c.type_inv.bytes i in omega arith));
  hashers = λ alg.
      c.loop-slot.invariant.updated.done _ (omega (arith, rank_within alg)) algs alg message (taken.hashers alg);
}
