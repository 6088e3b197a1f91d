use Rattle.bag_tree.proofs.Common.{rules, inr, ◌∙◌, ◌++◌, take, arith, common_steps}
use Rattle.bag_tree.proofs.Calm.{nothing_read}
use Rattle.bag_tree.proofs.Gave.{gave_all, gave_on}
use Rattle.bag_tree.proofs.Reading.{still, read_all, read_more}
use Rattle.bag_tree.proofs.file_reading.read_file.Goals as goal

pub loop-count-preserved : goal.loop-count-preserved
loop-count-preserved g c =
    let before = c.loop-count.invariant in
    record {
      keeps = search rules;
      no_failure = c.in_ok-count.ensures.no_failure ∙ before.no_failure;
      opened = c.read.ensures.openings ∙ before.opened;
      file_open = c.in_ok-count.ensures.file_open.1;
      given = omega (arith, c.in_ok-count.ensures.given, before.given, c.if-left-count.false);
      listed = c.read.ensures.listed ∙ before.listed;
      taken = record {
        front = before.taken.front ++ take c.in_ok-count.count c.read.new.buffer;
        size = grind (arith, common_steps);
        taken = c.in_ok-take.ensures.taken _ before.taken.front before.taken.taken;
        gave = c.in_ok-count.ensures.gave ∙ gave_on _ _ _ _ _ before.taken.gave;
        honest =
            λ h. read_more _ _ _ _ _ _ (before.taken.honest h) (c.in_ok-count.ensures.honest (still before.keeps h));
      };
    }

pub returns-then-left-eq0 : goal.returns-then-left-eq0
returns-then-left-eq0 g c =
    let before = c.loop-count.invariant in
    let state = g.T.Tree.state in
    let opened = c.read.ensures.openings ∙ before.opened in
    record {
      keeps = search rules;
      no_failure = nothing_read (state c.args.tree.now) (state c.read.new.self) c.in_ok-count.count
          (c.in_ok-count.ensures.no_failure ∙ before.no_failure) c.in_ok-count.ensures.last;
      opens = inr opened;
      opened = opened;
      taken = record {
        content = before.taken.front;
        size = omega (arith, before.taken.size, c.if-left-eq0.true);
        taken = before.taken.taken;
        gave = rw c.if-count-eq0.true at c.in_ok-count.ensures.gave ∙ gave_all _ _ _ _ before.taken.gave;
        honest =
            λ h. read_all _ _ _ _ _ (before.taken.honest h)
            (rw c.if-count-eq0.true at (c.in_ok-count.ensures.honest (still before.keeps h)));
      };
      listed = c.read.ensures.listed ∙ before.listed;
      refused = tt;
      refused_at = tt;
      told = tt;
    }
