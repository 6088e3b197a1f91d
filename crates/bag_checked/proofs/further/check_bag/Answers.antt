use Rattle.bag_checked.proofs.Common.{true}
use Rattle.bag_checked.proofs.CheckedBag.{has_checked}
use Rattle.bag_checked.proofs.InTurn.{all_of_files, all_of_tags}
use Rattle.bag_checked.proofs.StopsOfBag.{stop_of_check, stop_of_facts}
use Rattle.bag_checked.proofs.further.check_bag.Goals as goal

pub returns-in-Err-clause-stopped : goal.returns-in-Err-clause-stopped
returns-in-Err-clause-stopped g c =
    stop_of_facts (λ bag. true) (g.T.Tree.state c.args.tree.now) (g.T.Tree.state c.read.new.tree) c.in-Err.stop
    c.in-Err.ensures.refused c.in-Err.ensures.stop

pub returns-clause-stopped : goal.returns-clause-stopped
returns-clause-stopped g c =
    stop_of_check c.in-Ok.facts (g.T.Tree.state c.args.tree.now) (g.T.Tree.state c.read.new.tree)
    (g.T.Tree.state c.check_files.new.tree) c.in-Ok.ensures.seen c.in-Ok.ensures.facts c.read.ensures.keeps
    c.in-Ok.ensures.no_failure c.in-Ok.ensures.opened c.in-Err-check_files.unchecked
    c.in-Err-check_files.ensures.unchecked.stopped

pub returns-in-Err-clause-opens : goal.returns-in-Err-clause-opens
returns-in-Err-clause-opens g c =
    let new = g.T.Tree.state c.read.new.tree in
    all_of_tags (g.T.Tree.state c.args.tree.now) new new (g.met.T.Tree.is_bag c.args.tree.now) c.read.ensures.opens

pub returns-in-Err-check_stages-clause-opens : goal.returns-in-Err-check_stages-clause-opens
returns-in-Err-check_stages-clause-opens g c =
    let new = g.T.Tree.state c.read.new.tree in
    all_of_tags (g.T.Tree.state c.args.tree.now) new new (g.met.T.Tree.is_bag c.args.tree.now) c.read.ensures.opens

pub returns-in-Ok-check_files-clause-opens : goal.returns-in-Ok-check_files-clause-opens
returns-in-Ok-check_files-clause-opens g c =
    all_of_files (g.T.Tree.state c.args.tree.now) (g.T.Tree.state c.read.new.tree)
    (g.T.Tree.state c.check_files.new.tree) (g.met.T.Tree.is_bag c.args.tree.now) c.in-Ok.facts
    c.in-Ok.ensures.options c.in-Ok.ensures.seen c.in-Ok.ensures.facts c.read.ensures.opens c.in_default.ensures.none
    c.check_files.ensures.opens

pub returns-clause-opens : goal.returns-clause-opens
returns-clause-opens g c =
    all_of_files (g.T.Tree.state c.args.tree.now) (g.T.Tree.state c.read.new.tree)
    (g.T.Tree.state c.check_files.new.tree) (g.met.T.Tree.is_bag c.args.tree.now) c.in-Ok.facts
    c.in-Ok.ensures.options c.in-Ok.ensures.seen c.in-Ok.ensures.facts c.read.ensures.opens c.in_default.ensures.none
    c.check_files.ensures.opens

pub returns-in-Ok-check_files-clause-checked : goal.returns-in-Ok-check_files-clause-checked
returns-in-Ok-check_files-clause-checked g c =
    let ok = c.in-Ok.ensures in
    let summed = c.in-Ok-check_files.checked.summed.items in
    let info = c.in-Ok-check_files.checked.info in (
      c.in-Ok.facts,
      info,
      has_checked c.in-Ok.facts c.args.algs (g.T.Tree.state c.args.tree.now) (g.T.Tree.state c.read.new.tree)
          (g.T.Tree.state c.check_files.new.tree) ok.options ok.facts c.read.ensures.keeps c.in_default.ensures.none
          true summed info ok.gave ok.opened c.in-Ok-check_files.ensures.checked,
      c.rules.ensures,
    )
