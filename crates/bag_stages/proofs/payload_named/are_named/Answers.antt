use Rattle.bag_stages.proofs.Common.{arith, refl, entry_paths}
use Rattle.bag_stages.proofs.PayloadNamed.{all_before, before_next, others_there}
use Rattle.bag_stages.proofs.payload_named.are_named.Goals as goal

pub loop-file-init : goal.loop-file-init
loop-file-init c = refl

pub loop-file-preserved : goal.loop-file-preserved
loop-file-preserved c =
    before_next (entry_paths c.args.entries.now) (entry_paths c.loop-file.rest.now) c.args.files.now
    c.loop-file.file-index c.file-item.result
    c.loop-file-test.true c.file-item.is (entry_paths c.in-Some.after.now) c.loop-file.invariant c.in-Some.ensures

pub returns-in_default : goal.returns-in_default
returns-in_default c =
    grind (
      arith,
      others_there (entry_paths c.args.entries.now) (entry_paths c.loop-file.rest.now) c.args.files.now
          c.loop-file.file-index c.file-item.result
          c.loop-file-test.true c.file-item.is c.loop-file.invariant c.in_default.ensures,
    )

pub returns : goal.returns
returns c = grind (arith, all_before)
