use Rattle.bag_store.proofs.Common.{arith, inl, inr, on_err_weaker, on_ok_weaker, looks_on, had_before, counted_since}
use Rattle.bag_store.proofs.Common.{step_due_for}
use Rattle.bag_store.proofs.BaseNames.{base_reached}
use Rattle.bag_store.proofs.FilledFiles.{file_asked, not_begun}
use Rattle.bag_store.proofs.WrittenFiles.{begun_of, made_of}
use Rattle.bag_store.proofs.writing.create.Goals as goal

pub returns-in-Ok-clause-made : goal.returns-in-Ok-clause-made
returns-in-Ok-clause-made g c =
    on_ok_weaker c.fill.result
    (made_of _ _ (g.D.Disk.state c.fill.new.disk) _ c.args.name.now c.args.bytes.now (λ honest.
    c.in-Ok.ensures.made honest (base_reached _ _ c.requires))
    c.in-Ok.ensures.closed c.in-Ok.ensures.begun_there) c.fill.ensures.whole

pub returns-in-Ok-clause-begun : goal.returns-in-Ok-clause-begun
returns-in-Ok-clause-begun g c =
    on_err_weaker c.fill.result (λ some.
    inr (begun_of _ _ _ _ c.args.name.now c.args.bytes.now (λ honest.
    c.in-Ok.ensures.made honest (base_reached _ _ c.requires))
    c.in-Ok.ensures.closed c.in-Ok.ensures.begun_there some)) c.fill.ensures.part

pub returns-in-Ok-clause-failures : goal.returns-in-Ok-clause-failures
returns-in-Ok-clause-failures g c = grind (arith, counted_since)

pub not_made-requires-clause-there : goal.not_made-requires-clause-there
not_made-requires-clause-there g c = λ is honest. grind (arith, base_reached)

pub returns-in-Err-clause-begun : goal.returns-in-Err-clause-begun
returns-in-Err-clause-begun g c = inl
    (looks_on (g.D.Disk.state c.args.disk.now) (g.D.Disk.state c.create.new.self) (g.D.Disk.state c.not_made.new.disk)
    c.in-Err.ensures.same c.not_made.ensures.looks)

pub returns-in-Err-clause-refused : goal.returns-in-Err-clause-refused
returns-in-Err-clause-refused g c = grind (arith, step_due_for, had_before)

pub returns-in-Err-clause-failures : goal.returns-in-Err-clause-failures
returns-in-Err-clause-failures g c = c.not_made.ensures.failures (g.D.Disk.state c.args.disk.now).failures
    c.in-Err.ensures.failures

pub returns-in-Ok-clause-asked : goal.returns-in-Ok-clause-asked
returns-in-Ok-clause-asked g c =
    file_asked c.args.name.now c.args.bytes.now (g.D.Disk.state c.args.disk.now) (g.D.Disk.state c.create.new.self)
    (g.D.Disk.state c.fill.new.disk) c.fill.result
    c.in-Ok.ensures.closed.noted c.in-Ok.ensures.noted (λ noted.
    c.fill.ensures.asked c.args.name.now (c.in-Ok.ensures.named noted))

pub returns-in-Err-clause-asked : goal.returns-in-Err-clause-asked
returns-in-Err-clause-asked g c =
    not_begun c.args.name.now c.args.bytes.now (g.D.Disk.state c.args.disk.now) (g.D.Disk.state c.create.new.self)
    (g.D.Disk.state c.not_made.new.disk) c.in-Err.ensures.same c.not_made.ensures.looks
