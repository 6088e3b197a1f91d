use Rattle.bag_store.proofs.Common.{◌+◌, ◌∙◌, arith, drop, length, length-drop, refl, take, take_all, slice_range}
use Rattle.std.proofs.lemmas.List.{take-append-drop}
use Rattle.bag_store.proofs.FilledFiles.{next_piece, no_pieces, some_pieces, whole_pieces}
use Rattle.bag_store.proofs.WrittenFiles.{next_written, nothing_written, rest_is, within_all, written_more}
use Rattle.bag_store.proofs.writing.write_all.Goals as goal

pub loop-done-init : goal.loop-done-init
loop-done-init g c = (
  omega arith,
  refl,
  nothing_written (g.D.Disk.state c.args.disk.now) (g.D.WritableDisk.written c.args.disk.now),
  refl,
  λ path at noted. no_pieces path (g.D.Disk.state c.args.disk.now).trail,
)

pub loop-done-smaller : goal.loop-done-smaller
loop-done-smaller g c = grind (arith, rest_is, length-drop)

pub loop-done-preserved : goal.loop-done-preserved
loop-done-preserved g c =
    let done = c.loop-done.done in
    let bytes = c.args.bytes.now in
    let count = c.in-Ok.count in (
      within_all bytes done count c.loop-done.invariant.0 c.in-Ok.ensures.within,
      c.in-Ok.ensures.same_file ∙ c.loop-done.invariant.1,
      written_more (g.D.Disk.state c.args.disk.now) (g.D.Disk.state c.loop-done.disk) (g.D.Disk.state c.write.new.self)
          (g.D.WritableDisk.written c.args.disk.now) (g.D.WritableDisk.written c.loop-done.disk)
          (take done bytes) (take count (slice_range bytes done (length bytes))) (take (done + count) bytes)
          (next_written bytes done count)
          c.loop-done.invariant.1 c.loop-done.invariant.2 c.in-Ok.ensures.appended c.in-Ok.ensures.closed,
      c.in-Ok.ensures.failures ∙ c.loop-done.invariant.3,
      next_piece (take done bytes) (take count (slice_range bytes done (length bytes))) (take (done + count) bytes)
          (g.D.Disk.state c.args.disk.now) (g.D.Disk.state c.loop-done.disk) (g.D.Disk.state c.write.new.self)
          (g.D.WritableDisk.written c.args.disk.now) (g.D.WritableDisk.written c.loop-done.disk)
          (next_written bytes done count) c.loop-done.invariant.4 c.loop-done.invariant.1
          c.loop-done.invariant.2.noted c.in-Ok.ensures.noted,
    )

pub returns-in-Err-clause-asked : goal.returns-in-Err-clause-asked
returns-in-Err-clause-asked g c = λ path at noted.
    some_pieces path (take c.loop-done.done c.args.bytes.now) (drop c.loop-done.done c.args.bytes.now)
    c.args.bytes.now (g.D.Disk.state c.args.disk.now).trail
    (g.D.Disk.state c.loop-done.disk).trail (g.D.Disk.state c.write.new.self).trail
    (take-append-drop c.loop-done.done c.args.bytes.now) (c.loop-done.invariant.4 path at noted)
    c.in-Err.ensures.same.trail

pub returns-clause-asked : goal.returns-clause-asked
returns-clause-asked g c = λ path at noted.
    whole_pieces path (take c.loop-done.done c.args.bytes.now) c.args.bytes.now _ _
    (take_all c.loop-done.done c.args.bytes.now (omega arith)) (c.loop-done.invariant.4 path at noted)
