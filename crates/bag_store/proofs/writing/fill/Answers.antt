use Rattle.bag_store.proofs.Common.{arith, ◌∙◌, [], append-nil, on_ok_weaker, counted_since, err_from_is_err_and}
use Rattle.bag_store.proofs.FilledFiles.{file_filled, some_pieces}
use Rattle.bag_store.proofs.WrittenFiles.{all_written, written_same, written_synced}
use Rattle.bag_store.proofs.writing.fill.Goals as goal

pub returns-in_err-sync_file-clause-part : goal.returns-in_err-sync_file-clause-part
returns-in_err-sync_file-clause-part g c = grind (arith, all_written, written_same)

pub returns-clause-whole : goal.returns-clause-whole
returns-clause-whole g c = grind (arith, on_ok_weaker, written_synced)

pub returns-clause-part : goal.returns-clause-part
returns-clause-part g c = grind (arith, all_written, written_synced)

pub returns-clause-failures : goal.returns-clause-failures
returns-clause-failures g c = grind (arith, counted_since)

pub returns-in_err-sync_file-clause-asked : goal.returns-in_err-sync_file-clause-asked
returns-in_err-sync_file-clause-asked g c = λ path at noted.
    rw (err_from_is_err_and c.from_residual-in_err-sync_file.result c.from_residual-in_err-sync_file.ensures.1).1
    (some_pieces path c.args.bytes.now [] c.args.bytes.now (g.D.Disk.state c.args.disk.now).trail
    (g.D.Disk.state c.write_all.new.disk).trail (g.D.Disk.state c.sync_file.new.disk).trail
    (append-nil c.args.bytes.now) (c.in_ok-write_all.ensures.asked path at noted) c.in_err-sync_file.ensures.same.trail)

pub returns-clause-asked : goal.returns-clause-asked
returns-clause-asked g c = λ path at.
    file_filled path c.args.bytes.now (g.D.Disk.state c.args.disk.now) (g.D.Disk.state c.write_all.new.disk)
    (g.D.Disk.state c.sync_file.new.disk) (g.D.Disk.state c.sync_names.new.disk) c.sync_names.result
    (c.in_ok-write_all.ensures.asked path at) c.in_ok-write_all.ensures.whole.noted
    c.in_ok-sync_file.ensures.closed.noted
    (λ noted. c.in_ok-sync_file.ensures.noted noted path (c.in_ok-write_all.ensures.same_file ∙ at))
    c.sync_names.ensures.noted c.sync_names.ensures.same
