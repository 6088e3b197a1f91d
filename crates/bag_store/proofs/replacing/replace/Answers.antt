use Rattle.bag_store.proofs.Common.{inl, inr, err_from_is_err_and}
use Rattle.bag_store.proofs.FirstOf.{put_asked, put_begun, put_made, put_not_begun}
use Rattle.bag_store.proofs.PutStates.{begun_left, only_made, puts_left, puts_made}
use Rattle.bag_store.proofs.replacing.replace.Goals as goal

pub returns-in_err-sync_for_file-clause-asked : goal.returns-in_err-sync_for_file-clause-asked
returns-in_err-sync_for_file-clause-asked g c =
    rw (err_from_is_err_and c.from_residual.result c.from_residual.ensures.1).1
    (put_not_begun c.args.beside.now c.args.name.now c.args.bytes.now (g.D.Disk.state c.args.disk.now)
    (g.D.Disk.state c.sync_for_file.new.disk) c.in_err-sync_for_file.ensures.same)

pub returns-in_err-create-clause-asked : goal.returns-in_err-create-clause-asked
returns-in_err-create-clause-asked g c =
    rw (err_from_is_err_and c.from_residual-in_err-create.result c.from_residual-in_err-create.ensures.1).1
    (put_begun c.args.beside.now c.args.name.now c.args.bytes.now (g.D.Disk.state c.args.disk.now)
    (g.D.Disk.state c.sync_for_file.new.disk) (g.D.Disk.state c.create.new.disk)
    c.in_ok-sync_for_file.ensures.syncs c.in_ok-sync_for_file.ensures.noted c.in_err-create.ensures.asked)

pub returns-in_err-create-clause-left : goal.returns-in_err-create-clause-left
returns-in_err-create-clause-left g c =
    rw (err_from_is_err_and c.from_residual-in_err-create.result c.from_residual-in_err-create.ensures.1).1
    (begun_left (g.D.Disk.state c.args.disk.now) (g.D.Disk.state c.sync_for_file.new.disk)
    (g.D.Disk.state c.create.new.disk) c.args.beside.now c.args.name.now c.args.bytes.now
    c.in_ok-sync_for_file.ensures.syncs c.in_err-create.ensures.begun)

pub returns-in-Ok-clause-put : goal.returns-in-Ok-clause-put
returns-in-Ok-clause-put g c =
    puts_made c.sync_names.result (g.D.Disk.state c.args.disk.now) (g.D.Disk.state c.sync_for_file.new.disk)
    (g.D.Disk.state c.create.new.disk) (g.D.Disk.state c.replace.new.self) (g.D.Disk.state c.sync_names.new.disk)
    c.args.beside.now c.args.name.now c.args.bytes.now c.in_ok-sync_for_file.ensures.syncs
    c.in_ok-create.ensures.made c.requires.two c.requires.beside c.requires.name c.in-Ok.ensures.closed
    c.in-Ok.ensures.replaced c.sync_names.ensures.syncs

pub returns-in-Ok-clause-left : goal.returns-in-Ok-clause-left
returns-in-Ok-clause-left g c =
    puts_left c.sync_names.result (g.D.Disk.state c.args.disk.now) (g.D.Disk.state c.sync_for_file.new.disk)
    (g.D.Disk.state c.create.new.disk) (g.D.Disk.state c.replace.new.self) (g.D.Disk.state c.sync_names.new.disk)
    c.args.beside.now c.args.name.now c.args.bytes.now c.in_ok-sync_for_file.ensures.syncs
    c.in_ok-create.ensures.made c.requires.two c.requires.beside c.requires.name c.in-Ok.ensures.closed
    c.in-Ok.ensures.replaced c.sync_names.ensures.syncs

pub returns-in-Ok-clause-asked : goal.returns-in-Ok-clause-asked
returns-in-Ok-clause-asked g c =
    put_asked c.args.beside.now c.args.name.now c.args.bytes.now (g.D.Disk.state c.args.disk.now)
    (g.D.Disk.state c.sync_for_file.new.disk) (g.D.Disk.state c.create.new.disk)
    c.in_ok-sync_for_file.ensures.syncs c.in_ok-sync_for_file.ensures.noted c.in_ok-create.ensures.asked
    (g.D.Disk.state c.replace.new.self)
    (g.D.Disk.state c.sync_names.new.disk) c.sync_names.result c.in_ok-create.ensures.made.closed.noted
    c.in-Ok.ensures.noted c.in-Ok.ensures.closed.noted c.sync_names.ensures.noted c.sync_names.ensures.same

pub returns-in-Err-clause-left : goal.returns-in-Err-clause-left
returns-in-Err-clause-left g c =
    inr (inl (only_made (g.D.Disk.state c.args.disk.now) (g.D.Disk.state c.sync_for_file.new.disk)
    (g.D.Disk.state c.create.new.disk) (g.D.Disk.state c.replace.new.self) c.args.beside.now c.args.name.now
    c.args.bytes.now c.in_ok-sync_for_file.ensures.syncs c.in_ok-create.ensures.made
    (g.D.Disk.state c.replace.new.self) c.in-Err.ensures.same))

pub returns-in-Err-clause-asked : goal.returns-in-Err-clause-asked
returns-in-Err-clause-asked g c =
    put_made c.args.beside.now c.args.name.now c.args.bytes.now (g.D.Disk.state c.args.disk.now)
    (g.D.Disk.state c.sync_for_file.new.disk) (g.D.Disk.state c.create.new.disk)
    c.in_ok-sync_for_file.ensures.syncs c.in_ok-sync_for_file.ensures.noted c.in_ok-create.ensures.asked
    (g.D.Disk.state c.replace.new.self)
    c.in-Err.ensures.same
