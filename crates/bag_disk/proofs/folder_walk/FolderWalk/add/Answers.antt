use Rattle.bag_disk.proofs.Common.{arith}
use Rattle.bag_disk.proofs.DiskSteps.{name_added, on_ok3}
use Rattle.bag_disk.proofs.FoundPaths.{path_found, path_in_folder}
use Rattle.bag_disk.proofs.Plain.{name_is_other}
use Rattle.bag_disk.proofs.Refusals.{counted_quietly, only_for_err}
use Rattle.bag_disk.proofs.folder_walk.FolderWalk.add.Goals as goal

pub named_entry-requires : goal.named_entry-requires
named_entry-requires g c = grind (arith, path_in_folder)

pub returns-in-Ok-clause-paths : goal.returns-in-Ok-clause-paths
returns-in-Ok-clause-paths g c =
    let r = c.put.ensures in
    on_ok3 c.put.result r.files r.folders r.other (λ files folders known before.
    rw (files, folders) (path_found _ _ c.in_ok-path.path c.in-Ok.entry
    (rw c.in_ok-path.ensures (path_in_folder c.args.folder.now c.args.name.now c.requires.folder c.requires.name))
    before))

pub returns-in-Ok-clause-walked : goal.returns-in-Ok-clause-walked
returns-in-Ok-clause-walked g c =
    let r = c.put.ensures in
    on_ok3 c.put.result r.files r.folders r.other (λ files folders known honest has listed pending walked.
    name_added _ _ _ _ _ listed pending _ c.in_ok-path.path _ c.in-Ok.entry (g.met.D.Disk.is_disk c.args.disk.now)
    c.in_ok-path.ensures c.as_str.ensures
    (c.in-Ok.ensures.found honest) has files folders known walked)

pub returns-in-Ok-clause-refused : goal.returns-in-Ok-clause-refused
returns-in-Ok-clause-refused g c =
    only_for_err _ _ _ c.put.result
    (λ other honest has.
    name_is_other (g.D.Disk.state c.args.disk.now).nodes _ c.in_ok-path.path _ c.in-Ok.entry
    (g.met.D.Disk.is_disk c.args.disk.now) c.as_str.utf8 c.in_ok-path.ensures c.as_str.ensures
    (c.in-Ok.ensures.found honest) has other)
    c.put.ensures.refused

pub returns-in-Ok-clause-failures : goal.returns-in-Ok-clause-failures
returns-in-Ok-clause-failures g c = counted_quietly c.put.result (g.D.Disk.state c.args.disk.now)
    (g.D.Disk.state c.named_entry.new.self) c.in-Ok.ensures.failures c.put.ensures.quiet
