use Rattle.bag_disk.proofs.Common.{IsTrue, None, node, ◌≡◌, err_from_is_err_and, arith, ◌∙◌, ap, Err, bytes_of, refl}
use Rattle.bag_disk.proofs.Common.{file_of_disk}
use Rattle.bag_disk.proofs.DiskSteps.{file_there, folder_there, looks_on}
use Rattle.bag_disk.proofs.DiskPaths.{no_path}
use Rattle.bag_disk.proofs.Looked.{had_before}
use Rattle.bag_disk.proofs.Mapped.{if_err_mapped, on_ok_mapped}
use Rattle.bag_disk.proofs.Plain.{other_seen}
use Rattle.bag_disk.proofs.Refusals.{due_for, due_of_path}
use Rattle.bag_disk.specs.Opening.{MayRefuseOpening}
use Rattle.bag_disk.specs.Refusal.{MeetsSpecial, refusal_at_path}
use Rattle.bag_disk.proofs.opening.open_at.Goals as goal

pub returns-then-not-is_path-clause-refused : goal.returns-then-not-is_path-clause-refused
returns-then-not-is_path-clause-refused g c = λ honest. grind (arith, file_of_disk, no_path, g.met.D.Disk.is_disk)

pub returns-in_err-check_folders-clause-refused : goal.returns-in_err-check_folders-clause-refused
returns-in_err-check_folders-clause-refused g c =
    let p = err_from_is_err_and c.from_residual.result c.from_residual.ensures.1 in
    let old = g.D.Disk.state c.args.disk.now in
    rw (p.1, p.2)
    (due_for (MeetsSpecial old) ⊥ (IsTrue old.honest → node old.nodes c.args.path.now ≡ None) ⊥ _ _ _ _ _
    (λ special. special) (λ never. never) (λ none honest. file_of_disk _ _ ∙ ap bytes_of (none honest)) (λ never.
    never)
    c.in_err-check_folders.ensures.refused)

pub returns-in-Ok-Folder-clause-refused : goal.returns-in-Ok-Folder-clause-refused
returns-in-Ok-Folder-clause-refused g c = λ honest. grind (arith, file_of_disk, folder_there)

pub returns-in-Ok-Other-clause-refused : goal.returns-in-Ok-Other-clause-refused
returns-in-Ok-Other-clause-refused g c = λ honest. grind (arith, had_before, other_seen)

pub returns-in-Err-clause-refused : goal.returns-in-Err-clause-refused
returns-in-Err-clause-refused g c =
    due_of_path _ _ _ _ c.in-Err.fault c.of_path.result c.of_path.ensures (λ is honest.
    grind (
      arith,
      file_of_disk (g.D.Disk.state c.args.disk.now).nodes c.args.path.now,
      c.in-Err.ensures.absent (ap Err is),
    ))

pub returns-clause-honest : goal.returns-clause-honest
returns-clause-honest g c =
    on_ok_mapped c.open.result c.map_err.result _ _ c.map_err.ensures.variant
    (λ opened honest. grind (arith, file_of_disk, file_there, looks_on)) c.open.ensures.honest

pub returns-clause-refused : goal.returns-clause-refused
returns-clause-refused g c =
    if_err_mapped c.open.result c.map_err.result refusal_at_path
    (MayRefuseOpening (g.D.Disk.state c.args.disk.now) c.args.path.now) c.map_err.ensures.cases
    (λ fault is. due_of_path _ _ _ _ fault _ refl (λ none honest. grind (arith, looks_on, had_before, file_of_disk)))
