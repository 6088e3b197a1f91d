use Rattle.bag_store.proofs.Common.{arith, ◌≡◌, ◌∙◌, true, false, has_within, bag_of, looks_on, had_before, due_in_move}
use Rattle.bag_store.proofs.Common.{due_in_step, err_from_is_err_and, move_due_for, special_in_step, Folder, HasSpecial, IsTrue}
use Rattle.bag_store.proofs.Common.{IsReachedByFolders, MeetsSpecial, Some, is_taken, node}
use Rattle.bag_store.proofs.BagSteps.{special_met, file_in_target, folder_in_target, lacks_place, lacks_top, moved_into}
use Rattle.bag_disk.specs.DiskNodes.{WhereReached}
use Rattle.bag_text.specs.Path.{under}
use Rattle.bag_store.proofs.AskedOf.{move_noted}
use Rattle.bag_store.proofs.BaseNames.{base_reached, path_in_is_under, target_is_path}
use Rattle.bag_disk.proofs.Mapped.{on_ok_mapped}
use Rattle.bag_store.proofs.changing.move_below.Goals as goal

pub returns-in_err-check_is_folder-clause-refused : goal.returns-in_err-check_is_folder-clause-refused
returns-in_err-check_is_folder-clause-refused g c =
    let p = err_from_is_err_and c.from_residual.result c.from_residual.ensures.1 in
    let old = g.D.Disk.state c.args.disk.now in
    let folder = c.args.folder.now in
    let refusal = c.in_err-check_is_folder.field-0.0 in
    rw (p.1, p.2)
    (due_in_move _ _ _ _ refusal
    (due_in_step (WhereReached old folder (HasSpecial old.nodes))
    (WhereReached old folder (node old.nodes folder ≡ Some Folder → ⊥)) _ _ _ refusal
    (λ special honest. special honest (base_reached _ _ c.requires.folder))
    (λ none honest. lacks_place _ c.args.top.now _ c.requires.folder (none honest (base_reached _ _ c.requires.folder)))
    c.in_err-check_is_folder.ensures.refused))

pub returns-in_err-check_taken-clause-refused : goal.returns-in_err-check_taken-clause-refused
returns-in_err-check_taken-clause-refused g c =
    let p = err_from_is_err_and c.from_residual-in_err-check_taken.result
    c.from_residual-in_err-check_taken.ensures.1 in
    let seen = g.D.Disk.state c.check_is_folder.new.disk in
    let top = c.args.top.now in
    let refusal = c.in_err-check_taken.field-0.0 in
    rw (p.1, p.2)
    (due_in_move _ _ _ _ refusal
    (due_in_step (MeetsSpecial seen) (IsTrue seen.honest → is_taken (bag_of seen.nodes) top ≡ false) _ _ _ refusal
    (λ special. had_before _ seen c.in_ok-check_is_folder.ensures.looks HasSpecial special)
    (λ none honest. lacks_top _ top c.args.folder.now
    (had_before _ seen c.in_ok-check_is_folder.ensures.looks (λ nodes. is_taken (bag_of nodes) top ≡ false) none
    honest))
    c.in_err-check_taken.ensures.refused))

pub standing_at-requires : goal.standing_at-requires
standing_at-requires g c = grind (arith, target_is_path)

pub returns-in-Some-File-clause-refused : goal.returns-in-Some-File-clause-refused
returns-in-Some-File-clause-refused g c = λ honest. grind (arith, file_in_target, looks_on, base_reached)

pub returns-in-Some-Folder-clause-refused : goal.returns-in-Some-Folder-clause-refused
returns-in-Some-Folder-clause-refused g c =
    let then = g.D.Disk.state c.standing_at.new.disk in
    move_due_for ⊥ ⊥ (IsTrue then.honest → has_within (bag_of then.nodes) c.as_str-in-Some-Folder.result.now ≡ true)
    (Unit {0}) _ _ _ _ c.folder_in_the_way.result (λ never. absurd never) (λ never. absurd never)
    (λ taken honest. grind (arith, path_in_is_under)) (λ _ honest. grind (arith, folder_in_target, base_reached))
    c.folder_in_the_way.ensures.refused

pub returns-in_err-standing_at-clause-refused : goal.returns-in_err-standing_at-clause-refused
returns-in_err-standing_at-clause-refused g c =
    let p = err_from_is_err_and c.from_residual-in_err-standing_at.result
    c.from_residual-in_err-standing_at.ensures.1 in
    let seen = g.D.Disk.state c.check_taken.new.disk in
    let refusal = c.in_err-standing_at.field-0.0 in
    rw (p.1, p.2)
    (due_in_move _ _ _ _ refusal
    (special_in_step
    (IsTrue seen.honest → IsReachedByFolders seen.nodes c.as_str.result.now → HasSpecial seen.nodes) _ _ _ refusal
    (special_met _ (g.D.Disk.state c.check_is_folder.new.disk) seen c.args.folder.now
    c.args.top.now c.as_str.result.now c.in_ok-check_is_folder.ensures.looks c.in_ok-check_taken.ensures.looks
    c.requires.folder c.requires.top (c.as_str.ensures ∙ c.in_ok-target.ensures) c.in_ok-check_is_folder.ensures.folder)
    c.in_err-standing_at.ensures.refused))

pub rename-requires-clause-to : goal.rename-requires-clause-to
rename-requires-clause-to g c = grind (arith, target_is_path)

pub returns-clause-moved : goal.returns-clause-moved
returns-clause-moved g c =
    on_ok_mapped c.rename.result c.map_err.result _ _ c.map_err.ensures.variant
    (moved_into _ _ _ _ (g.D.Disk.state c.rename.new.self) c.args.folder.now c.args.top.now c.as_str.result.now
    c.as_str-2.result.now c.in_ok-standing_at.field-0
    c.in_ok-check_is_folder.ensures.looks c.in_ok-check_taken.ensures.looks c.in_ok-standing_at.ensures.looks
    c.requires.folder c.requires.top (c.as_str.ensures ∙ c.in_ok-target.ensures)
    (c.as_str-2.ensures ∙ c.in_ok-target.ensures) c.in_ok-check_is_folder.ensures.folder
    c.in_ok-check_taken.ensures.taken c.in-None.is c.in_ok-standing_at.ensures.found)
    c.rename.ensures.moved

pub returns-clause-noted : goal.returns-clause-noted
returns-clause-noted g c = λ noted.
    let old = g.D.Disk.state c.args.disk.now in
    let seen = g.D.Disk.state c.standing_at.new.disk in
    let looks =
    looks_on old _ seen (looks_on old _ _ c.in_ok-check_is_folder.ensures.looks c.in_ok-check_taken.ensures.looks)
    c.in_ok-standing_at.ensures.looks in
    on_ok_mapped c.rename.result c.map_err.result _ _ c.map_err.ensures.variant
    (λ notes.
    move_noted c.args.top.now c.as_str-2.result.now (under c.args.folder.now c.args.top.now) old seen
    (g.D.Disk.state c.rename.new.self) looks
    (c.as_str-2.ensures ∙ c.in_ok-target.ensures ∙ path_in_is_under c.args.folder.now c.args.top.now c.requires.folder)
    (λ _. notes) noted)
    (c.rename.ensures.noted (looks.noted ∙ noted))
