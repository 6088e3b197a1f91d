use Rattle.bag_disk.proofs.Common.{◌∙◌, ◌++◌, ◌∷◌, [], ap, refl, HasSpecial, HasUnnamedPath, Walked, AllStand}
use Rattle.bag_disk.proofs.DiskSteps.{fewer_stand, folder_done}
use Rattle.bag_disk.proofs.Refusals.{due_for}
use Rattle.bag_disk.proofs.folder_walk.FolderWalk.list_folder.Goals as goal

pub returns-in_ok-push-in-Ok-list_names-clause-walked : goal.returns-in_ok-push-in-Ok-list_names-clause-walked
returns-in_ok-push-in-Ok-list_names-clause-walked g c =
    folder_done (g.D.Disk.state c.args.disk.now) (g.D.Disk.state c.enter.new.self) c.args.self.now.files.items
    c.args.self.now.folders.items c.args.self.now.listed.items c.args.folder c.as_str.result.now
    c.as_str-2.result.now c.push.new.self.items
    (λ nodes listed. Walked nodes c.list_names.new.self.files.items c.list_names.new.self.folders.items listed [])
    (g.met.D.Disk.is_disk c.args.disk.now) c.in-Ok.ensures.looks c.as_str.ensures c.as_str-2.ensures
    (c.in_ok-push-in-Ok-list_names.ensures.items
    ∙ ap (λ xs. xs ++ c.args.folder ∷ []) c.in-Ok-list_names.ensures.listed) c.in-Ok.ensures.honest
    c.in-Ok-list_names.ensures.walked

pub returns-in_ok-push-in-Err-TooMany-clause-refused : goal.returns-in_ok-push-in-Err-TooMany-clause-refused
returns-in_ok-push-in-Err-TooMany-clause-refused g c =
    folder_done (g.D.Disk.state c.args.disk.now) (g.D.Disk.state c.enter.new.self) c.args.self.now.files.items
    c.args.self.now.folders.items c.args.self.now.listed.items c.args.folder c.as_str.result.now
    c.as_str-2.result.now c.push-in-Err-TooMany.new.self.items
    (λ nodes listed. AllStand nodes c.list_names.new.self.files.items c.list_names.new.self.folders.items listed)
    (g.met.D.Disk.is_disk c.args.disk.now) c.in-Ok.ensures.looks c.as_str.ensures c.as_str-2.ensures
    (c.in_ok-push-in-Err-TooMany.ensures.items
    ∙ ap (λ xs. xs ++ c.args.folder ∷ []) c.in-Err-TooMany.ensures.listed) c.in-Ok.ensures.honest
    (rw c.in-Err-TooMany.field-0-is at c.in-Err-TooMany.ensures.refused)

pub returns-in-Err-list_names-clause-refused : goal.returns-in-Err-list_names-clause-refused
returns-in-Err-list_names-clause-refused g c =
    let listed = c.args.self.now.listed.items in
    let done =
    folder_done (g.D.Disk.state c.args.disk.now) (g.D.Disk.state c.enter.new.self) c.args.self.now.files.items
    c.args.self.now.folders.items listed c.args.folder c.as_str.result.now c.as_str-2.result.now
    (listed ++ c.args.folder ∷ []) in
    let disk = g.met.D.Disk.is_disk c.args.disk.now in
    due_for _ _ _ _ _ _ _ _ c.in-Err-list_names.refusal
    (λ special. done (λ nodes _. HasSpecial nodes) disk c.in-Ok.ensures.looks c.as_str.ensures c.as_str-2.ensures refl
    c.in-Ok.ensures.honest special)
    (λ unnamed. done (λ nodes _. HasUnnamedPath nodes) disk c.in-Ok.ensures.looks c.as_str.ensures c.as_str-2.ensures
    refl c.in-Ok.ensures.honest unnamed)
    (λ never. never)
    (λ many honest walked.
    rw c.in-Err-list_names.ensures.listed
    (fewer_stand _ _ _ listed c.args.folder
    (done (λ nodes listed.
    AllStand nodes c.list_names.new.self.files.items c.list_names.new.self.folders.items listed)
    disk c.in-Ok.ensures.looks c.as_str.ensures c.as_str-2.ensures refl c.in-Ok.ensures.honest many honest walked)))
    c.in-Err-list_names.ensures.refused
