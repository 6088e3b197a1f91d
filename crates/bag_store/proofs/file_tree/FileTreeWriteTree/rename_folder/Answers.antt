use Rattle.bag_store.proofs.Common.{on_err_weaker}
use Rattle.bag_store.proofs.AnsweredCalls.{answered, on_ok_both, taken_last, told}
use Rattle.bag_store.proofs.BagSteps.{has_it, not_taken}
use Rattle.bag_store.proofs.ChangedTree.{renamed_changed, step_same}
use Rattle.bag_store.proofs.file_tree.FileTreeWriteTree.rename_folder.Goals as goal

pub returns-clause-renames : goal.returns-clause-renames
returns-clause-renames g c =
    let done = c.rename_folder-done.result in
    let did = c.rename_folder-done.ensures in
    let from = c.args.from.now in
    let to = c.args.to.now in
    answered (g.D.Disk.state c.args.self.now.disk) (g.D.Disk.state c.rename_folder-done.new.disk) _ _ _ _ _ _ _ _ _ _ _ _
    done c.to.result c.to.ensures.answer c.to.ensures.failures c.to.ensures.last did.failures
    (on_ok_both done did.renamed did.closed (λ renamed closed kept same. (
      renamed_changed _ _ _ _ _ _ c.to.ensures.given from to (g.met.D.Disk.is_disk c.args.self.now.disk)
          (g.met.D.Disk.is_disk c.rename_folder-done.new.disk) c.requires.from c.requires.to kept same closed renamed,
      λ honest. (
        has_it _ from c.requires.from (renamed honest).folder_is,
        not_taken _ to c.requires.to (renamed honest).free,
      ),
    )))
    (on_err_weaker done (λ syncs grows. step_same _ _ _ _ _ _ c.to.ensures.given syncs grows) did.same)
    (λ none. none) did.refused did.asked

pub returns-clause-cause : goal.returns-clause-cause
returns-clause-cause g c =
    told (g.D.Disk.state c.args.self.now.disk) (g.D.Disk.state c.rename_folder-done.new.disk) _ _ c.rename_folder-done.result c.to.result c.to.ensures.answer c.rename_folder-done.ensures.failures
    c.rename_folder-done.ensures.refused

pub returns-clause-looks_last : goal.returns-clause-looks_last
returns-clause-looks_last g c =
    taken_last c.args.from.now (g.D.Disk.state c.args.self.now.disk) (g.D.Disk.state c.rename_folder-done.new.disk)
    c.rename_folder-done.result c.to.result c.to.ensures.answer c.rename_folder-done.ensures.looks_last
