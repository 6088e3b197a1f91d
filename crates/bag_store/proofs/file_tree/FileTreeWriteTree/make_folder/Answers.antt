use Rattle.bag_store.proofs.Common.{on_err_weaker}
use Rattle.bag_store.proofs.AnsweredCalls.{answered, on_ok_both, told}
use Rattle.bag_store.proofs.BagSteps.{not_taken}
use Rattle.bag_store.proofs.ChangedTree.{folder_changed, step_same}
use Rattle.bag_store.proofs.file_tree.FileTreeWriteTree.make_folder.Goals as goal

pub returns-clause-makes : goal.returns-clause-makes
returns-clause-makes g c =
    let done = c.make_folder-done.result in
    let did = c.make_folder-done.ensures in
    let name = c.args.name.now in
    answered (g.D.Disk.state c.args.self.now.disk) (g.D.Disk.state c.make_folder-done.new.disk) _ _ _ _ _ _ _ _ _ ⊥ _ _
    done c.to.result c.to.ensures.answer c.to.ensures.failures c.to.ensures.last did.failures
    (on_ok_both done did.made did.closed (λ made closed kept same. (
      folder_changed _ _ _ _ _ _ c.to.ensures.given name (g.met.D.Disk.is_disk c.args.self.now.disk)
          (g.met.D.Disk.is_disk c.make_folder-done.new.disk) c.requires kept same closed made,
      λ honest. (λ never. never, not_taken _ name c.requires (made honest).free),
    )))
    (on_err_weaker done (λ syncs grows. step_same _ _ _ _ _ _ c.to.ensures.given syncs grows) did.same)
    (λ never. absurd never) did.refused did.asked

pub returns-clause-cause : goal.returns-clause-cause
returns-clause-cause g c =
    told (g.D.Disk.state c.args.self.now.disk) (g.D.Disk.state c.make_folder-done.new.disk) ⊥ _ c.make_folder-done.result c.to.result c.to.ensures.answer c.make_folder-done.ensures.failures
    c.make_folder-done.ensures.refused
