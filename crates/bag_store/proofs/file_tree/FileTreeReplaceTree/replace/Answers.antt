use Rattle.bag_store.proofs.Common.{on_err_weaker, on_ok_weaker}
use Rattle.bag_store.proofs.AnsweredCalls.{answered, told}
use Rattle.bag_store.proofs.BagSteps.{place_free}
use Rattle.bag_store.proofs.ChangedTree.{kept_count, put_changed, put_left}
use Rattle.bag_store.proofs.file_tree.FileTreeReplaceTree.replace.Goals as goal

pub returns-clause-replaces : goal.returns-clause-replaces
returns-clause-replaces g c =
    let done = c.replace-done.result in
    let did = c.replace-done.ensures in
    let beside = c.args.beside.now in
    let name = c.args.name.now in
    let bytes = c.args.bytes.now in
    let is = g.met.D.Disk.is_disk c.args.self.now.disk in
    let is_then = g.met.D.Disk.is_disk c.replace-done.new.disk in
    answered (g.D.Disk.state c.args.self.now.disk) (g.D.Disk.state c.replace-done.new.disk) _ _ _ _ _ _ _ _ _ ⊥ _ _
    done c.to.result c.to.ensures.answer c.to.ensures.failures c.to.ensures.last did.failures
    (on_ok_weaker done (λ put kept same. (
      put_changed _ _ _ _ _ _ c.to.ensures.given beside name bytes is is_then (kept_count _ _ _ _ kept same) put,
      λ honest.
          let file = put.file honest in
          (λ never. never, place_free _ beside name c.requires.beside c.requires.name file.free file.no_folder),
    )) did.put)
    (on_err_weaker done (λ left grows.
    put_left _ _ _ _ _ _ c.to.ensures.given beside name bytes is is_then c.requires.beside grows left) did.left)
    (λ never. absurd never) did.refused did.asked

pub returns-clause-cause : goal.returns-clause-cause
returns-clause-cause g c =
    told (g.D.Disk.state c.args.self.now.disk) (g.D.Disk.state c.replace-done.new.disk) ⊥ _ c.replace-done.result c.to.result c.to.ensures.answer c.replace-done.ensures.failures c.replace-done.ensures.refused

pub returns-clause-looks_first : goal.returns-clause-looks_first
returns-clause-looks_first g c = c.replace-done.ensures.looks_first
