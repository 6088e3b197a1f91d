use Rattle.bag_store.proofs.Common.{on_err_weaker, on_ok_weaker}
use Rattle.bag_store.proofs.AnsweredCalls.{answered, told}
use Rattle.bag_store.proofs.BagSteps.{not_taken}
use Rattle.bag_store.proofs.ChangedTree.{file_changed, kept_count, step_begun}
use Rattle.bag_store.proofs.Durable.{created_durable}
use Rattle.bag_store.proofs.FirstOf.{begun_asked}
use Rattle.bag_store.proofs.file_tree.FileTreeWriteTree.create.Goals as goal

pub returns-clause-creates : goal.returns-clause-creates
returns-clause-creates g c =
    let old = g.D.Disk.state c.args.self.now.disk in
    let new = g.D.Disk.state c.create-done.new.disk in
    let done = c.create-done.result in
    let did = c.create-done.ensures in
    let name = c.args.name.now in
    let bytes = c.args.bytes.now in
    let is = g.met.D.Disk.is_disk c.args.self.now.disk in
    let is_then = g.met.D.Disk.is_disk c.create-done.new.disk in
    answered old new _ _ _ _ _ _ _ _ _ ⊥ _ _
    done c.to.result c.to.ensures.answer c.to.ensures.failures c.to.ensures.last did.failures
    (on_ok_weaker done (λ made kept same. (
      file_changed _ _ _ _ _ _ c.to.ensures.given name bytes is is_then (kept_count _ _ _ _ kept same) made,
      λ honest. (λ never. never, not_taken _ name c.requires (made.file honest).free),
    )) did.made)
    (on_err_weaker done (λ begun grows.
    step_begun _ _ _ _ _ _ c.to.ensures.given name bytes is is_then c.requires grows begun) did.begun)
    (λ never. absurd never) did.refused (begun_asked name bytes old new done did.asked)

pub returns-clause-cause : goal.returns-clause-cause
returns-clause-cause g c =
    told (g.D.Disk.state c.args.self.now.disk) (g.D.Disk.state c.create-done.new.disk) ⊥ _ c.create-done.result c.to.result c.to.ensures.answer c.create-done.ensures.failures c.create-done.ensures.refused

pub invariant_of-self : goal.invariant_of-self
invariant_of-self g c =
    let old = g.D.Disk.state c.args.self.now.disk in
    let new = g.D.Disk.state c.create-done.new.disk in
    record {
      durable = λ is.
          created_durable old new c.args.name.now c.args.bytes.now c.create-done.result c.create-done.ensures.made
          c.create-done.ensures.begun
          (begun_asked c.args.name.now c.args.bytes.now old new c.create-done.result c.create-done.ensures.asked)
          (c.args.self.now.durable is);
    }
