use Rattle.bag_store.proofs.Common.{IsTrue, MeetsSpecial, on_err_weaker, on_ok_weaker, step_due_for}
use Rattle.std.proofs.lemmas.Result.{IfErr-weaker}
use Rattle.bag_disk.specs.Refusal.{IsDueInStep}
use Rattle.bag_store.proofs.AnsweredCalls.{answered, told}
use Rattle.bag_store.proofs.BagSteps.{has_file_there}
use Rattle.bag_store.proofs.ChangedTree.{gone_changed, gone_left, kept_count}
use Rattle.bag_store.specs.Changing.{LacksFileThere}
use Rattle.bag_store.specs.Due.{IsDueInRemoving}
use Rattle.bag_store.proofs.file_tree.FileTreeReplaceTree.remove.Goals as goal

pub returns-clause-removes : goal.returns-clause-removes
returns-clause-removes g c =
    let old = g.D.Disk.state c.args.self.now.disk in
    let done = c.remove-done.result in
    let did = c.remove-done.ensures in
    let name = c.args.name.now in
    let is = g.met.D.Disk.is_disk c.args.self.now.disk in
    let is_then = g.met.D.Disk.is_disk c.remove-done.new.disk in
    answered old (g.D.Disk.state c.remove-done.new.disk) _ _ _ _ _ _ _ _ _ (LacksFileThere old name) _ _
    done c.to.result c.to.ensures.answer c.to.ensures.failures c.to.ensures.last did.failures
    (on_ok_weaker done (λ removed kept same. (
      gone_changed _ _ _ _ _ _ c.to.ensures.given name is is_then (kept_count _ _ _ _ kept same) removed,
      λ honest. (has_file_there _ name (removed.was honest), λ never. never),
    )) did.removed)
    (on_err_weaker done (λ left grows.
    gone_left _ _ _ _ _ _ c.to.ensures.given name is is_then grows left) did.left)
    (λ none. none)
    (IfErr-weaker done (IsDueInRemoving old (LacksFileThere old name))
    (IsDueInStep (MeetsSpecial old) (LacksFileThere old name) (IsTrue old.honest → ⊥)) (λ r.
    step_due_for _ _ _ _ _ _ r (λ special. special) (λ none. none) (λ never. absurd never)) did.refused)
    did.asked

pub returns-clause-cause : goal.returns-clause-cause
returns-clause-cause g c =
    told (g.D.Disk.state c.args.self.now.disk) (g.D.Disk.state c.remove-done.new.disk) _ ⊥ c.remove-done.result c.to.result c.to.ensures.answer c.remove-done.ensures.failures c.remove-done.ensures.refused
