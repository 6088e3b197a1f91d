use Rattle.bag_changes.proofs.Common.{◌≡◌, ◌∙◌, ap, sym, subst, dropping, Payload}
use Rattle.std.proofs.lemmas.Result.{IfOk-weaker}
use Rattle.bag_changes.specs.Changes.{removals_of}
use Rattle.bag_changes.specs.Composing.{AreOfFiles}
use Rattle.bag_renewed.specs.Target.{OfTarget}
use Rattle.bag_changes.proofs.OfFiles.{removals_of_files}
use Rattle.bag_changes.proofs.removing.dropped.Goals as goal

pub returns-clause-changes : goal.returns-clause-changes
returns-clause-changes c =
    IfOk-weaker c.removals.result _ (λ made.
    OfTarget c.args.target.now (λ bag renewal. made.items ≡ dropping bag renewal)) (λ made h bag renewal aim.
    h ∙ ap (removals_of Payload) (c.deref.ensures.value ∙ c.in_ok-gone.ensures.items ∙ aim.dropped)) c.removals.ensures

pub returns-clause-files : goal.returns-clause-files
returns-clause-files c =
    IfOk-weaker c.removals.result _ (λ made. AreOfFiles made.items) (λ made h.
    subst AreOfFiles (sym h) (removals_of_files Payload c.deref.result.now)) c.removals.ensures
