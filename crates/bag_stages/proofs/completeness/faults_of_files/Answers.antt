use Rattle.bag_stages.proofs.Common.{ap, subst, sym, ◌++◌, ◌∙◌, HasEachOnce, IfOk-weaker, IsIncomplete}
use Rattle.bag_stages.proofs.CompletenessFaults.{incomplete_once}
use Rattle.bag_stages.proofs.completeness.faults_of_files.Goals as goal

pub returns : goal.returns
returns c = IfOk-weaker c.appended-2.result _ _
    (λ faults is bag facts deep.
    let of_all = c.in_ok-of_all.of_all.items in
    subst (HasEachOnce (IsIncomplete bag)) (sym (is ∙ ap (λ first. first ++ of_all) c.in_ok-of_manifests.ensures))
    (incomplete_once bag c.in_ok-of_payload.of_payload.items c.in_ok-of_tags.of_tags.items of_all
    (c.in_ok-of_payload.ensures bag facts deep) (c.in_ok-of_tags.ensures bag facts deep)
    (c.in_ok-of_all.ensures bag facts deep)))
    c.appended-2.ensures
