use Rattle.bag_stages.proofs.Common.{sym, ◌∙◌, IfOk-weaker, fault_cmp, nothing_listed, rules_in, same_members}
use Rattle.bag_stages.proofs.LeftOut.{not_both}
use Rattle.bag_stages.proofs.manifests.asked_unnamed.Goals as goal

pub returns-in-V10 : goal.returns-in-V10
returns-in-V10 c = IfOk-weaker c.unnamed_faults.result _ _
    (λ faults list bag facts ordered.
    same_members fault_cmp _ _ faults.items (λ f h. (sym (c.rules.ensures bag facts) ∙ c.in-V10.is, h)) (λ f h. h.1)
    ((rw c.files.ensures at list) ordered facts.ordered.ascending))
    c.unnamed_faults.ensures

pub returns-in-V097 : goal.returns-in-V097
returns-in-V097 c = λ bag facts ordered.
    rw c.new.ensures.items
    (nothing_listed fault_cmp _ (λ f h.
    not_both (rules_in bag) h.0 (sym (c.rules.ensures bag facts) ∙ c.in-V097.is)))
