use Rattle.bag_stages.proofs.Common.{sym, ◌∙◌, IfOk-weaker}
use Rattle.bag_stages.proofs.FetchFaults.{listed_by_all, listed_by_one}
use Rattle.bag_stages.proofs.fetch.left_out_faults.Goals as goal

pub returns-in-V10 : goal.returns-in-V10
returns-in-V10 c = IfOk-weaker c.left_out_by_some.result _ _
    (λ faults list bag facts deep at fetched.
    listed_by_one bag faults.items (sym (c.rules.ensures bag facts) ∙ c.in-V10.is) (list bag facts deep at fetched))
    c.left_out_by_some.ensures

pub returns-in-V097 : goal.returns-in-V097
returns-in-V097 c = IfOk-weaker c.left_out_by_all.result _ _
    (λ faults list bag facts deep at fetched.
    listed_by_all bag faults.items (sym (c.rules.ensures bag facts) ∙ c.in-V097.is)
    (list bag facts deep at fetched))
    c.left_out_by_all.ensures
