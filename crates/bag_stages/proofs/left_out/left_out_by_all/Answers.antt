use Rattle.bag_stages.proofs.Common.{arith, rules, ◌≡◌, sym, ◌∙◌, IfOk-weaker, V097, fault_cmp, nothing_listed}
use Rattle.bag_stages.proofs.Common.{same_members}
use Rattle.bag_stages.proofs.left_out.left_out_by_all.Goals as goal

pub returns-then-is_asked : goal.returns-then-is_asked
returns-then-is_asked c = IfOk-weaker c.faults_of_all.result _ _
    (λ faults list bag facts deep.
    let is : c.rules.result ≡ V097 = search rules in
    same_members fault_cmp _ _ faults.items (λ f h. (sym (c.rules.ensures bag facts) ∙ is, h)) (λ f h. h.1)
    (list bag facts deep))
    c.faults_of_all.ensures

pub returns-else-is_asked : goal.returns-else-is_asked
returns-else-is_asked c = λ bag facts deep. rw c.new.ensures.items (nothing_listed fault_cmp _ (λ f h. grind arith))
