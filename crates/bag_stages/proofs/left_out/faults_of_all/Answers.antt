use Rattle.bag_stages.proofs.Common.{◌≡◌, true, false, sym, ◌∙◌, IfOk-weaker, contains_nothing, nothing_listed}
use Rattle.bag_stages.proofs.Common.{same_members, fault_cmp, IsFileLeftOutByAll}
use Rattle.bag_stages.proofs.LeftOut.{some_member}
use Rattle.bag_stages.proofs.left_out.faults_of_all.Goals as goal

pub returns-then-is_empty : goal.returns-then-is_empty
returns-then-is_empty c = λ bag facts deep.
    rw c.new.ensures.items
    (nothing_listed fault_cmp (IsFileLeftOutByAll bag) (λ f h. let some = h.1.1.0 in contains_nothing some.0
    (rw (c.is_empty.ensures.0 c.if-is_empty.true) at ((c.algs.ensures bag facts some.0).1 some.1))))

pub returns : goal.returns
returns c = IfOk-weaker c.named_by_none.result _ _
    (λ faults list bag facts deep.
    let some =
    some_member _ (λ e. let clash : true ≡ false = sym (c.is_empty.ensures.1 e) ∙ c.if-is_empty.false in cc) in
    same_members fault_cmp _ _ faults.items (λ f h.
    (h.0, (h.1.0, ((some.0, (c.algs.ensures bag facts some.0).0 some.1), h.1.1))))
    (λ f h. (h.0, (h.1.0, h.1.1.1))) (list bag facts deep))
    c.named_by_none.ensures
