use Rattle.bag_stages.proofs.Common.{◌≡◌, false, true, sym, ◌∙◌, IfOk-weaker, fault_cmp, nothing_listed, same_members}
use Rattle.bag_stages.proofs.completeness.clashes_if_set.Goals as goal

pub returns-then-is_asked : goal.returns-then-is_asked
returns-then-is_asked c =
    let asked = rw c.options-is_asked.ensures at c.if-is_asked.true in
    IfOk-weaker c.clash_faults.result _ _
    (λ faults list bag facts deep.
    same_members fault_cmp _ _ faults.items (λ f h. (h, asked)) (λ f h. h.0) (list bag facts deep))
    c.clash_faults.ensures

pub returns-else-is_asked : goal.returns-else-is_asked
returns-else-is_asked c = λ bag facts deep.
    let other = rw c.options-is_asked.ensures at c.if-is_asked.false in
    rw c.new.ensures.items
    (nothing_listed fault_cmp _ (λ f h. let clash : false ≡ true = sym other ∙ h.1 in cc))
