use Rattle.bag_report.proofs.Conforming.{◌↔◌, subst, Contains, IsTrue, sym, ◌∙◌, true, false, ◌≡◌, arith, common_steps}
use Rattle.bag_report.proofs.LabelRule.{found_allowed}
use Rattle.bag_report.proofs.label_rule.is_allowed.Goals as goal

pub returns-then-is_empty : goal.returns-then-is_empty
returns-then-is_empty c = grind (arith, common_steps)

pub returns : goal.returns
returns c =
    let value = c.args.value.now in
    found_allowed c.args.rule.now.values value c.is_among.result
    (λ none. let clash : false ≡ true = sym c.if-is_empty.false ∙ c.is_empty.ensures.1 none in cc)
    (subst (λ values. IsTrue c.is_among.result ↔ Contains values value) c.as_slice.ensures c.is_among.ensures)
