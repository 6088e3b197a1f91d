use Rattle.bag_report.proofs.Conforming.{◌↔◌, sym, subst, Contains, IsTrue, is_ok, map-id, found}
use Rattle.bag_report.proofs.label_rule.is_among.Goals as goal

pub returns : goal.returns
returns c =
    let texts = c.args.texts.now in
    let text = c.args.text.now in
    let search = c.binary_search in
    subst (λ r. IsTrue r ↔ Contains texts text) (sym c.is_ok.ensures.value)
    (subst (λ ts. IsTrue (is_ok search.result) ↔ Contains ts text) (map-id texts)
    (found (λ t. t) texts text text search.result c.requires search.ensures.bound search.ensures.position))
