use Rattle.bag_report.proofs.Conforming.{rules, of_calls, always_returns_same, text_cmp}
use Rattle.bag_report.proofs.ListRules.{name_found}
use Rattle.bag_report.proofs.profile_rules.has_name.Goals as goal

pub returns : goal.returns
returns c = λ ascending.
    name_found c.args.names.now c.args.name.now c.binary_search_by.result c.is_ok.result c.is_ok.ensures.value ascending
    c.binary_search_by.ensures.bound
    (c.binary_search_by.ensures.position (λ listed. text_cmp listed c.args.name.now)
    (always_returns_same _ _ _ (λ a r f called. search (rules, of_calls))))
