use Rattle.bag_renew_cli.proofs.Common.{◌∙◌, rules, tests, ap, sym, list_all, found_of, values_of}
use Rattle.bag_renew_cli.proofs.Common.{all_from_yields_List, YieldsList-from_slice}
use Rattle.bag_renew_cli.specs.Listed.{is_element}
use Rattle.bag_renew_cli.proofs.Lent.{all_lent}
use Rattle.bag_renew_cli.proofs.given.are_elements.Goals as goal

pub returns-in-None : goal.returns-in-None
returns-in-None c =
    sym (ap (list_all is_element)
    (values_of (found_of c.args.matches.now) c.args.id.now c.get_strs.result _ c.get_strs.ensures c.in-None.is))

pub returns-in-Some : goal.returns-in-Some
returns-in-Some c =
    let texts = c.in-Some.texts.now in
    all_from_yields_List (λ text. is_element text.now) _ _ c.all.result c.all.ensures.ran
    (YieldsList-from_slice texts c.iter.ensures.rest) (λ x b q k. search (rules, tests))
    ∙ all_lent is_element texts
    ∙ sym (ap (list_all is_element)
    (values_of (found_of c.args.matches.now) c.args.id.now c.get_strs.result _ c.get_strs.ensures c.in-Some.is))
