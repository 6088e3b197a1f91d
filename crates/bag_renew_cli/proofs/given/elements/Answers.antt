use Rattle.bag_renew_cli.proofs.Common.{◌∙◌, ap, sym, map, IfOk-weaker, found_of, values_of}
use Rattle.bag_renew_cli.specs.Listed.{element}
use Rattle.bag_renew_cli.proofs.Lent.{map_lent}
use Rattle.bag_renew_cli.proofs.given.elements.Goals as goal

pub returns-in-None : goal.returns-in-None
returns-in-None c =
    c.new.ensures
    ∙ sym (ap (map element)
    (values_of (found_of c.args.matches.now) c.args.id.now c.get_strs.result _ c.get_strs.ensures c.in-None.is))

pub returns-in-Some : goal.returns-in-Some
returns-in-Some c =
    IfOk-weaker c.elements.result _ _
    (λ items h. h ∙ map_lent element c.in-Some.texts.now
    ∙ sym (ap (map element)
    (values_of (found_of c.args.matches.now) c.args.id.now c.get_strs.result _ c.get_strs.ensures c.in-Some.is)))
    c.elements.ensures
