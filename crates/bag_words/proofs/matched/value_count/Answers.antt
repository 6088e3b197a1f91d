use Rattle.bag_words.proofs.Common.{◌∙◌, List, ap, length, sym, length-map, Text, found_of}
use Rattle.bag_words.proofs.Reading.{values_of}
use Rattle.bag_words.proofs.matched.value_count.Goals as goal

pub returns-in-None : goal.returns-in-None
returns-in-None c = sym
    (ap (λ (xs : List Text). length xs)
    (values_of (found_of c.args.matches.now) c.args.id.now c.get_strs.result _ c.get_strs.ensures
    c.in-None.is))

pub returns-in-Some : goal.returns-in-Some
returns-in-Some c =
    sym (ap (λ (xs : List Text). length xs)
    (values_of (found_of c.args.matches.now) c.args.id.now c.get_strs.result _ c.get_strs.ensures
    c.in-Some.is) ∙ length-map _ _)
