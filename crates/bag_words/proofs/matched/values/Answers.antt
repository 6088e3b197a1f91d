use Rattle.bag_words.proofs.Common.{◌∙◌, sym, IfOk-weaker, found_of}
use Rattle.bag_words.proofs.Reading.{values_of}
use Rattle.bag_words.proofs.matched.values.Goals as goal

pub returns-in-None : goal.returns-in-None
returns-in-None c = c.new.ensures
    ∙ sym (values_of (found_of c.args.matches.now) c.args.id.now c.get_strs.result _ c.get_strs.ensures
    c.in-None.is)

pub returns-in-Some : goal.returns-in-Some
returns-in-Some c =
    IfOk-weaker c.texts.result _ _
    (λ items h. h ∙ sym
    (values_of (found_of c.args.matches.now) c.args.id.now c.get_strs.result _ c.get_strs.ensures
    c.in-Some.is)) c.texts.ensures
