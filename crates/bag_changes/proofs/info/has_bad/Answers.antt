use Rattle.std.proofs.Common.{rules, tests}
use Rattle.std.proofs.lemmas.Bool.{MatchBool-at_false}
use Rattle.std.proofs.lemmas.Iterator.{YieldsList-from_slice, cases_from_any}
use Rattle.std.proofs.lemmas.List.Elements.{All-from_all_within}
use Rattle.bag_tags.specs.Element.{AreTexts}
use Rattle.bag_changes.proofs.info.has_bad.Goals as goal

pub returns-clause-texts : goal.returns-clause-texts
returns-clause-texts c = λ none.
    All-from_all_within AreTexts c.args.elements.now (MatchBool-at_false _ _ none (cases_from_any _ _ _ (λ e. Unit {0})
    AreTexts c.any.ensures.ran (YieldsList-from_slice c.args.elements.now cc) (λ x q k. tt)
    (λ x q k. search (rules, tests))))
