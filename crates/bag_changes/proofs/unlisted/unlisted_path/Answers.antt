use Rattle.bag_changes.proofs.Common.{ap, inr, Some, ◌∙◌, sym}
use Rattle.bag_changes.proofs.Obstructed.{all_listed, first_unlisted_is, named_by_kept, none_names_all}
use Rattle.bag_changes.proofs.unlisted.unlisted_path.Goals as goal

pub returns-then-names_all : goal.returns-then-names_all
returns-then-names_all c = λ bag of deep renewal aim.
    all_listed bag renewal (sym (c.names_all.ensures bag of deep renewal aim) ∙ c.if-names_all.true)

pub returns-in_ok-copy-in-Some : goal.returns-in_ok-copy-in-Some
returns-in_ok-copy-in-Some c = λ bag of deep renewal aim.
    let none = none_names_all bag renewal
    (sym (c.names_all.ensures bag of deep renewal aim) ∙ c.if-names_all.false) in (
      none.0,
      sym (first_unlisted_is bag c.args.facts.now of renewal _ none.1 (c.in-Some.ensures bag of deep renewal aim))
          ∙ ap Some (sym c.in_ok-copy-in-Some.ensures),
    )

pub returns-in-None : goal.returns-in-None
returns-in-None c = λ bag of deep renewal aim.
    inr (inr (named_by_kept bag c.args.facts.now of renewal (sym (c.in-None.ensures bag of deep renewal aim))))
