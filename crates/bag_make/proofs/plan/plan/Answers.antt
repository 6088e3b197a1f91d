use Rattle.bag_make.proofs.Common.{arith, ◌≡◌, ◌∷◌, ◌++◌, [], All, map, append_assoc, ap, sym, ◌∙◌, subst, not-true}
use Rattle.bag_make.proofs.Common.{lent_texts, has_new, listed_tops, new_file, steps_for, IsStep, MakeFolder, MoveIn}
use Rattle.bag_make.proofs.Common.{Rename}
use Rattle.bag_make.proofs.OfTheBag.{tops_are, top_is, steps_fit}
use Rattle.bag_make.proofs.plan.plan.Goals as goal

pub returns-clause-of_bag : goal.returns-clause-of_bag
returns-clause-of_bag c = λ bag algs info ordered listed same. grind (arith, append_assoc, tops_are)

pub returns-clause-fit : goal.returns-clause-fit
returns-clause-fit c = λ ordered free names.
    let files = c.args.tag_files.items in
    let listing = c.args.listing.now in
    let planned : c.push_files.new.steps.items ≡ steps_for (listed_tops listing) files =
    c.in_ok-push_files.ensures ∙ ap (λ steps. steps ++ map new_file files) c.in_ok-steps.ensures
    ∙ append_assoc (MakeFolder ∷ map MoveIn (lent_texts c.as_slice.result.now)) (Rename ∷ []) (map new_file files)
    ∙ ap (λ names. steps_for names files) (ap lent_texts c.as_slice.ensures.value ∙ c.in_ok-names.ensures) in
    subst (All IsStep) (sym planned)
    (steps_fit (listed_tops listing) files (top_is listing ordered (not-true (has_new listing) free)) names)
