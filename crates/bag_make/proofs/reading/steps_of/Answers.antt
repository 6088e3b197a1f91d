use Rattle.bag_make.proofs.Common.{◌∙◌, All, IsTrue, subst, sym, IfOk-weaker, files_of, listings_are_of_the_bag}
use Rattle.bag_make.proofs.Common.{is_base_name, File}
use Rattle.bag_make.proofs.OfTheBag.{tag_files_in_base}
use Rattle.bag_make.proofs.reading.steps_of.Goals as goal

pub returns-clause-of_bag : goal.returns-clause-of_bag
returns-clause-of_bag c =
    IfOk-weaker c.plan.result _ _
    (λ steps planned bag ordered of summed.
    planned bag c.args.algs c.args.info.now ordered of
    (c.in_ok-tag_files.ensures.files (files_of bag)
    (sym (listings_are_of_the_bag bag c.args.listing.now ordered of) ∙ sym c.as_slice.ensures) summed))
    c.plan.ensures.of_bag

pub returns-clause-fit : goal.returns-clause-fit
returns-clause-fit c =
    IfOk-weaker c.plan.result _ _
    (λ steps fit files listed summed ordered free.
    fit ordered free
    (subst (All (λ (e : File). IsTrue (is_base_name e.0)))
    (sym (c.in_ok-tag_files.ensures.files files (listed ∙ sym c.as_slice.ensures) summed))
    (tag_files_in_base files c.args.algs c.args.info.now)))
    c.plan.ensures.fit
