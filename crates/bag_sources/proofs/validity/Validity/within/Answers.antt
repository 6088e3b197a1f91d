use Rattle.bag_sources.proofs.Common.{refl, option_copied}
use Rattle.bag_sources.proofs.ChosenWithin.{chosen_faults, chosen_is_of, chosen_todo}
use Rattle.bag_sources.proofs.validity.Validity.within.Goals as goal

pub returns : goal.returns
returns c =
    let after = option_copied c.args.after in
    let bounds = c.args.bounds.now in
    let files = c.in_ok-files_to_sum.ensures in
    rw (c.in_ok-copied.ensures, c.new.ensures, c.new-3.ensures, c.new-2.ensures.items) (record {
      of = λ bag of. chosen_is_of bounds bag after c.args.facts.now of _ (files.files bag of) files.none;
      faults = λ bag of full. chosen_faults bounds bag after c.args.facts.now of _ (files.files bag of full);
      todo = λ bag of full. chosen_todo bounds bag after c.args.facts.now of _ (files.files bag of full);
      none = λ other. (files.none other, refl);
      fresh = refl;
    })
