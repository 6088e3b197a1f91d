use Rattle.bag_stages.proofs.CompletenessFaults.{all_sought}
use Rattle.bag_stages.proofs.completeness.completeness_faults.Goals as goal

pub returns : goal.returns
returns c = λ bag facts deep.
    all_sought bag c.args.facts.now.options.clashes c.in_ok-of_files.of_files.items c.in_ok-of_names.of_names.items
    c.sort.new.self.items
    (c.in_ok-of_files.ensures bag facts deep) (c.in_ok-of_names.ensures bag facts deep)
    (rw c.in_ok-faults.ensures at c.sort.ensures.permutation) c.in_ok-sort.ensures.sorted
