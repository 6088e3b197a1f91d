use Rattle.bag_report.proofs.Conforming.{arith, nat_list_cmp_total, answers_always, ranks_by, folded_label}
use Rattle.bag_report.proofs.ByLabel.{comes_before, labels_stay}
use Rattle.bag_report.proofs.by_label.by_label.Goals as goal

pub returns-clause-labelled : goal.returns-clause-labelled
returns-clause-labelled c = grind
    (arith, ranks_by nat_list_cmp_total folded_label, labels_stay, comes_before, answers_always)

pub returns-clause-sorted : goal.returns-clause-sorted
returns-clause-sorted c = grind (arith, ranks_by nat_list_cmp_total folded_label, comes_before, answers_always)
