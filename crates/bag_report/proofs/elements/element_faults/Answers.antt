use Rattle.bag_report.proofs.Conforming.{sym, subst, ◌∙◌, IsOfElements}
use Rattle.bag_report.specs.ElementFaults as reported
use Rattle.bag_report.proofs.ElementFaults.{labelled_are, elements_are}
use Rattle.bag_report.proofs.FaultSets.{permuted_all}
use Rattle.bag_report.proofs.LabelRule.{AreOf}
use Rattle.bag_report.proofs.elements.element_faults.Goals as goal

pub returns : goal.returns
returns c = λ bag of deep.
    let elements = c.elements_of.result.now in
    let sorted = c.in_ok-sorted.sorted.items in
    let all = c.append.new.self.items in
    let list = labelled_are bag elements (c.elements_of.ensures bag of deep) in
    permuted_all (IsOfElements bag c.args.profile.now) all c.sort_by_key.new.self.items
    c.sort_by_key.ensures.permutation
    (elements_are bag c.args.profile.now (reported.lent sorted)
    (λ label. subst (AreOf bag label) (sym (c.in_ok-sorted.ensures.labelled label)) (list label)) all
    (c.in_ok-append.ensures.items
    ∙ rw (
      c.in_ok-faults.ensures,
      c.in_ok-rules_faults.ensures,
      c.labelled-naming.ensures,
      c.as_slice.ensures.value,
      c.as_slice-2.ensures.value,
      c.identifier.ensures,
      c.labels.ensures.labels,
    )))
