use Rattle.bag_report.proofs.Conforming.{sym, refl, ◌∙◌}
use Rattle.bag_report.proofs.WholeBag.{right_form_all, wrong_form_all}
use Rattle.bag_report.proofs.whole_bag.whole_faults.Goals as goal
use Rattle.bag_report.proofs.whole_bag.whole_faults.Goals.{in-Some+in_ok-push, in_default}

pub returns : goal.returns
returns c = λ bag facts deep.
    let of_version = c.in_ok-faults.faults.items in
    elim c.match-wrong_form.branch [
      | in-Some+in_ok-push w ↦ wrong_form_all bag c.args.profile.now of_version c.match-wrong_form.faults.items
          w.of_bag.result w.in-Some.code (c.in_ok-faults.ensures bag facts)
          w.of_bag.ensures (rw w.faults-is w.in_ok-push.ensures.items) (sym c.wrong_form.ensures ∙ w.in-Some.is)
      | in_default w ↦ right_form_all bag c.args.profile.now of_version c.match-wrong_form.faults.items
          (c.in_ok-faults.ensures bag facts) (rw w.faults-is refl) (sym c.wrong_form.ensures ∙ w.in_default.is)
    ]
