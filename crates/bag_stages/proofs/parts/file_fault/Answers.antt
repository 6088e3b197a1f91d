use Rattle.bag_stages.proofs.Common.{◌≡◌, true, false, sym, ◌∙◌}
use Rattle.bag_stages.proofs.PartFaults.{only_unsupported, only_textless, no_file_fault}
use Rattle.bag_stages.proofs.parts.file_fault.Goals as goal

pub returns-in-Some : goal.returns-in-Some
returns-in-Some c = λ bag facts.
    rw (c.with.ensures, c.in_ok-fault.ensures, c.in_ok-detail.ensures)
    (only_unsupported bag c.args.path.now c.in-Some.alg.now (rw c.as_str.ensures at c.in-Some.ensures))

pub returns-then-has_no_text : goal.returns-then-has_no_text
returns-then-has_no_text c = λ bag facts.
    rw c.in_ok-about.ensures
    (only_textless bag c.args.path.now (rw c.as_str.ensures at c.in_default.ensures)
    (rw c.as_str-2.ensures at ((c.has_no_text.ensures bag facts).0 c.if-has_no_text.true)))

pub returns : goal.returns
returns c = λ bag facts.
    no_file_fault bag c.args.path.now (rw c.as_str.ensures at c.in_default.ensures)
    (λ text. let clash : false ≡ true = sym c.if-has_no_text.false
    ∙ (c.has_no_text.ensures bag facts).1 (rw c.as_str-2.ensures text) in cc)
