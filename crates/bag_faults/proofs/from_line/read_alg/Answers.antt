use Rattle.bag_faults.proofs.Common.{◌≡◌, None, Ok, sym, ap, ◌∙◌, codes, alg_named}
use Rattle.bag_faults.proofs.Algs.{same_alg_field, alg_written, is_of_alg}
use Rattle.bag_faults.proofs.Lines.{equal_texts}
use Rattle.bag_faults.proofs.from_line.read_alg.Goals as goal

pub returns-then-eq : goal.returns-then-eq
returns-then-eq c alg e = ap Ok
    (same_alg_field None alg (sym (e ∙ equal_texts c.args.field.now (codes "-") (sym c.eq.ensures ∙ c.if-eq.true))))

pub returns-in-Some : goal.returns-in-Some
returns-in-Some c alg e = let named : alg_named c.args.field.now
    ≡ alg = alg_written alg c.args.field.now e (sym c.eq.ensures ∙ c.if-eq.false) in cc

pub returns-in-None : goal.returns-in-None
returns-in-None c alg e =
    let other = sym c.eq.ensures ∙ c.if-eq.false in
    absurd (is_of_alg alg c.args.field.now e other
    (sym (alg_written alg c.args.field.now e other) ∙ sym c.from_name.ensures ∙ c.in-None.is))
