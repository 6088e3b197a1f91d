use Rattle.bag_faults.proofs.Common.{◌≡◌, Ok, lit<, sym, ap, ◌∙◌, codes, parse-decimal}
use Rattle.std.proofs.lemmas.Result.{MatchResult-at_ok}
use Rattle.bag_faults.proofs.Lines.{same_line_field, decimal_written, equal_texts}
use Rattle.bag_faults.proofs.from_line.read_line_number.Goals as goal

pub returns-then-eq : goal.returns-then-eq
returns-then-eq c line small e =
    let dash = equal_texts c.args.field.now (codes "-") (sym c.eq.ensures ∙ c.if-eq.true) in
    ap Ok (same_line_field 0 line (lit< tt) small (sym (e ∙ dash)))

pub returns : goal.returns
returns c line small e =
    let written = decimal_written line c.args.field.now e (sym c.eq.ensures ∙ c.if-eq.false) in
    let parsed : c.parse.result ≡ Ok line =
    parse-decimal 64 line c.args.field.now c.parse.result small small written c.parse.ensures.value.0 in
    MatchResult-at_ok _ _ line parsed c.map_err.ensures.cases
