use Rattle.std.proofs.Common.{subst}
use Rattle.std.specs.Prelude.{IsUtf8}
use Rattle.bag_reports.proofs.Plain.{fault_is_text}
use Rattle.bag_reports.proofs.fault_lines.fault_in.Goals as goal

pub returns-in_default : goal.returns-in_default
returns-in_default c f is =
    let text = fault_is_text f is.fault in
    let said : IsUtf8 c.args.line.now = subst IsUtf8 is.text text in
    c.in_default.ensures.cases.0 said
