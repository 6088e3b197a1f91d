use Rattle.std.proofs.Common.{rules}
use Rattle.bag_reports.proofs.done_line.is_done_line.Goals as goal

pub returns-in-Ok : goal.returns-in-Ok
returns-in-Ok c =
    let wrote = rw (c.as_str-name.ensures, c.text_in-profile.ensures, c.as_ref.ensures.value) at c.in-Ok.ensures in
    search rules
