use Rattle.bag_text.proofs.Common.{sym, ◌∙◌, ◌≡◌, Some, unescaped_strictly}
use Rattle.bag_text.proofs.Spellings.{unescaped_without}
use Rattle.bag_text.proofs.path.is_written_as_itself.Goals as goal

pub returns-in-V10-clause-itself : goal.returns-in-V10-clause-itself
returns-in-V10-clause-itself c none =
    let itself : unescaped_strictly c.args.text.now ≡ Some c.args.text.now =
    unescaped_without c.args.text.now (rw c.as_bytes.ensures.value at (sym c.has_no_percent.ensures ∙ none)) in
    rw c.in-V10.is itself
