use Rattle.bag_text.proofs.Common.{rules, ◌≡◌, ◌∙◌, sym, ap, Some, Option, List, ℕ, unescaped_strictly}
use Rattle.bag_text.proofs.Spellings.{unescaped_without}
use Rattle.bag_text.proofs.path.unescape_strictly.Goals as goal

pub returns-in_err-from_str-clause-bad_escape : goal.returns-in_err-from_str-clause-bad_escape
returns-in_err-from_str-clause-bad_escape c =
    let itself : unescaped_strictly c.args.text.now ≡ Some c.args.text.now =
    unescaped_without c.args.text.now
    (rw c.as_bytes.ensures.value at (sym c.has_no_percent.ensures ∙ c.if-has_no_percent.true)) in
    search rules

pub returns-then-has_no_percent : goal.returns-then-has_no_percent
returns-then-has_no_percent c =
    let itself : unescaped_strictly c.args.text.now ≡ Some c.args.text.now =
    unescaped_without c.args.text.now
    (rw c.as_bytes.ensures.value at (sym c.has_no_percent.ensures ∙ c.if-has_no_percent.true)) in
    record {
      ok = itself
          ∙ ap {B = Option (List ℕ)} Some (sym c.in_ok-from_str.ensures.ok);
      bad_escape = (λ e. cc, λ e. cc);
    }
