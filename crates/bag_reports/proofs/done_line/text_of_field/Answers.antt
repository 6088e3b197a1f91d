use Rattle.std.proofs.Common.{◌≡◌, Some, sym, subst, ap, ◌∙◌}
use Rattle.std.specs.Prelude.{IsUtf8}
unfoldable use Rattle.percent_encoding.specs.Percent.{percent_decode}
use Rattle.percent_encoding.specs.Iter.{decoded_bytes}
use Rattle.bag_faults.proofs.Lines.{text_written, nothing_written}
use Rattle.bag_reports.proofs.done_line.text_of_field.Goals as goal

pub returns-then-eq-clause-reads : goal.returns-then-eq-clause-reads
returns-then-eq-clause-reads c text u e =
    ap Some (c.empty.ensures ∙ nothing_written text c.args.field_text.now u e (sym c.eq.ensures ∙ c.if-eq.true))

pub returns-in_ok-into_owned-in-Ok-clause-reads : goal.returns-in_ok-into_owned-in-Ok-clause-reads
returns-in_ok-into_owned-in-Ok-clause-reads c text u e = ap Some
    (c.from_string.ensures ∙ c.in_ok-into_owned-in-Ok.ensures.ok ∙ c.in-Ok.ensures.value
    ∙ c.percent_decode.ensures.bytes ∙ ap percent_decode c.as_bytes.ensures.value
    ∙ text_written text c.args.field_text.now u e (sym c.eq.ensures ∙ c.if-eq.false))

pub returns-in-Err-Utf8-clause-reads : goal.returns-in-Err-Utf8-clause-reads
returns-in-Err-Utf8-clause-reads c text u e =
    let read : decoded_bytes c.percent_decode.result ≡ text =
    c.percent_decode.ensures.bytes ∙ ap percent_decode c.as_bytes.ensures.value
    ∙ text_written text c.args.field_text.now u e (sym c.eq.ensures ∙ c.if-eq.false) in
    let memory = c.in-Err-Utf8.ensures.utf8 (subst IsUtf8 (sym read) u) in
    cc
