use Rattle.bag_faults.proofs.Common.{sym, ap, ◌∙◌, percent_encode, ESCAPED}
use Rattle.bag_faults.proofs.Escapes.{same_escapes, other_field, nonempty}
use Rattle.bag_faults.proofs.FieldPieces.{empty_field, hyphen_field, plain_hyphen, escaped_hyphen}
use Rattle.bag_faults.proofs.field.field_pieces.Goals as goal

pub returns-then-is_empty : goal.returns-then-is_empty
returns-then-is_empty c = c.percent_encode.ensures.text ∙ plain_hyphen
    ∙ sym (empty_field c.args.text.now (sym c.is_empty.ensures ∙ c.if-is_empty.true))

pub returns-then-eq : goal.returns-then-eq
returns-then-eq c =
    c.percent_encode-then-eq.ensures.text ∙ escaped_hyphen
    ∙ sym (hyphen_field c.args.text.now (nonempty c.args.text.now (sym c.is_empty.ensures ∙ c.if-is_empty.false))
    (sym c.eq.ensures ∙ c.if-eq.true))

pub returns-else-eq : goal.returns-else-eq
returns-else-eq c =
    let text = c.args.text.now in
    c.percent_encode-else-eq.ensures.text ∙ ap (percent_encode ESCAPED) c.as_bytes.ensures.value ∙ same_escapes text
    ∙ sym (other_field text (nonempty text (sym c.is_empty.ensures ∙ c.if-is_empty.false))
    (sym c.eq.ensures ∙ c.if-eq.false))
