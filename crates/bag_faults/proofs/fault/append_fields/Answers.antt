use Rattle.bag_faults.proofs.Common.{◌∷◌, ◌++◌, ℕ, List, ap, ◌∙◌, string_bytes, number, word, field, alg_field}
use Rattle.bag_faults.proofs.Common.{line_field, decimal}
use Rattle.std.proofs.lemmas.Result.{on_ok_weaker, on_err_weaker}
use Rattle.bag_faults.proofs.Pieces.{six_fields, begins_before, left_behind}
use Rattle.bag_faults.proofs.fault.append_fields.Goals as goal

pub returns-clause-ok : goal.returns-clause-ok
returns-clause-ok c =
    let fault = c.args.fault.now in
    on_ok_weaker c.append_text-2.result (λ last. six_fields (string_bytes c.args.out.now)
    (string_bytes c.append_number.new.out) (string_bytes c.append_word.new.out) (string_bytes c.append_text.new.out)
    (string_bytes c.append_word-2.new.out) (string_bytes c.append_line_number.new.out)
    (string_bytes c.append_text-2.new.out)
    (decimal (number fault.code)) (word fault.code) (field fault.path) (alg_field fault.alg) (line_field fault.line)
    (field fault.detail)
    (c.in_ok-append_number.ensures.ok
    ∙ ap (λ (n : ℕ). string_bytes c.args.out.now ++ decimal n) (c.from.ensures ∙ c.number.ensures))
    (c.in_ok-append_word.ensures.ok
    ∙ ap (λ (t : List ℕ). string_bytes c.append_number.new.out ++ 32 ∷ t) c.word.ensures)
    (c.in_ok-append_text.ensures.ok
    ∙ ap (λ (t : List ℕ). string_bytes c.append_word.new.out ++ 32 ∷ field t) c.as_str.ensures)
    (c.in_ok-append_word-2.ensures.ok
    ∙ ap (λ (t : List ℕ). string_bytes c.append_text.new.out ++ 32 ∷ t) c.alg_name.ensures)
    c.in_ok-append_line_number.ensures.ok
    (last ∙ ap (λ (t : List ℕ). string_bytes c.append_line_number.new.out ++ 32 ∷ field t) c.as_str-2.ensures))
    c.append_text-2.ensures.ok

pub returns-in_err-append_word-clause-err : goal.returns-in_err-append_word-clause-err
returns-in_err-append_word-clause-err c = left_behind _ _ _ _ _ c.in_ok-append_number.ensures.ok
    c.in_err-append_word.ensures.err

pub returns-in_err-append_text-clause-err : goal.returns-in_err-append_text-clause-err
returns-in_err-append_text-clause-err c =
    left_behind _ _ _ _ _ c.in_ok-append_number.ensures.ok
    (begins_before _ _ _ _ c.in_ok-append_word.ensures.ok c.in_err-append_text.ensures.err)

pub returns-in_err-append_word-2-clause-err : goal.returns-in_err-append_word-2-clause-err
returns-in_err-append_word-2-clause-err c =
    left_behind _ _ _ _ _ c.in_ok-append_number.ensures.ok (begins_before _ _ _ _ c.in_ok-append_word.ensures.ok
    (begins_before _ _ _ _ c.in_ok-append_text.ensures.ok c.in_err-append_word-2.ensures.err))

pub returns-in_err-append_line_number-clause-err : goal.returns-in_err-append_line_number-clause-err
returns-in_err-append_line_number-clause-err c =
    left_behind _ _ _ _ _ c.in_ok-append_number.ensures.ok (begins_before _ _ _ _ c.in_ok-append_word.ensures.ok
    (begins_before _ _ _ _ c.in_ok-append_text.ensures.ok (begins_before _ _ _ _ c.in_ok-append_word-2.ensures.ok
    c.in_err-append_line_number.ensures.err)))

pub returns-clause-err : goal.returns-clause-err
returns-clause-err c =
    on_err_weaker c.append_text-2.result (λ last.
    begins_before _ _ _ _ c.in_ok-append_number.ensures.ok (begins_before _ _ _ _ c.in_ok-append_word.ensures.ok
    (begins_before _ _ _ _ c.in_ok-append_text.ensures.ok (begins_before _ _ _ _ c.in_ok-append_word-2.ensures.ok
    (begins_before _ _ _ _ c.in_ok-append_line_number.ensures.ok last))))) c.append_text-2.ensures.err
