use Rattle.bag_text.proofs.Common.{◌≡◌, ◌+◌, sym, ◌∙◌, ap, arith, Some, position, subst, take, drop, is_line_end}
use Rattle.bag_text.proofs.Common.{end_len, common_steps, IsCharBoundary}
use Rattle.bag_text.proofs.FirstLine.{found, cut_before_end, cut_after_end, lines_from_end, one_line}
use Rattle.bag_text.proofs.line_cut.split_line.Goals as goal
use Rattle.bag_text.proofs.line_cut.split_line.Goals.{In-Some, After-after_end}

place : (c : In-Some) → position is_line_end c.args.text.now ≡ Some c.in-Some.end
place c = rw c.as_bytes-bytes.ensures.value at (sym c.line_end.ensures.found ∙ c.in-Some.is)

after : (c : After-after_end) → c.after_end.result ≡ c.in-Some.end + end_len c.args.text.now c.in-Some.end
after c = rw c.as_bytes-bytes.ensures.value at c.after_end.ensures.value

pub range-requires-clause-end_boundary : goal.range-requires-clause-end_boundary
range-requires-clause-end_boundary c = let at = found _ _ (place c) in cut_before_end _ _ at.0 at.1

pub range_from-requires : goal.range_from-requires
range_from-requires c _ =
    let at = found _ _ (place (goal.at.range_from-requires c).In-Some) in
    subst (IsCharBoundary c.args.text.now) (sym (after c)) (cut_after_end _ _ c.utf8.text at.0 at.1)

pub returns-in-None-clause-first : goal.returns-in-None-clause-first
returns-in-None-clause-first c = one_line _ c.requires (λ k h.
    rw c.as_bytes-bytes.ensures.value at c.in-None.ensures.none k 0 h)

pub returns-in-Some-clause-first : goal.returns-in-Some-clause-first
returns-in-Some-clause-first c =
    let here = goal.at.returns-in-Some-clause-first c in
    let at = found _ _ (place here.In-Some) in
    let front : c.range.result.now ≡ take c.in-Some.end c.args.text.now =
    grind (arith, common_steps, c.range.ensures.value) in
    let back : c.range_from.result.now ≡ drop (c.in-Some.end + end_len c.args.text.now c.in-Some.end) c.args.text.now =
    c.range_from.ensures.value ∙ ap (λ n. drop n c.args.text.now) (after here.After-after_end) in
    rw (front, back) (lines_from_end _ _ at.0 at.1 at.2)
