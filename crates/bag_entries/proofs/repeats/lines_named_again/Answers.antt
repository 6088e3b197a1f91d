use Rattle.bag_entries.proofs.Common.{Bool, List, Some, ap, arith, bytes_eq, cond, false, refl, sym, true, ℕ, ◌∙◌, ◌≡◌}
use Rattle.bag_entries.proofs.Common.{not-false, not-true, slice_get-get_or, contains, contains_by, slice_get, nat_cmp}
use Rattle.bag_entries.proofs.Common.{text_cmp, NamesBelow}
use Rattle.std.proofs.lemmas.Map.Text.{is_eq-slice_cmp}
use Rattle.bag_entries.proofs.RepeatedLines.{clash}
use Rattle.bag_entries.proofs.RepeatedLines.{path_more, line_more, line_same, none_below, no_repeats_below, all_below}
use Rattle.bag_entries.proofs.repeats.lines_named_again.Goals as goal
use Rattle.bag_entries.proofs.repeats.lines_named_again.Goals.{then-not-branch+in_ok-insert-2, else-not-branch}

pub loop-entry-init : goal.loop-entry-init
loop-entry-init c = record {
  paths = λ path. none_below c.args.entries.now path _ (rw c.new-paths.ensures.empty refl);
  lines = λ n. no_repeats_below c.args.entries.now n _ (rw c.new-lines.ensures.empty refl);
}

pub loop-entry-preserved : goal.loop-entry-preserved
loop-entry-preserved c =
    let entries = c.args.entries.now in
    let k = c.loop-entry.entry-index in
    let e = c.entry-item.result in
    let at : slice_get entries k ≡ Some e =
    slice_get-get_or entries k _ c.loop-entry-test.true ∙ ap Some (sym c.entry-item.is) in
    let before : List ℕ → Bool = λ path. contains_by (λ q. text_cmp path q.now) c.loop-entry.paths in
    let after : List ℕ → Bool = λ path. contains_by (λ q. text_cmp path q.now) c.insert.new.self in
    let step : (path : List ℕ) → after path ≡ cond (bytes_eq e.path path) true (before path) = λ path.
    rw c.as_str.ensures at
    (c.in_ok-insert.ensures.updates.0 (record { ref_ptr = (0, 0); now = path })
    ∙ ap (λ b. cond b true (before path)) (is_eq-slice_cmp c.as_str.result.now path)) in
    record {
      paths = path_more entries k e at before after step c.loop-entry.invariant.paths;
      lines = elim c.if-not-branch.branch [
        | then-not-branch+in_ok-insert-2 w ↦ (
            let there : before c.as_str.result.now ≡ true =
            not-false _ (sym c.in_ok-insert.ensures.added ∙ w.if-not-branch.true) in
            let names = (c.loop-entry.invariant.paths e.path).0 (rw c.as_str.ensures at there) in
            line_more entries k e at names (contains nat_cmp c.loop-entry.lines)
            (contains nat_cmp c.if-not-branch.lines) (λ n. rw w.lines-is (w.in_ok-insert-2.ensures.updates.0 n))
            c.loop-entry.invariant.lines)
        | else-not-branch w ↦ (
            let none : before c.as_str.result.now ≡ false =
            not-true _ (sym c.in_ok-insert.ensures.added ∙ w.if-not-branch.false) in
            let first : ¬ (NamesBelow entries k e.path) = λ h.
            clash (before e.path) ((c.loop-entry.invariant.paths e.path).1 h) (rw c.as_str.ensures at none) in
            rw w.lines-is (line_same entries k e at first (contains nat_cmp c.loop-entry.lines)
            c.loop-entry.invariant.lines))
      ];
    }

pub returns : goal.returns
returns c =
    all_below c.args.entries.now c.loop-entry.entry-index (contains nat_cmp c.loop-entry.lines) (omega arith)
    c.loop-entry.invariant.lines
