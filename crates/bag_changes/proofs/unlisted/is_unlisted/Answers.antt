use Rattle.bag_changes.proofs.Common.{◌∙◌, ◌&&◌, ap, not, sym, is_payload_path}
use Rattle.bag_changes.specs.Obstacles.{is_named_by_kept, is_unlisted}
use Rattle.bag_changes.proofs.unlisted.is_unlisted.Goals as goal

pub returns-then-is_payload : goal.returns-then-is_payload
unfolding is_unlisted
returns-then-is_payload c = λ bag of deep renewal aim.
    ap not (c.is_named_by_kept.ensures bag of deep renewal aim)
    ∙ ap (λ b. b && not (is_named_by_kept bag renewal c.args.path.now))
    (sym c.if-is_payload.true ∙ c.is_payload.ensures ∙ ap is_payload_path c.as_str.ensures)
