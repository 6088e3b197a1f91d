use Rattle.bag_changes.proofs.Common.{◌≡◌, ◌∙◌, ap, sym, subst, last_files, new_algs}
use Rattle.std.proofs.Common.{filter}
use Rattle.bag_changes.specs.Composing.{keeps_bytes, kept_names, of_path, is_tag_path}
use Rattle.bag_changes.specs.Planned.{first_from, kept_from}
use Rattle.bag_checked.specs.Summed.{AreSummedBy}
use Rattle.bag_changes.proofs.ComposedChanges.{first_is, kept_summed, named_summed}
use Rattle.bag_changes.proofs.composing.compose.Goals as goal

pub returns-clause-composed : goal.returns-clause-composed
returns-clause-composed c = λ bag renewal aim files are.
    let info = c.args.info in
    let target = c.args.target.now in
    let names : c.deref.result.now ≡ kept_names bag renewal = c.deref.ensures.value ∙ c.in_ok-kept.ensures bag renewal aim
    in
    let tags = c.in_ok-payload.ensures.tags
    ∙ ap (λ some. filter (of_path (keeps_bytes some)) (filter (of_path is_tag_path) c.args.summed.items)) names in
    let first : c.in_ok-first.first.items ≡ first_from bag renewal files info =
    first_is bag renewal files info c.args.summed.items c.deref-2.result.now c.in_ok-first.first.items target.rules
    target.written are (c.deref-2.ensures.value ∙ c.in_ok-payload.ensures.payload) aim.rules aim.written
    c.in_ok-first.ensures.texts in
    let last : c.in_ok-last.last.items ≡ last_files bag renewal = c.in_ok-last.ensures.texts bag renewal aim in
    record {
      first = first;
      last = last;
      named = named_summed bag renewal files info target.algs c.in_ok-payload.tags.items
          c.in_ok-named.named.items c.deref-3.result.now c.deref-4.result.now aim.algs
          (c.deref-3.ensures.value ∙ first) (c.deref-4.ensures.value ∙ last)
          (subst (AreSummedBy (new_algs bag renewal) (kept_from bag renewal files info)) (sym tags)
          (kept_summed bag renewal files info c.args.summed.items are))
          c.in_ok-named.ensures;
    }
