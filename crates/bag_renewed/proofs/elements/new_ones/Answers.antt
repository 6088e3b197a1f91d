use Rattle.std.proofs.Common.{[], ap, not, rules, ◌∙◌}
use Rattle.std.proofs.lemmas.Fn.{filter_same}
use Rattle.std.specs.Prelude.{filter}
use Rattle.bag_tags.specs.Element.{NewElement}
use Rattle.bag_renewed.specs.Elements.{replaced, some_has}
use Rattle.bag_renewed.proofs.elements.new_ones.Goals as goal

pub returns : goal.returns
returns c =
    let is_new = λ (one : NewElement). not (some_has c.args.old.now one.0) in
    filter_same _ is_new _ (λ one b after call. search rules) c.in_ok-ones.ones.items c.retain.new.self.items
    c.retain.ensures.filtered
    ∙ ap (filter is_new) (c.in_ok-ones.ensures ∙ ap (replaced c.args.changes.now []) c.as_slice.ensures)
