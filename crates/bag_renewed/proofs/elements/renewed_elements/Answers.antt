use Rattle.std.proofs.Common.{[], ap, arith, not, rules, ◌++◌, ◌∷◌, ◌∙◌}
use Rattle.std.proofs.lemmas.Fn.{filter_same}
use Rattle.std.proofs.lemmas.List.Sums.{prefix_len-le-length}
use Rattle.std.specs.List.{prefix_len}
use Rattle.bag_tags.specs.Element.{NewElement}
use Rattle.bag_renewed.proofs.Placing.{are_renewed}
use Rattle.bag_renewed.specs.Elements.{appended_to, has_label, new_ones}
use Rattle.bag_stages.specs.MetadataStage.{oxum_label}
use Rattle.bag_renewed.proofs.elements.renewed_elements.Goals as goal

pub split_off-requires : goal.split_off-requires
split_off-requires c =
    omega (
      arith,
      prefix_len-le-length (λ (e : NewElement). not (has_label oxum_label e)) c.deref-2.result.now,
      c.oxum_place-at.ensures,
      c.deref-2.ensures.len,
    )

pub returns : goal.returns
returns c =
    let keep = λ (e : NewElement). not (has_label oxum_label e) in
    let ones = new_ones c.args.changes.now c.args.old.now in
    are_renewed c.args.changes.now c.args.size c.args.old.now c.in_ok-elements.elements.items
    c.split_off.new.self.items c.in_ok-added.added.items c.append.new.self.items c.push.new.self.items
    c.in_ok-after.after.items c.retain.new.self.items c.append-2.new.self.items c.oxum_place-at.result
    c.in_ok-elements.ensures
    (c.oxum_place-at.ensures ∙ ap (prefix_len keep) c.deref-2.ensures.value)
    c.in_ok-after.ensures.items
    (c.in_ok-added.ensures
    ∙ ap (λ standing. ones ++ appended_to c.args.changes.now (standing ++ ones))
    (c.deref.ensures.value ∙ c.in_ok-elements.ensures))
    c.in_ok-append.ensures.items
    (c.in_ok-push.ensures.items
    ∙ (λ i. c.append.new.self.items ++ (c.in_ok-from_str.ensures i, c.args.size) ∷ []))
    c.in_ok-after.ensures.tail
    (filter_same _ keep _ (λ one b after call. search rules) _ _ c.retain.ensures.filtered)
    c.in_ok-append-2.ensures.items
