use Rattle.std.proofs.Common.{[], ap, arith, not, sym, ◌∙◌}
use Rattle.std.proofs.lemmas.List.{get_or_default}
use Rattle.std.proofs.lemmas.List.Sums.{prefix_len_is}
use Rattle.bag_tags.specs.Element.{NewElement}
use Rattle.bag_renewed.specs.Elements.{has_label}
use Rattle.bag_stages.specs.MetadataStage.{oxum_label}
use Rattle.bag_renewed.proofs.elements.oxum_place.Goals as goal

pub returns-then-is_oxum : goal.returns-then-is_oxum
returns-then-is_oxum c =
    let none : NewElement = ([], []) in
    sym (prefix_len_is (λ (element : NewElement). not (has_label oxum_label element)) c.args.elements.now
    c.loop-place.place none (omega arith) c.loop-place.invariant
    (λ lt. ap (λ (e : NewElement). not (has_label oxum_label e))
    (get_or_default c.args.elements.now c.loop-place.place none c.index-elements-place.result lt
    ∙ sym c.index-elements-place.is)
    ∙ ap not (sym c.is_oxum.ensures ∙ c.if-is_oxum.true)))

pub returns : goal.returns
returns c =
    let none : NewElement = ([], []) in
    omega (
      arith,
      prefix_len_is (λ (element : NewElement). not (has_label oxum_label element)) c.args.elements.now
          c.loop-place.place none (omega arith) c.loop-place.invariant (λ lt. absurd (omega arith)),
    )
