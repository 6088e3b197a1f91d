use Rattle.bag_make.proofs.Common.{◌≡◌, ◌++◌, ◌∷◌, ◌∙◌, [], List, ap, oxum_label, oxum_text, NewElement, info_text}
use Rattle.bag_make.proofs.Common.{size_of}
use Rattle.bag_make.proofs.texts.info_file.Goals as goal

pub returns-in-Ok : goal.returns-in-Ok
returns-in-Ok c =
    let given : List NewElement = c.args.info.now in
    let last : NewElement = (oxum_label, oxum_text (size_of c.args.listed.now)) in
    let elements : c.deref.result.now ≡ given ++ last ∷ [] =
    c.deref.ensures.value ∙ c.in_ok-push.ensures.items
    ∙ (λ i. c.in_ok-elements.ensures i ++ (c.in_ok-from_str.ensures i, c.in_ok-oxum.ensures i) ∷ []) in
    let bytes = c.from_vec.ensures ∙ c.in-Ok.ensures.text ∙ ap info_text elements in
    let path = c.in_ok-path.ensures in
    λ i. (path i, bytes i)
