use Rattle.bag_make.proofs.Common.{◌≡◌, ◌++◌, ◌∷◌, ◌∙◌, [], arith, ap, map, sym, in_order, lent_texts}
use Rattle.std.proofs.lemmas.Grind.{common_steps}
use Rattle.std.proofs.lemmas.Result.{IfOk-weaker}
use Rattle.std.specs.Prelude.{if◌then◌else◌}
use Rattle.bag_make.proofs.TopsInOrder.{only_in_order}
use Rattle.bag_make.specs.Made.{data_folder}
use Rattle.bag_make.proofs.tops.tops.Goals.{then-listing+in_ok-push, else-listing}
use Rattle.bag_text.specs.Path as spec
use Rattle.bag_make.proofs.tops.tops.Goals as goal

pub returns : goal.returns
returns c =
    let listing = c.args.listing.now in
    let names : lent_texts c.if-listing.names.items
    ≡ map (λ entry. spec.first_component entry.path) listing.files
    ++ (if listing.has_data then data_folder ∷ [] else []) =
    elim c.if-listing.branch
    [ then-listing+in_ok-push w ↦ grind (arith, common_steps) | else-listing w ↦ grind (arith, common_steps) ] in
    IfOk-weaker c.in_order.result _ _ (λ sorted is. sym (only_in_order _ _ is) ∙ ap in_order names) c.in_order.ensures
