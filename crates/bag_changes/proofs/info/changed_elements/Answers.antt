use Rattle.bag_changes.proofs.Common.{◌≡◌, ap, ◌∙◌}
use Rattle.std.proofs.lemmas.Result.{IfOk-weaker}
use Rattle.bag_stages.proofs.ListedSize.{listed_size}
use Rattle.bag_read.specs.Oxum.{oxum_text}
use Rattle.bag_stages.specs.Payload.{oxum}
use Rattle.bag_stages.specs.PayloadSize.{listed_oxum}
use Rattle.bag_renewed.specs.Elements.{renewed_elements}
use Rattle.bag_changes.proofs.info.changed_elements.Goals as goal

pub returns : goal.returns
returns c = IfOk-weaker c.renewed_elements.result _ _
    (λ made is bag of.
    let size : c.in_ok-size.size ≡ oxum_text (oxum bag) =
    c.in_ok-size.ensures
    ∙ ap oxum_text (ap listed_oxum c.files.ensures ∙ listed_size bag c.args.facts.now.listing of.ordered of.listing) in
    is ∙ ap (λ some. renewed_elements c.args.renewal.now.elements some c.args.old.now) size)
    c.renewed_elements.ensures
