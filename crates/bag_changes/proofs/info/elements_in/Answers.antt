use Rattle.bag_changes.proofs.Common.{ap, ◌∙◌}
use Rattle.std.proofs.lemmas.Result.{IfOk-weaker}
use Rattle.bag_changes.proofs.InfoRead.{elements_read}
use Rattle.bag_changes.specs.NewInfo.{labels_and_values}
use Rattle.bag_changes.proofs.info.elements_in.Goals as goal

pub returns : goal.returns
returns c = IfOk-weaker c.labels_and_values.result _ _
    (λ made is.
    is ∙ ap labels_and_values c.as_slice.ensures
    ∙ elements_read c.args.rules c.args.bytes.now c.in_ok-read.read.items c.in_ok-read.ensures.items)
    c.labels_and_values.ensures
