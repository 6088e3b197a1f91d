use Rattle.bag_changes.proofs.Common.{◌∙◌, ◌||◌, ap, sym}
use Rattle.bag_renewed.specs.Renewed.{is_v10, writes_payload_manifest}
use Rattle.bag_renewed.specs.Target.{has_some}
use Rattle.bag_renewed.proofs.AlgsMade.{writes_some}
use Rattle.bag_changes.proofs.unlisted.names_all.Goals as goal

pub returns-in-V097 : goal.returns-in-V097
returns-in-V097 c = λ bag of deep renewal aim.
    c.has_some.ensures ∙ ap has_some aim.written ∙ writes_some bag renewal
    ∙ ap (λ rules. is_v10 rules || writes_payload_manifest bag renewal) (sym c.in-V097.is ∙ c.rules.ensures bag of)
