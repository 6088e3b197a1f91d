use Rattle.bag_changes.proofs.Common.{ap, ◌∙◌, file}
use Rattle.std.proofs.lemmas.Result.{IfOk-weaker}
use Rattle.bag_facts.specs.Facts.{rules_in}
use Rattle.bag_stages.specs.MetadataStage.{bag_info_txt}
use Rattle.bag_changes.proofs.InfoRead.{elements_are, none_are}
use Rattle.bag_changes.specs.NewInfo.{labels_and_values}
use Rattle.bag_changes.proofs.info.known_elements.Goals as goal

pub returns-in-Some : goal.returns-in-Some
returns-in-Some c = IfOk-weaker c.labels_and_values.result _ _
    (λ made is bag of deep.
    is ∙ ap labels_and_values c.as_slice.ensures
    ∙ elements_are (rules_in bag) (file bag bag_info_txt) c.in-Some.metadata.now (c.in-Some.ensures bag of deep))
    c.labels_and_values.ensures

pub returns-in-None : goal.returns-in-None
returns-in-None c = λ bag of deep.
    c.new.ensures.items ∙ none_are (rules_in bag) (file bag bag_info_txt) (c.in-None.ensures bag of deep)
