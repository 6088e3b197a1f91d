use Rattle.bag_arguments.proofs.Common.{◌∙◌, ◌++◌, List, Option, ap₂, sym, arith, found_of, rows_of, element}
use Rattle.bag_arguments.proofs.Common.{Text, option_to_list}
use Rattle.bag_arguments.specs.declared.label.Label.TheVariants.{SourceOrganization}
use Rattle.bag_arguments.proofs.Reading.{filter_map_more}
use Rattle.bag_arguments.proofs.given.info.Goals as goal

pub loop-label-preserved : goal.loop-label-preserved
loop-label-preserved c =
    c.in_ok-push_some.ensures
    ∙ ap₂ (λ (xs : List (Text × Text)) (o : Option (Text × Text)). xs ++ option_to_list o)
    c.loop-label.invariant c.in_ok-element.ensures
    ∙ sym (filter_map_more (element (rows_of (found_of c.args.matches.now))) c.args.labels.now c.loop-label.label-index
    SourceOrganization (omega arith))
