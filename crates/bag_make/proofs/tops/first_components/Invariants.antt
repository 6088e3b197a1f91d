use Rattle.bag_make.proofs.Common.{◌≡◌, map, take, lent_texts}
use Rattle.bag_text.specs.Path as spec
use Rattle.bag_make.proofs.tops.first_components.Given as goal

abbrev pub invariant-loop-entry : goal.invariant-loop-entry
invariant-loop-entry l = lent_texts l.names.items
    ≡ map (λ entry. spec.first_component entry.path) (take l.entry-index l.files)
