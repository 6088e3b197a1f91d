-- What no bag can be made with.
use Rattle.std.specs.Prelude.{◌≡◌, ◌≢◌, true, List, [], Bool, ◌||◌}
use Rattle.std.specs.List.{list_any}
use Rattle.bag_text.specs.Text.{same_label}
use Rattle.bag_text.specs.declared.alg.Alg.{Alg}
use Rattle.bag_tags.specs.Element.{NewElement, is_bad_element}
use Rattle.bag_make.specs.declared.fault.MakeFault.{MakeFault}
use Rattle.bag_make.specs.declared.fault.MakeFault.TheVariants.{NoAlgorithm, BadValue}
use Rattle.bag_stages.specs.MetadataStage.{oxum_label}

-- an element that can't be given: one that can't be written, or Payload-Oxum, whatever its case
abbrev pub is_refused : NewElement → Bool
is_refused element = is_bad_element element || same_label element.0 oxum_label

-- There is no algorithm; or there is one, and an element that can't be given.
abbrev pub IsRequestFault : List Alg → List NewElement → MakeFault → Type 0
IsRequestFault algs info NoAlgorithm = algs ≡ []
IsRequestFault algs info BadValue = (algs ≢ []) × (list_any is_refused info ≡ true)
IsRequestFault algs info fault = ⊥
