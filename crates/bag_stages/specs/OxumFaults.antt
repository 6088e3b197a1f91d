-- The faults of the elements of the label Payload-Oxum (RFC 8493, 2.2.2), of the payload's size.
use Rattle.std.specs.Prelude.{ℕ, ◌==◌, ◌&&◌, Bool, List, [], ◌∷◌, ◌++◌, Option, None, Some, map}
use Rattle.std.specs.Prelude.{filter, if◌then◌else◌}
use Rattle.bag_text.specs.Bytes.{Path}
use Rattle.bag_text.specs.Text.{same_label}
use Rattle.bag_text.specs.declared.code.Code.{Code}
use Rattle.bag_text.specs.declared.code.Code.TheVariants.{OxumMalformed, OxumAgain, OxumDiffers}
use Rattle.bag_text.specs.declared.code.Code.TheVariants.{NoOxum}
use Rattle.bag_read.specs.Oxum.{oxum_of, oxum_text}
use Rattle.bag_read.specs.declared.info.Element.{Element}
use Rattle.bag_read.specs.declared.oxum.Oxum.{Oxum}
use Rattle.bag_faults.specs.FaultAt.{of_line, of_path}
use Rattle.bag_faults.specs.declared.fault.Fault.{Fault}
use Rattle.bag_stages.specs.MetadataStage.{oxum_label, pair}

abbrev pub is_oxum : Element → Bool
is_oxum e = same_label e.label oxum_label

-- the elements of the label, in their order
abbrev pub oxums : List Element → List Element
oxums elements = filter is_oxum elements

abbrev pub same_oxum : Oxum → Oxum → Bool
same_oxum a b = a.octets == b.octets && a.streams == b.streams

module _ (path : Path) where
  -- a fault of an element
  abbrev pub of_element : Code → Element → List ℕ → Fault
  of_element code e detail = of_line code path None e.line detail

  abbrev pub again : Element → Fault
  again e = of_element OxumAgain e e.value

  -- that there is no such element
  abbrev pub no_oxum : Fault
  no_oxum = of_path NoOxum path None []

  module _ (found : Oxum) where
    abbrev pub differs : Element → Fault
    differs e = of_element OxumDiffers e (pair e.value (oxum_text found))

    abbrev pub reported_faults : Element → Option Oxum → List Fault
    reported_faults e None = of_element OxumMalformed e e.value ∷ []
    reported_faults e (Some given) = if same_oxum given found then [] else differs e ∷ []

    -- the first one doesn't read, or gives another size
    abbrev pub first_faults : Element → List Fault
    first_faults e = reported_faults e (oxum_of e.value)

    -- the faults of all of them
    abbrev pub oxum_faults : List Element → List Fault
    oxum_faults [] = no_oxum ∷ []
    oxum_faults (first ∷ later) = first_faults first ++ map again later
