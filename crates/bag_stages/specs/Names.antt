-- Names that are lent, and the names of the payload that the first manifests give.
use Rattle.std.specs.Prelude.{◌⊎◌, List, Contains, map}
use Rattle.std.specs.Borrow.{Bor}
use Rattle.bag_text.specs.Bytes.{Path}
use Rattle.bag_text.specs.declared.alg.Alg.{Alg}
use Rattle.bag_read.specs.declared.kind.Kind.TheVariants.{Payload}
use Rattle.bag_tree.specs.Bag.{Bag}
use Rattle.bag_stages.specs.TagFiles.{Names}
use Rattle.bag_stages.specs.CompletenessStage.{IsPayloadFile}

abbrev pub texts_of : List (Bor Path) → List Path
texts_of names = map (λ name. name.now) names

-- a file of the payload, or a path that the payload manifest of one of these algorithms names
abbrev pub IsNameOf : Bag → List Alg → Path → Type 0
IsNameOf bag algs path = IsPayloadFile bag path
    ⊎ ((alg : Alg) × Contains algs alg × Names bag Payload alg path)
