-- Paths that payload manifests leave out, by the rules of a version (RFC 8493, 3).
use Rattle.std.specs.Prelude.{Option, None, Some}
use Rattle.bag_text.specs.Bytes.{Path}
use Rattle.bag_text.specs.declared.rules.Rules.{Rules}
use Rattle.bag_text.specs.declared.rules.Rules.TheVariants.{V10, V097}
use Rattle.bag_text.specs.declared.alg.Alg.{Alg}
use Rattle.bag_read.specs.declared.kind.Kind.TheVariants.{Payload}
use Rattle.bag_tree.specs.Bag.{Bag}
use Rattle.bag_stages.specs.TagFiles.{HasSupported, Names}

-- some payload manifest names the path
abbrev pub IsNamedBySome : Bag → Path → Type 0
IsNamedBySome bag path = (alg : Alg) × Names bag Payload alg path

-- the payload manifest of an algorithm is there, and doesn't name the path
abbrev pub IsLeftOutByOne : Bag → Alg → Path → Type 0
IsLeftOutByOne bag alg path = HasSupported bag Payload alg × ¬ (Names bag Payload alg path)

-- there are payload manifests of supported algorithms, and none of them names the path
abbrev pub IsLeftOutByAll : Bag → Path → Type 0
IsLeftOutByAll bag path = ((alg : Alg) × HasSupported bag Payload alg) × ¬ (IsNamedBySome bag path)

-- The payload manifests leave the path out: by the rules of 1.0 the one of an algorithm does, and
-- by those of 0.97 all do, and no algorithm is given.
abbrev pub IsLeftOut : Rules → Bag → Option Alg → Path → Type 0
IsLeftOut V10 bag (Some alg) path = IsLeftOutByOne bag alg path
IsLeftOut V10 bag None path = ⊥
IsLeftOut V097 bag (Some alg) path = ⊥
IsLeftOut V097 bag None path = IsLeftOutByAll bag path
