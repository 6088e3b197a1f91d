-- The files whose digests are compared (RFC 8493, 2.1.3, 2.2.1 and 3).
use Rattle.bag_text.specs.Bytes.{Path}
use Rattle.bag_text.specs.declared.alg.Alg.{Alg}
use Rattle.bag_read.specs.declared.kind.Kind.{Kind}
use Rattle.bag_tree.specs.Bag.{Bag, HasFile}
use Rattle.bag_stages.specs.TagFiles.{Names}

-- a manifest of a supported algorithm names the path
abbrev pub IsNamed : Bag → Path → Type 0
IsNamed bag path = (kind : Kind) × (alg : Alg) × Names bag kind alg path

-- a file that is there and that a manifest names: its digests are compared
abbrev pub IsSummed : Bag → Path → Type 0
IsSummed bag path = HasFile bag path × IsNamed bag path
