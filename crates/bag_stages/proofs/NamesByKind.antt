-- Payload manifests name payload files, and tag manifests other files.
use Rattle.bag_stages.proofs.Common.{arith, ◌≡◌, ℕ, List, subst, Alg, IsEntry, Kind, ManifestEntry, named_has_entry}
use Rattle.bag_stages.proofs.Common.{lines_read, Bag, rules_in, lines_in, manifest_of, kind_of, NamesByKind}
use Rattle.bag_read.specs.ManifestLine.{MayName}

kind_of_named : (kind : Kind) (path : List ℕ) → MayName kind path → kind ≡ kind_of path
kind_of_named kind path h = grind arith

pub entry_kind : (bag : Bag) (kind : Kind) (alg : Alg) (all : List (List ℕ)) (e : ManifestEntry)
    → IsEntry (rules_in bag) kind alg all e → kind ≡ kind_of e.path
entry_kind bag kind alg all e (line, at, reads, first) =
    kind_of_named kind e.path ((lines_read (rules_in bag) kind alg line e.digest e.path).0 reads).may_name

pub names_by_kind : NamesByKind
names_by_kind bag kind alg path named =
    let e = named_has_entry (rules_in bag) kind alg (lines_in bag (manifest_of kind alg)) path named in
    subst (λ p. kind ≡ kind_of p) e.2 (entry_kind bag kind alg (lines_in bag (manifest_of kind alg)) e.0 e.1)
