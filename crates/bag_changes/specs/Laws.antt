-- Laws about renewals.
use Rattle.std.specs.Prelude.{ℕ, ◌≡◌, List}
use Rattle.bag_text.specs.Bytes.{Name, Path}
use Rattle.bag_text.specs.Alg.{name}
use Rattle.bag_text.specs.Path.{under}
use Rattle.bag_text.specs.declared.alg.Alg.{Alg}
use Rattle.bag_read.specs.declared.kind.Kind.{Kind}
use Rattle.bag_tree.specs.Bag.{Bag, IsBag, file}
use Rattle.bag_tree.specs.FileChanges.{CanChangeAll, after_changes}
use Rattle.bag_stages.specs.Payload.{payload}
use Rattle.bag_stages.specs.TagFiles.{HasManifest}
use Rattle.bag_changes.specs.Changes.{after, changes}
use Rattle.bag_renewed.specs.Renewed.{begun_file, renewed}
use Rattle.bag_changes.specs.Reserved.{IsOutOfTheWay}
use Rattle.bag_renewed.specs.declared.renewal.Renewal.{Renewal}

-- its manifests are of supported algorithms alone, as those of a bag without a fault are
abbrev pub HasKnownManifests : Bag → Type 0
HasKnownManifests bag =
    (kind : Kind) (alg : List ℕ) → HasManifest bag kind alg → (a : Alg) × (alg ≡ name a)

-- the law: after any number of changes each file below a folder is as it was
abbrev pub ChangesKeepPayload : Type 0
ChangesKeepPayload =
    (bag : Bag) (renewal : Renewal) (k : ℕ) (folder : Name) (rest : Path) → IsBag bag
    → IsOutOfTheWay bag
    → file (after bag renewal k) (under folder rest) ≡ file bag (under folder rest)

-- the law: all changes together make the renewed bag
abbrev pub ChangesRenew : Type 0
ChangesRenew =
    (bag : Bag) (renewal : Renewal) → IsBag bag → HasKnownManifests bag → IsOutOfTheWay bag
    → after_changes (changes bag renewal) bag ≡ renewed bag renewal

-- the law: each change can be made after those before it
abbrev pub ChangesCanBeMade : Type 0
ChangesCanBeMade =
    (bag : Bag) (renewal : Renewal) → IsBag bag → IsOutOfTheWay bag
    → CanChangeAll begun_file (changes bag renewal) bag

-- the law: each bag on the way has the payload of the first
abbrev pub ChangesKeepPayloadList : Type 0
ChangesKeepPayloadList =
    (bag : Bag) (renewal : Renewal) (k : ℕ) → IsBag bag → IsOutOfTheWay bag
    → payload (after bag renewal k) ≡ payload bag
