-- The files to fetch that payload manifests leave out: one manifest at a time, and all at once.
use Rattle.std.specs.Prelude.{◌≡◌, ◌⊎◌, List, Option, None, Some, Contains}
use Rattle.std.specs.List.Sorted.{IsStrictlySortedBy}
use Rattle.std.specs.Ordering.{nat_cmp, on}
use Rattle.bag_text.specs.Bytes.{Path}
use Rattle.bag_text.specs.Order.{IsListOf}
use Rattle.bag_text.specs.declared.alg.Alg.{Alg}
use Rattle.bag_text.specs.declared.code.Code.TheVariants.{FetchNotInManifest}
use Rattle.bag_read.specs.declared.fetch.FetchEntry.{FetchEntry}
use Rattle.bag_entries.specs.declared.entry.ManifestEntry.{ManifestEntry}
use Rattle.bag_tree.specs.Bag.{Bag}
use Rattle.bag_faults.specs.FaultAt.{of_line}
use Rattle.bag_faults.specs.declared.fault.Fault.{Fault}
use Rattle.bag_facts.specs.Facts.{IsByV10}
use Rattle.bag_facts.specs.FactsOfBag.{IsByV097}
use Rattle.bag_facts.specs.TagFacts.{entry_paths}
use Rattle.bag_stages.specs.FaultFields.{At}
use Rattle.bag_stages.specs.FetchStage.{fetch_txt, HasFetch}
use Rattle.bag_stages.specs.LeftOut.{IsNamedBySome, IsLeftOutByOne, IsLeftOutByAll}

-- files to fetch in the order of their lines
abbrev pub AreByLine : List FetchEntry → Type 0
AreByLine entries = IsStrictlySortedBy (on (λ e. e.line) nat_cmp) entries

-- the bag's files to fetch, in this order
abbrev pub AreFetched : Bag → List FetchEntry → Type 0
AreFetched bag entries = IsListOf (on (λ e. e.line) nat_cmp) (HasFetch bag) entries

-- the fault that payload manifests leave a file to fetch out; with an algorithm, its manifest does
abbrev pub not_in_manifest : Path → Option Alg → FetchEntry → Fault
not_in_manifest path alg e = of_line FetchNotInManifest path alg e.line e.path

-- that fault of a file that is at the path of none of the manifest's entries
abbrev pub IsNotNamed : Path → Alg → List ManifestEntry → FetchEntry → Fault → Type 0
IsNotNamed path alg named e f =
    (f ≡ not_in_manifest path (Some alg) e) × ¬ (Contains (entry_paths named) e.path)

-- that fault of a file among these
abbrev pub IsNotNamedAmong : Path → Alg → List ManifestEntry → List FetchEntry → Fault → Type 0
IsNotNamedAmong path alg named entries f =
    (e : FetchEntry) × Contains entries e × IsNotNamed path alg named e f

-- the payload manifest of an algorithm doesn't name a file to fetch
abbrev pub IsFetchLeftOutByOne : Bag → Alg → Fault → Type 0
IsFetchLeftOutByOne bag alg f =
    (f.code ≡ FetchNotInManifest)
    × ((e : FetchEntry) × At f fetch_txt (Some alg) e.line e.path × HasFetch bag e
    × IsLeftOutByOne bag alg e.path)

-- the payload manifest of some algorithm doesn't name it
abbrev pub IsFetchLeftOutBySome : Bag → Fault → Type 0
IsFetchLeftOutBySome bag f = (alg : Alg) × IsFetchLeftOutByOne bag alg f

-- that fault of a file that no payload manifest names
abbrev pub IsNamedByNone : Bag → Path → FetchEntry → Fault → Type 0
IsNamedByNone bag path e f = (f ≡ not_in_manifest path None e) × ¬ (IsNamedBySome bag e.path)

-- that fault of a file among these
abbrev pub IsNamedByNoneAmong : Bag → Path → List FetchEntry → Fault → Type 0
IsNamedByNoneAmong bag path entries f =
    (e : FetchEntry) × Contains entries e × IsNamedByNone bag path e f

-- all payload manifests, of which there is one, leave a file to fetch out
abbrev pub IsFetchLeftOutByAll : Bag → Fault → Type 0
IsFetchLeftOutByAll bag f =
    (f.code ≡ FetchNotInManifest)
    × ((e : FetchEntry) × At f fetch_txt None e.line e.path × HasFetch bag e
    × IsLeftOutByAll bag e.path)

-- payload manifests leave a file to fetch out, by the bag's rules
abbrev pub IsFetchLeftOut : Bag → Fault → Type 0
IsFetchLeftOut bag f = (IsByV10 bag × IsFetchLeftOutBySome bag f)
    ⊎ (IsByV097 bag × IsFetchLeftOutByAll bag f)
