-- Stage 4: what is a fault of the list of files to fetch (RFC 8493, 2.2.3).
use Rattle.std.specs.Prelude.{None}
use Rattle.bag_text.specs.Bytes.{Path}
use Rattle.bag_text.specs.declared.code.Code.{Code}
use Rattle.bag_text.specs.declared.code.Code.TheVariants as code
use Rattle.bag_read.specs.Fetch.{IsFetch, IsFetchFault}
use Rattle.bag_read.specs.declared.fetch.FetchEntry.{FetchEntry}
use Rattle.bag_read.specs.ManifestName.{tag_path}
use Rattle.bag_read.specs.declared.tag_name.TagName.TheVariants.{Fetch}
use Rattle.bag_tree.specs.Bag.{Bag}
use Rattle.bag_faults.specs.declared.fault.Fault.{Fault}
use Rattle.bag_facts.specs.Facts.{rules_in}
use Rattle.bag_stages.specs.FaultFields.{At, InFile}
use Rattle.bag_stages.specs.LeftOut.{IsLeftOut}
use Rattle.bag_stages.specs.TagFiles.{lines_in}

abbrev pub fetch_txt : Path
fetch_txt = tag_path Fetch

-- a line of fetch.txt reads so
abbrev pub HasFetch : Bag → FetchEntry → Type 0
HasFetch bag e = IsFetch (rules_in bag) (lines_in bag fetch_txt) e

-- what a code says of a bag and the other fields of the fault
module _ (bag : Bag) (f : Fault) where
  -- a line of fetch.txt doesn't read, and the code's `FetchReasonHolds` is the first that does
  abbrev pub InFetch : Type 0
  InFetch = InFile bag f fetch_txt None (IsFetchFault (rules_in bag))

  unfoldable pub FetchHolds : Code → Type 0
  -- it isn't a URL, a length and a path with blanks between them
  FetchHolds code.FetchLine = InFetch
  -- its path is spelled with a bad escape
  FetchHolds code.FetchEscape = InFetch
  -- what is spelled isn't a path
  FetchHolds code.FetchUnsafePath = InFetch
  -- it isn't the path of a payload file
  FetchHolds code.FetchOutsidePayload = InFetch
  -- a line reads, and payload manifests leave out the file that is to be fetched
  FetchHolds code.FetchNotInManifest =
      (e : FetchEntry) × At f fetch_txt f.alg e.line e.path × HasFetch bag e
      × IsLeftOut (rules_in bag) bag f.alg e.path
  -- codes of other stages
  FetchHolds other = ⊥

-- the fault is one of the bag's list of files to fetch: what its code says holds
unfoldable pub IsOfFetch : Bag → Fault → Type 0
IsOfFetch bag f = FetchHolds bag f f.code
