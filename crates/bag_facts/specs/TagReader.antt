-- Reading the tag files of a listing.
use Rattle.std.specs.Prelude.{◌≡◌, ◌⊎◌, ◌++◌, ◌∷◌, ◌<◌, ℕ, List, [], length, All, Contains, Option}
use Rattle.std.specs.Prelude.{None, Some, IsTrue, IsUtf8}
use Rattle.std.specs.Option.{option_map}
use Rattle.bag_text.specs.Bytes.{Content, Path}
use Rattle.bag_read.specs.ManifestName.{tag_path}
use Rattle.bag_tree.specs.Bag as bag
use Rattle.bag_tree.specs.Tree.{MayReportMemory, TreeState, CameFromFile}
use Rattle.bag_tree.specs.Listing.{size_at}
use Rattle.bag_tree.specs.declared.listing.FileEntry.{FileEntry}
use Rattle.bag_tree.specs.declared.tree_fault.Stop.{Stop}
use Rattle.bag_tree.specs.declared.tree_fault.TreeFault.TheVariants.{Memory}
use Rattle.bag_tree.specs.Stop.{IsOutOfMemory}
use Rattle.bag_facts.specs.Stops.{MayRefuseFacts, IsOfListing, ReportsAnswer}
use Rattle.bag_facts.specs.Wanted.{IsRefusedFile, IsWanted, AreWanted}
use Rattle.bag_faults.specs.Options.{Wants}
use Rattle.bag_faults.specs.declared.options.Options.{Options}
use Rattle.bag_facts.specs.declared.tag_reader.TagBytes.{TagBytes}

-- where the file stands
abbrev pub read_path : TagBytes → Path
read_path read = tag_path read.name

-- what was given of it: where it stands, and its bytes
abbrev pub given_of : TagBytes → Path × Content
given_of read = (read_path read, read.bytes.items)

-- these are the files of the bag, with their lengths
abbrev pub AreFilesOfBag : bag.Bag → List FileEntry → Type 0
AreFilesOfBag of files = (path : List ℕ) → size_at files path ≡ option_map length (bag.file of path)

-- the paths of listed files are texts
abbrev pub PathsAreTexts : List FileEntry → Type 0
PathsAreTexts files = (entry : FileEntry) → Contains files entry → IsUtf8 entry.path

-- numbers below 256
abbrev pub AreBytes : List ℕ → Type 0
AreBytes bytes = All (λ b. b < 256) bytes

-- the file was read whole: it has as many bytes as were listed, and those of an honest tree's bag
pub record IsWhole (files : List FileEntry) (old : TreeState) (read : TagBytes) : Type 0 where
  pub are_bytes : AreBytes read.bytes.items
  pub size : size_at files (read_path read) ≡ Some (length read.bytes.items)
  pub bytes : IsTrue old.honest → bag.file old.bag (read_path read) ≡ Some read.bytes.items

-- a wanted file was opened, and read whole
pub record ReadsFile (options : Options) (entry : FileEntry) (old new : TreeState)
    (read : TagBytes) : Type 0 where
  pub at : read_path read ≡ entry.path
  pub wanted : Wants options read.name
  pub opened : new.openings ≡ old.openings ++ entry.path ∷ []
  pub gave : new.gave ≡ old.gave ++ (entry.path, read.bytes.items) ∷ []
  pub are_bytes : AreBytes read.bytes.items
  pub size : length read.bytes.items ≡ entry.size
  pub bytes : IsTrue old.honest → bag.file old.bag entry.path ≡ Some read.bytes.items

-- a listed file was read where it is wanted, and passed over where it isn't
abbrev pub ReadsWanted : Options → FileEntry → TreeState → TreeState → Option TagBytes → Type 0
ReadsWanted options entry old new None =
    ¬ (IsWanted options entry.path) × (new.openings ≡ old.openings) × (new.gave ≡ old.gave)
ReadsWanted options entry old new (Some read) = ReadsFile options entry old new read

-- reading files stopped: at one that is wanted, or when out of memory
pub record StopsReading (options : Options) (old new : TreeState) (stop : Stop) : Type 0 where
  pub cause : MayRefuseFacts old new stop.cause
  pub answered : CameFromFile new stop.cause
  pub path : IsOutOfMemory stop ⊎ IsRefusedFile options old stop
  pub memory : stop.cause ≡ Memory → stop.path ≡ []
  pub out_of_memory : stop.cause ≡ Memory → MayReportMemory old new

-- the first of the wanted tag files among these files were opened, each once and in path order, and
-- no other file
abbrev pub OpensFirst : Options → List FileEntry → TreeState → TreeState → Type 0
OpensFirst options files old new =
    (paths : List (List ℕ)) × (more : List (List ℕ)) × AreWanted options files (paths ++ more)
    × (new.openings ≡ old.openings ++ paths)

-- each wanted tag file among these files was opened once, in path order, and no other file
abbrev pub OpensAll : Options → List FileEntry → TreeState → TreeState → Type 0
OpensAll options files old new =
    (paths : List (List ℕ)) × AreWanted options files paths × (new.openings ≡ old.openings ++ paths)

-- A stop names the cause, which is the tree's own answer but for out of memory, and the file that
-- was refused. It names none when out of memory, and where it was the listing that was refused. Out
-- of memory is reported only where the tree reported it or refused nothing.
pub record MayStopReading (options : Options) (old new : TreeState) (stop : Stop) : Type 0 where
  pub cause : MayRefuseFacts old new stop.cause
  pub answered : ReportsAnswer new stop
  pub path : IsOutOfMemory stop ⊎ IsOfListing old new stop ⊎ IsRefusedFile options old stop
  pub memory : stop.cause ≡ Memory → stop.path ≡ []
  pub out_of_memory : stop.cause ≡ Memory → MayReportMemory old new
