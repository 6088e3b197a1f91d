-- Files of a bag that were checked, with the digests that manifests are to give.
use Rattle.std.specs.Prelude.{◌≡◌, ◌≢◌, ◌∷◌, ◌++◌, [], ⊤, All, Contains, IsTrue, List, Some, filter}
use Rattle.std.specs.Prelude.{◌||◌, ◌⊎◌, Bool, Option, map, not}
use Rattle.std.specs.List.Sorted.{IsStrictlySortedBy}
use Rattle.bag_text.specs.Bytes.{Content, Path}
use Rattle.bag_text.specs.Order.{IsListOf}
use Rattle.bag_text.specs.Path.{is_payload_path}
use Rattle.bag_text.specs.Text.{text_cmp}
use Rattle.bag_text.specs.declared.alg.Alg.{Alg}
use Rattle.bag_tree.specs.Bag.{Bag, file}
use Rattle.bag_tree.specs.Digest.{digest}
use Rattle.bag_tree.specs.Listing.{entry_of_file}
use Rattle.bag_tree.specs.DigestsOf.{sum_at}
use Rattle.bag_tree.specs.Tree.{TreeState}
use Rattle.bag_tree.specs.declared.listing.FileEntry.{FileEntry}
use Rattle.bag_facts.specs.FactsOfBag.{IfBagRead, IsFactsOf}
use Rattle.bag_faults.specs.FaultOrder.{fault_cmp}
use Rattle.bag_facts.specs.Wanted.{paths_of}
use Rattle.bag_faults.specs.declared.fault.Fault.{Fault}
use Rattle.bag_tree.specs.Stop.{IsOutOfMemory}
use Rattle.bag_facts.specs.declared.facts.Facts.{Facts}
use Rattle.bag_faults.specs.declared.options.Depth.TheVariants.{Declaration}
use Rattle.bag_stages.specs.Expected.{Expected}
use Rattle.bag_stages.specs.Given.{AreNaming}
use Rattle.bag_stages.specs.MetadataStage.{bag_info_txt}
use Rattle.bag_stages.specs.SumFaults.{IsFaultOfFile, faults_of_bytes}
use Rattle.bag_stages.specs.ValidityStage.{IsOfValidity}
use Rattle.bag_checked.specs.Checked.{AreReadOnce, IsKeptOf, IsRead}
use Rattle.bag_checked.specs.FirstFaults.{IsFirst}
use Rattle.bag_tags.specs.Summed.{File}
use Rattle.bag_checked.specs.declared.checked.Unchecked.{Unchecked}
use Rattle.bag_checked.specs.declared.checked.Unchecked.TheVariants.{Faulty, Stopped}
use Rattle.bag_tags.specs.declared.summed.SummedFile.{SummedFile}

-- those of the payload
abbrev pub payload_of : List File → List File
payload_of files = filter (λ e. is_payload_path e.0) files

-- a file that is read: every one, or every one that isn't of the payload
abbrev pub is_to_read : Bool → Path → Bool
is_to_read with_payload path = with_payload || not (is_payload_path path)

-- the listed files that are read
abbrev pub to_read : Bool → List FileEntry → List FileEntry
to_read with_payload files = filter (λ entry. is_to_read with_payload entry.path) files

-- and what they are of a bag's files
abbrev pub files_to_read : Bool → List File → List File
files_to_read with_payload files = filter (λ e. is_to_read with_payload e.0) files

-- this is what the manifests of which these are the facts give for the path
pub record IsGivenFor (facts : Facts) (path : Path) (expected : List Expected) : Type 0 where
  pub algs : IfBagRead facts (λ bag. AreNaming bag path (map (λ one. one.alg) expected))
  pub faults : IfBagRead facts (λ bag. (content : Content) → file bag path ≡ Some content
      → IsListOf fault_cmp (IsFaultOfFile bag path) (faults_of_bytes path content expected))

-- a file all of whose digests that manifests give are those of its bytes
pub record IsRight (facts : Facts) (e : File) : Type 0 where
  pub expected : List Expected
  pub given : IsGivenFor facts e.0 expected
  pub right : faults_of_bytes e.0 e.1 expected ≡ []

-- the path of a file, and the digests of its bytes by these algorithms, and perhaps by others
pub record HasSumsBy (algs : List Alg) (e : File) (one : SummedFile) : Type 0 where
  pub path : one.path ≡ e.0
  pub sums : (alg : Alg) → Contains algs alg → sum_at one.sums alg ≡ Some (digest alg e.1)

-- these files in their order, each with its digests by these algorithms
abbrev pub AreSummedBy : List Alg → List File → List SummedFile → Type 0
AreSummedBy algs [] [] = ⊤
AreSummedBy algs (e ∷ files) (one ∷ summed) = HasSumsBy algs e one × AreSummedBy algs files summed
AreSummedBy algs files summed = ⊥

-- A listed file was read once: the tree gave as many bytes as were listed, of which all digests that are
-- given are right, and these the new ones. Of an honest tree they are those of the bag's file.
pub record IsCheckedFile (old new : TreeState) (facts : Facts) (entry : FileEntry)
    (algs : List Alg) (one : SummedFile) (kept : Option Content) : Type 0 where
  pub once : AreReadOnce (entry ∷ []) old new
  pub content : Content
  pub read : IsRead old new entry content
  pub kept_of : IsKeptOf entry.path content kept
  pub right : IsRight facts (entry.path, content)
  pub sums : HasSumsBy algs (entry.path, content) one

-- the bytes of bag-info.txt among these files, and none where it isn't there
abbrev pub IsInfoAmong : List File → Content → Type 0
IsInfoAmong files info =
    Contains files (bag_info_txt, info)
    ⊎ ((info ≡ []) × ((e : File) → Contains files e → e.0 ≢ bag_info_txt))

-- so these listed files were, one after another, and these are the bytes of bag-info.txt among them
pub record AreChecked (state : TreeState) (facts : Facts) (entries : List FileEntry)
    (algs : List Alg) (summed : List SummedFile) (info : Content) : Type 0 where
  pub files : List File
  pub info_of : IsInfoAmong files info
  pub listed : map entry_of_file files ≡ entries
  pub right : All (IsRight facts) files
  pub sums : AreSummedBy algs files summed
  pub honest : IsTrue state.honest → All (λ e. file state.bag e.0 ≡ Some e.1) files

-- And each was read once, and these bytes of them are what the tree gave, file by file.
pub record AreGivenAndChecked (old new : TreeState) (facts : Facts) (entries : List FileEntry)
    (algs : List Alg) (summed : List SummedFile) (info : Content) : Type 0 where
  pub once : AreReadOnce entries old new
  pub are : AreChecked old facts entries algs summed info
  pub gave : new.gave ≡ old.gave ++ are.files

-- that memory ran out
abbrev pub IsNoMemory : Unchecked → Type 0
IsNoMemory (Stopped stop) = IsOutOfMemory stop
IsNoMemory (Faulty fault) = ⊥

-- a digest of one of these files differs
abbrev pub IsDifferenceIn : Bag → List FileEntry → Fault → Type 0
IsDifferenceIn bag files f = IsOfValidity bag f × Contains (paths_of files) f.path

-- of an honest tree whose bag's facts these are it is the first digest that differs in these files,
-- which are in path order
abbrev pub IsFaultyFile : Facts → List FileEntry → TreeState → Unchecked → Type 0
IsFaultyFile facts files state (Stopped stop) = Unit {0}
IsFaultyFile facts files state (Faulty fault) =
    IsTrue state.honest → IsFactsOf state.bag facts → facts.options.depth ≢ Declaration
    → IsStrictlySortedBy text_cmp (paths_of files)
    → IsFirst (IsDifferenceIn state.bag files) fault
