-- Files that were read once, to compare their digests and to compute new ones.
use Rattle.std.specs.Prelude.{ℕ, ◌≡◌, ◌≢◌, List, [], ◌∷◌, ◌++◌, Option, Some, Contains, IsTrue}
use Rattle.std.specs.Prelude.{MatchOption, length}
use Rattle.bag_text.specs.Bytes.{Content}
use Rattle.bag_text.specs.declared.alg.Alg.{Alg}
use Rattle.bag_tree.specs.Bag.{file}
use Rattle.bag_tree.specs.Digest.{digest}
use Rattle.bag_tree.specs.DigestsOf.{sum_at}
use Rattle.bag_tree.specs.Tree.{NothingFailed, TreeState}
use Rattle.bag_tree.specs.declared.listing.FileEntry.{FileEntry}
use Rattle.bag_facts.specs.Wanted.{paths_of}
use Rattle.bag_faults.specs.declared.fault.Fault.{Fault}
use Rattle.bag_stages.specs.Expected.{Expected}
use Rattle.bag_stages.specs.MetadataStage.{bag_info_txt}
use Rattle.bag_stages.specs.SumFaults.{AreSumsBy, faults_of_bytes}
use Rattle.bag_tree.specs.Stop.{IsOutOfMemory}
use Rattle.bag_checked.specs.declared.checked.Unchecked.{Unchecked}
use Rattle.bag_checked.specs.declared.checked.Unchecked.TheVariants.{Stopped, Faulty}

-- These files were opened, each once and in this order, and no other; nothing was listed, and the
-- tree refused nothing.
pub record AreReadOnce (files : List FileEntry) (old new : TreeState) : Type 0 where
  pub no_failure : NothingFailed old new
  pub opened : new.openings ≡ old.openings ++ paths_of files
  pub listed : new.listed ≡ old.listed

-- the bytes that the tree gave of a file, which was read once: as many as were listed; those of the
-- bag, where the tree is honest
pub record IsRead (old new : TreeState) (entry : FileEntry) (content : Content) : Type 0 where
  pub gave : new.gave ≡ old.gave ++ (entry.path, content) ∷ []
  pub size : length content ≡ entry.size
  pub honest : IsTrue old.honest → file old.bag entry.path ≡ Some content

-- Of these bytes of a file, which was read once, all digests that are given are right, and these are
-- those that are to be given.
pub record IsCheckedAs (old new : TreeState) (entry : FileEntry) (expected : List Expected)
    (algs : List Alg) (content : Content) (sums : List (Option (List ℕ))) : Type 0 where
  pub once : AreReadOnce (entry ∷ []) old new
  pub read : IsRead old new entry content
  pub right : faults_of_bytes entry.path content expected ≡ []
  pub sums_of : (alg : Alg) → Contains algs alg → sum_at sums alg ≡ Some (digest alg content)

-- So it is of the bytes that the tree gave.
abbrev pub IsChecked : TreeState → TreeState → FileEntry → List Expected → List Alg
    → List (Option (List ℕ)) → Type 0
IsChecked old new entry expected algs sums =
    (content : List ℕ) × IsCheckedAs old new entry expected algs content sums

-- the bytes that are kept of a file: those of bag-info.txt, and of no other
abbrev pub IsKeptOf : List ℕ → List ℕ → Option (List ℕ) → Type 0
IsKeptOf path content kept =
    MatchOption kept (path ≢ bag_info_txt)
    (λ bytes. (path ≡ bag_info_txt) × (bytes ≡ content))

-- A file was checked, and these bytes of it are kept.
pub record IsCheckedAndKept (old new : TreeState) (entry : FileEntry) (expected : List Expected)
    (algs : List Alg) (sums : List (Option (List ℕ))) (kept : Option (List ℕ)) : Type 0 where
  pub content : List ℕ
  pub checked : IsCheckedAs old new entry expected algs content sums
  pub kept_of : IsKeptOf entry.path content kept

-- Memory ran out; or of bytes that have these digests this is the first fault.
abbrev pub DiffersFirst : List ℕ → List Expected → List (Option (List ℕ)) → Unchecked → Type 0
DiffersFirst path expected sums (Stopped stop) = IsOutOfMemory stop
DiffersFirst path expected sums (Faulty fault) =
    (content : List ℕ) → AreSumsBy expected content sums
    → (rest : List Fault) × (faults_of_bytes path content expected ≡ fault ∷ rest)

-- A file was stopped at; or of the bytes that the tree gave this is the first fault.
abbrev pub IsUnchecked : TreeState → TreeState → FileEntry → List Expected → Unchecked → Type 0
IsUnchecked old new entry expected (Stopped stop) = Unit {0}
IsUnchecked old new entry expected (Faulty fault) =
    (content : List ℕ) × (rest : List Fault) × IsRead old new entry content
    × (faults_of_bytes entry.path content expected ≡ fault ∷ rest)
