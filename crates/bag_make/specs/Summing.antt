-- What summing files promises.
use Rattle.std.specs.Prelude.{◌≡◌, ◌++◌, IsTrue, List, Some, All, map, length}
use Rattle.bag_text.specs.Bytes.{Content}
use Rattle.bag_text.specs.Path.{under}
use Rattle.bag_tree.specs.Bag.{file}
use Rattle.bag_tree.specs.Tree.{NothingFailed, TreeState}
use Rattle.bag_facts.specs.Wanted.{paths_of}
use Rattle.bag_tree.specs.declared.listing.FileEntry.{FileEntry}
use Rattle.bag_text.specs.declared.alg.Alg.{Alg}
use Rattle.bag_tree.specs.DigestsOf.{AreSumsOf}
use Rattle.bag_make.specs.Made.{data_folder, new_payload}
use Rattle.bag_tags.specs.declared.summed.SummedFile.{SummedFile}
use Rattle.bag_tree.specs.Listing.{entry_of_file}
use Rattle.bag_tags.specs.Summed.{AreSummed, File}

-- The files that are listed so, under data/, each with its digests. Of an honest tree they are
-- files of the bag.
pub record AreSummedFiles (state : TreeState) (entries : List FileEntry) (algs : List Alg)
    (summed : List SummedFile) : Type 0 where
  pub files : List File
  pub listed : map entry_of_file files ≡ entries
  pub are : AreSummed algs (new_payload files) summed
  pub honest : IsTrue state.honest → All (λ e. file state.bag e.0 ≡ Some e.1) files

-- Listed files were opened, each once and in this order, and no other, and these are their digests.
-- The tree refused nothing.
pub record SumsFiles (entries : List FileEntry) (algs : List Alg) (old new : TreeState)
    (summed : List SummedFile) : Type 0 where
  pub no_failure : NothingFailed old new
  pub opened : new.openings ≡ old.openings ++ paths_of entries
  pub are : AreSummedFiles old entries algs summed

-- A file that is listed so, under data/, with its digests. Of an honest tree it is a file of the
-- bag.
pub record IsSummedEntry (state : TreeState) (entry : FileEntry) (algs : List Alg)
    (one : SummedFile) : Type 0 where
  pub content : Content
  pub size : length content ≡ entry.size
  pub path : one.path ≡ under data_folder entry.path
  pub sums : AreSumsOf algs content one.sums
  pub honest : IsTrue state.honest → file state.bag entry.path ≡ Some content
