-- Which folders and tar files were looked into, as what their trees were left, which couldn't be
-- given, which files were read beside them, and which reports.
use Rattle.std.specs.Prelude.{ℕ, List, [], ◌∷◌, Result}
use Rattle.bag_reports.specs.Reports.{ReportsState}
use Rattle.bag_archive.specs.Archive.{ArchiveState}
use Rattle.bag_tree.specs.Tree.{TreeState}
use Rattle.bag_program.specs.declared.read_fault.ReadFault.{ReadFault}

-- the tree of the files in the folder of this name was given, or was asked for and couldn't be
-- given, a tree was left as this, or the file at this path was read, and these bytes were the
-- answer, or why there are none
pub data Event : Type 0 where
  Entered : List ℕ → Event
  NotGiven : List ℕ → Event
  Left : TreeState → Event
  Read : List ℕ → Result (List ℕ) ReadFault → Event
  -- the tar file at this path was given, or one that made no tree was left as this
  Opened : List ℕ → Event
  Shut : ArchiveState → Event
  -- the reports at these paths were asked for, or reports were left as these
  Asked : List (List ℕ) → Event
  Closed : ReportsState → Event

-- the folder was looked into once, and its tree was left as this
abbrev pub visit_of : List ℕ → TreeState → List Event
visit_of name new = Entered name ∷ Left new ∷ []
