-- Faults that files are there: of listed files, they are those of the bag's files.
use Rattle.bag_report.proofs.Conforming.{None, ◌≡◌, ℕ, List, [], sym, ap, ◌∙◌, subst, Code, Bag, HasFile, FileEntry}
use Rattle.bag_report.proofs.Conforming.{of_path, Fault, AreFilesOfBag, contains_mapped, mapped_contains, AreAll}
use Rattle.bag_facts.proofs.ListedFiles.{file_listed, listed_file}
use Rattle.bag_report.proofs.FaultSets.{FaultsOf, same_all}

abbrev pub path_of : FileEntry → List ℕ
path_of entry = entry.path

module _ (code : Code) (Holds : List ℕ → Type 0) where
  abbrev pub fault_of : FileEntry → Fault
  fault_of entry = of_path code entry.path None []

  abbrev pub HoldsOf : FileEntry → Type 0
  HoldsOf entry = Holds entry.path

  -- the fault of a file of the bag of which it holds
  abbrev pub IsFaultOfAFile : Bag → Fault → Type 0
  IsFaultOfAFile bag f = (path : List ℕ) × HasFile bag path × (f ≡ of_path code path None []) × Holds path

  module _ (bag : Bag) (files : List FileEntry) (listed : AreFilesOfBag bag files) where
    to_file : (f : Fault) → FaultsOf fault_of HoldsOf files f → IsFaultOfAFile bag f
    to_file f h =
        (path_of h.0, listed_file bag files (path_of h.0) listed (mapped_contains path_of files h.0 h.1), h.2, h.3)

    from_file : (f : Fault) → IsFaultOfAFile bag f → FaultsOf fault_of HoldsOf files f
    from_file f h =
        let there = contains_mapped path_of files h.0 (file_listed bag files h.0 listed h.1) in
        (there.0, there.1, h.2 ∙ ap (λ path. of_path code path None []) (sym there.2), subst Holds (sym there.2) h.3)

    pub files_all : (faults : List Fault) → AreAll (FaultsOf fault_of HoldsOf files) faults
        → AreAll (IsFaultOfAFile bag) faults
    files_all faults all = same_all (FaultsOf fault_of HoldsOf files) (IsFaultOfAFile bag) faults to_file from_file all
