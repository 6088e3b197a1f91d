-- Reports of all parts of a check, and the report of one check that they are joined into.
use Rattle.std.specs.Prelude.{ℕ, zero, suc, ◌+◌, ◌<◌, ◌≤◌, ◌≡◌, ◌≢◌, ◌++◌, List, [], ◌∷◌, None, codes}
use Rattle.std.specs.Prelude.{length, Contains, Option, ⊤}
use Rattle.std.specs.Io.KnownBytes.{Appends}
use Rattle.std.specs.List.{concat, flat_map}
use Rattle.std.specs.List.Sorted.{IsStrictlySortedBy}
use Rattle.bag_tree.specs.Out.{IsCut, OutState}
use Rattle.bag_faults.specs.FaultOrder.{fault_cmp}
use Rattle.bag_faults.specs.LineOf.{IsFault}
use Rattle.bag_faults.specs.Part.{Part}
use Rattle.bag_faults.specs.declared.fault.Fault.{Fault}
use Rattle.bag_faults.specs.declared.options.Depth.TheVariants.{Full}
use Rattle.bag_reports.specs.DoneLine.{line_for}
use Rattle.bag_reports.specs.Faults.{AreAfter, WritesFaults}
use Rattle.bag_reports.specs.Head.{AreKeys, head_of}
use Rattle.bag_reports.specs.declared.done_line.Subject.{Subject}
use Rattle.bag_reports.specs.declared.refusal.Cause.{Cause}
use Rattle.bag_reports.specs.declared.refusal.Cause.TheVariants.{Changed, Memory, Output, Unreadable}
use Rattle.bag_reports.specs.Reports.{ReportsState, all_given}
use Rattle.bag_walk.specs.Closing.{about, about_count, verdict}
use Rattle.bag_walk.specs.Ending.{ended, written}
use Rattle.bag_walk.specs.declared.outcome.Outcome.{Outcome}

-- the whole report of a part: the line of each of its faults, and its closing line, which counts
-- them
abbrev pub part_report : Subject → Part → List Fault → List ℕ
part_report subject part faults =
    concat (written faults) ++ line_for subject part (length faults)

-- The file of a part's report: lines that say which keys of a profile aren't checked, if any do, and
-- the whole report.
pub record IsFileOf (subject : Subject) (part : Part) (faults : List Fault) (text : List ℕ) : Type 0
  where
    pub keys : List (List ℕ)
    pub are : AreKeys keys
    pub text_is : text ≡ head_of keys ++ part_report subject part faults

-- those of parts in turn, from the one with this number on, counted from 0, of so many
abbrev pub AreFilesFrom : Subject → ℕ → ℕ → List (List ℕ) → List (List Fault) → Type 0
AreFilesFrom subject of number [] [] = ⊤
AreFilesFrom subject of number (text ∷ texts) (faults ∷ rest) =
    IsFileOf subject (record { number = number; of = of }) faults text
    × AreFilesFrom subject of (number + 1) texts rest
AreFilesFrom subject of number texts parts = ⊥

-- those of all parts, each once and in turn, that have these faults
abbrev pub AreFilesOf : Subject → List (List ℕ) → List (List Fault) → Type 0
AreFilesOf subject texts parts = AreFilesFrom subject (length parts) 0 texts parts

-- the faults of parts, one part after the other
abbrev pub all_faults : List (List Fault) → List Fault
all_faults parts = flat_map (λ faults. faults) parts

-- the closing line of one check of the whole bag, at depth Full, that finds so many faults
abbrev pub full_closing : List ℕ → ℕ → List ℕ
full_closing name zero = about name (verdict Full)
full_closing name (suc n) = about_count name (codes " has faults: ") (suc n)

-- the report of one check
abbrev pub full_report : List ℕ → List Fault → List ℕ
full_report name faults = concat (written faults) ++ full_closing name (length faults)

-- Reports were joined: what was read last are the files of the whole reports of all parts of one
-- check, each once and in turn, whose faults are in order; and what was written is the report of one
-- check with these faults.
pub record IsJoined (given : List (List ℕ)) (before after : OutState) (outcome : Outcome) : Type 0
  where
    pub subject : Subject
    pub parts : List (List Fault)
    pub some : 0 < length parts
    pub most : length parts ≤ 65536
    pub earlier : List (List ℕ)
    pub texts : List (List ℕ)
    pub read : given ≡ earlier ++ texts
    pub are_files : AreFilesOf subject texts parts
    pub are_faults : (f : Fault) → Contains (all_faults parts) f → IsFault f
    pub in_order : IsStrictlySortedBy fault_cmp (all_faults parts)
    pub wrote : Appends before.taken after.taken (full_report subject.name (all_faults parts))
    pub ends : outcome ≡ ended None (length (all_faults parts))

-- Why reports are refused before anything is written: all causes but that one was changed since, that
-- it couldn't be read, that memory ran out, or that the output refused.
abbrev pub IsSeenFirst : Cause → Type 0
IsSeenFirst Changed = ⊥
IsSeenFirst Unreadable = ⊥
IsSeenFirst Memory = ⊥
IsSeenFirst Output = ⊥
IsSeenFirst _ = ⊤

-- After a refusal the output has a proper prefix of a report whose faults are in order: where it
-- didn't refuse itself, the lines of these faults, and no closing line.
pub record IsLeft (cause : Cause) (before after : OutState) : Type 0 where
  pub name : List ℕ
  pub faults : List Fault
  pub in_order : AreAfter None faults
  pub cut : IsCut before.taken after.taken (full_report name faults)
  pub whole : cause ≢ Output → Appends before.taken after.taken (concat (written faults))

-- of one part: the file of its whole report was read, and the lines of its faults were written
pub record JoinsPart (subject : Subject) (part : Part) (old new : ReportsState)
    (last new_last : Option Fault) (before after : OutState) (n : ℕ) : Type 0 where
  pub faults : List Fault
  pub text : List ℕ
  pub is_file : IsFileOf subject part faults text
  pub read : all_given new ≡ all_given old ++ text ∷ []
  pub wrote : WritesFaults last new_last before after n faults

-- of the first parts of so many
pub record JoinsFirst (subject : Subject) (of : ℕ) (old new : ReportsState)
    (last : Option Fault) (before after : OutState) (k n : ℕ) : Type 0 where
  pub parts : List (List Fault)
  pub are_first : length parts ≡ k
  pub texts : List (List ℕ)
  pub are_files : AreFilesFrom subject of 0 texts parts
  pub read : all_given new ≡ all_given old ++ texts
  pub wrote : WritesFaults None last before after n (all_faults parts)
