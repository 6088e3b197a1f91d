-- The parts of a report, each of which one process can write: which faults and which files are of
-- each, and where it begins.
use Rattle.std.specs.Prelude.{ℕ, zero, suc, ◌+◌, ◌*◌, ◌/◌, ◌<◌, ◌≤◌, ◌≡◌, ◌&&◌, ◌||◌, ◌==◌, Bool}
use Rattle.std.specs.Prelude.{true, false, not, List, [], ◌∷◌, ◌++◌, filter, length, Contains}
use Rattle.std.specs.Prelude.{nat_le, nat_lt, if◌then◌else◌}
use Rattle.std.specs.List.{sum_by}
use Rattle.std.specs.List.Sorted.{IsStrictlySortedBy}
use Rattle.std.specs.Option.{option_map}
use Rattle.std.specs.Ordering.{is_lt}
use Rattle.bag_text.specs.Bytes.{Path}
use Rattle.bag_text.specs.Code.{stage}
use Rattle.bag_text.specs.Text.{text_cmp}
use Rattle.bag_tree.specs.Bag.{Bag, file}
use Rattle.bag_tree.specs.Listing.{IsOrdered, size_at}
use Rattle.bag_tree.specs.declared.listing.FileEntry.{FileEntry}
use Rattle.bag_faults.specs.FaultOrder.{fault_cmp}
use Rattle.bag_faults.specs.Part.{Part}
use Rattle.bag_faults.specs.declared.fault.Fault.{Fault}
use Rattle.bag_sources.specs.declared.part.Bound.{Bound}
use Rattle.bag_sources.specs.declared.part.Bound.TheVariants.{Start, File, End}
use Rattle.bag_sources.specs.declared.part.Bounds.{Bounds}
use Rattle.bag_sources.specs.declared.part.Listed.{Listed}

-- a fault stands before a file: it is of an earlier stage than the seventh, or of an earlier file
abbrev pub is_before_file : Path → Fault → Bool
is_before_file path f =
    nat_lt (stage f.code) 7 || (stage f.code == 7 && is_lt (text_cmp f.path path))

-- a fault stands before a bound
abbrev pub is_before : Bound → Fault → Bool
is_before Start f = false
is_before (File path) f = is_before_file path f
is_before End f = true

-- and so does a file
abbrev pub is_file_before : Bound → Path → Bool
is_file_before Start path = false
is_file_before (File first) path = is_lt (text_cmp path first)
is_file_before End path = true

-- a fault stands between two bounds
abbrev pub is_within : Bounds → Fault → Bool
is_within bounds f = not (is_before bounds.from f) && is_before bounds.until f

-- and so does a file
abbrev pub is_file_within : Bounds → Path → Bool
is_file_within bounds path =
    not (is_file_before bounds.from path) && is_file_before bounds.until path

-- the faults of the stages before the seventh stand before a bound
abbrev pub is_early_before : Bound → Bool
is_early_before Start = false
is_early_before (File path) = true
is_early_before End = true

-- and so do those of the stages after it
abbrev pub is_late_before : Bound → Bool
is_late_before Start = false
is_late_before (File path) = false
is_late_before End = true

-- the faults of the stages before the seventh stand between two bounds
abbrev pub has_early : Bounds → Bool
has_early bounds = not (is_early_before bounds.from) && is_early_before bounds.until

-- and so do those of the stages after it
abbrev pub has_late : Bounds → Bool
has_late bounds = not (is_late_before bounds.from) && is_late_before bounds.until

-- those of the whole report
abbrev pub whole : Bounds
whole = record { from = Start; until = End }

-- the part 1 of 1, whose bounds are these
abbrev pub only_part : Part
only_part = record { number = 0; of = 1 }

-- what a file costs: its bytes, and for opening it as many as one read takes
abbrev pub weight : FileEntry → ℕ
weight file = file.size + 65536

-- what files cost together
abbrev pub weight_of : List FileEntry → ℕ
weight_of files = sum_by weight files

-- the share of one of so many parts
abbrev pub share : List FileEntry → ℕ → ℕ
share files parts = weight_of files / parts

-- the first of these files by whose middle this much has come, where so much has come before all
abbrev pub first_after : ℕ → ℕ → List FileEntry → Bound
first_after least before [] = End
first_after least before (file ∷ files) =
    if nat_le least (before + weight file / 2) then File file.path
    else first_after least (before + weight file) files

-- Where the part with this number begins, of so many: the first at the start, and each other at the
-- first file by whose middle as many shares have come as there are parts before it. Past the last
-- part is the end.
abbrev pub begin_of : List FileEntry → ℕ → ℕ → Bound
begin_of files parts zero = Start
begin_of files parts (suc k) =
    if nat_le parts (suc k) then End else first_after (share files parts * suc k) 0 files

-- a part ends where the next one begins
abbrev pub bounds_of : List FileEntry → Part → Bounds
bounds_of files part = record {
  from = begin_of files part.of part.number;
  until = begin_of files part.of (part.number + 1);
}

-- the faults of a report that are of a part
abbrev pub part_of : List FileEntry → Part → List Fault → List Fault
part_of files part report = filter (is_within (bounds_of files part)) report

-- the first of so many parts, one after the other
abbrev pub first_parts : List FileEntry → ℕ → List Fault → ℕ → List Fault
first_parts files parts report zero = []
first_parts files parts report (suc k) =
    first_parts files parts report k
    ++ part_of files (record { number = k; of = parts }) report

-- The law: the parts of a report, one after the other, are the report.
abbrev pub PartsJoin : Type 0
PartsJoin =
    (files : List FileEntry) (parts : ℕ) (report : List Fault) → IsOrdered files → 0 < parts
    → IsStrictlySortedBy fault_cmp report → first_parts files parts report parts ≡ report

-- the files of a bag with their sizes, in path order
pub record AreFilesIn (bag : Bag) (files : List FileEntry) : Type 0 where
  pub ordered : IsOrdered files
  pub sizes : (path : Path) → size_at files path ≡ option_map length (file bag path)

-- The law: a bag has one such list, so that whoever lists it finds the same bounds.
abbrev pub OneListOfFiles : Type 0
OneListOfFiles =
    (bag : Bag) (files others : List FileEntry)
    → AreFilesIn bag files → AreFilesIn bag others → files ≡ others

-- the files between two bounds
abbrev pub files_within : Bounds → List FileEntry → List FileEntry
files_within bounds files = filter (λ entry. is_file_within bounds entry.path) files

-- the files of a part
abbrev pub files_of_part : List FileEntry → Part → List FileEntry
files_of_part files part = files_within (bounds_of files part) files

-- how many files there are, and how many bytes they have together
abbrev pub listed_of : List FileEntry → Listed
listed_of files = record { files = length files; bytes = sum_by (λ entry. entry.size) files }

-- The law of balance: a part costs a share at the most, and what is left over of all shares, and as
-- much as the file that costs most.
abbrev pub PartsAreEven : Type 0
PartsAreEven =
    (files : List FileEntry) (part : Part) (most : ℕ) → IsOrdered files → part.number < part.of
    → ((entry : FileEntry) → Contains files entry → weight entry ≤ most)
    → weight_of (files_of_part files part) ≤ share files part.of + part.of + most
