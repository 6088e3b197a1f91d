-- What opening and reading a file of a tree promises.
use Rattle.std.specs.Prelude.{◌≡◌, ℕ, ◌≤◌, ◌↔◌, ◌⊎◌, zero, suc, List, [], ◌∷◌, ◌++◌, length, take}
use Rattle.std.specs.Prelude.{drop, Option, Some}
use Rattle.std.specs.Option.{option_map}
use Rattle.bag_text.specs.Bytes.{Content, Path}
use Rattle.bag_tree.specs.Bag.{Bag, file}
use Rattle.bag_tree.specs.declared.listing.FileEntry.{FileEntry}
use Rattle.bag_tree.specs.declared.answer.Answer.{Answer}
use Rattle.bag_tree.specs.declared.answer.Answer.TheVariants.{Given, AtEnd}
use Rattle.bag_tree.specs.Tree.{TreeState}

-- what a read of n bytes answers
abbrev pub answer_of_read : ℕ → Answer
answer_of_read zero = AtEnd
answer_of_read (suc n) = Given

-- what files gave, when reads of the last have given these bytes more
abbrev pub gave_more : List (Path × Content) → List ℕ → List (Path × Content)
gave_more [] bytes = []
gave_more (file ∷ []) bytes = (file.0, file.1 ++ bytes) ∷ []
gave_more (file ∷ (next ∷ later)) bytes = file ∷ gave_more (next ∷ later) bytes

-- this file was opened, once at most, and no other
abbrev pub OpensAtMost : TreeState → TreeState → Path → Type 0
OpensAtMost old new path = (new.openings ≡ old.openings)
    ⊎ (new.openings ≡ old.openings ++ path ∷ [])

-- the entry is one of the bag's files
abbrev pub IsEntryOf : Bag → FileEntry → Type 0
IsEntryOf bag entry = option_map length (file bag entry.path) ≡ Some entry.size

-- a read of n bytes from the rest of a file, none exactly at the file's end
pub record ReadsNext (rest after : Option (List ℕ)) (n : ℕ) (buffer : List ℕ) : Type 0 where
  pub from_open : (bytes : List ℕ) → rest ≡ Some bytes
      → (take n buffer ≡ take n bytes) × (after ≡ Some (drop n bytes)) × (n ≤ length bytes)
      × ((n ≡ 0) ↔ (bytes ≡ []))
  pub some : (bytes : List ℕ) × (rest ≡ Some bytes)

-- the file that was opened is one of the bag's, and all of it is left
abbrev pub IsOpen : Option Content → Option (List ℕ) → Type 0
IsOpen content rest = (bytes : List ℕ) × (content ≡ Some bytes) × (rest ≡ Some bytes)
