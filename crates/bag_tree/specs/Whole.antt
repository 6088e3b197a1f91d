-- What reading a whole file does, and when it is refused.
use Rattle.std.specs.Prelude.{◌≡◌, ◌≢◌, ◌+◌, ◌⊎◌, IsTrue, Some, Option, List, ℕ, ◌++◌, ◌∷◌, [], length}
use Rattle.std.specs.Prelude.{IfErr, OnErr, OnOk, Result}
use Rattle.bag_text.specs.Bytes.{Content}
use Rattle.bag_tree.specs.Bag.{HasFile, file}
use Rattle.bag_tree.specs.Tree.{TreeState, MayRefuseOpening, IsOtherSize, CameFromFile, Keeps}
use Rattle.bag_tree.specs.Tree.{IsRefusedAt, NothingFailed}
use Rattle.bag_tree.specs.declared.answer.Answer.TheVariants.{Refused}
use Rattle.bag_tree.specs.FileReads.{IsEntryOf, OpensAtMost}
use Rattle.bag_tree.specs.declared.listing.FileEntry.{FileEntry}
use Rattle.bag_tree.specs.declared.tree_fault.TreeFault.{TreeFault}
use Rattle.bag_tree.specs.declared.tree_fault.TreeFault.TheVariants.{Changed, Memory}

-- More or fewer bytes than were listed are Changed, which an honest tree shows only for a file of
-- its bag that is listed with another length; any other refusal but out of memory is the tree's
-- own. The file that was opened stays open.
abbrev pub MayRefuseWhole : TreeState → TreeState → FileEntry → TreeFault → Type 0
MayRefuseWhole old new entry Changed =
    IsOtherSize new entry.size
    × (IsTrue old.honest → HasFile old.bag entry.path × (IsEntryOf old.bag entry → ⊥))
MayRefuseWhole old new entry fault =
    MayRefuseOpening entry.path old new fault × CameFromFile new fault

-- these bytes of the file were read, and the rest follows
pub record HasRead (content : Option Content) (bytes : List ℕ) (rest : Option (List ℕ)) : Type 0
  where
    pub left : List ℕ
    pub is_open : rest ≡ Some left
    pub whole : content ≡ Some (bytes ++ left)

-- Of a listed file these bytes were read and taken, and `left` are left of those that were listed.
-- `takes` says of bytes that they were taken.
pub record HasTakenSome (takes : Content → Type 0) (old now : TreeState) (entry : FileEntry)
    (left : ℕ) : Type 0 where
  pub front : Content
  pub size : length front + left ≡ entry.size
  pub taken : takes front
  pub gave : now.gave ≡ old.gave ++ (entry.path, front) ∷ []
  pub honest : IsTrue old.honest → HasRead (file old.bag entry.path) front now.rest

-- all that the tree gave of a listed file was taken: as many bytes as were listed, and the file's
-- where the tree is honest
pub record HasTakenFile (takes : Content → Type 0) (old new : TreeState) (entry : FileEntry)
    : Type 0 where
  pub content : Content
  pub size : length content ≡ entry.size
  pub taken : takes content
  pub gave : new.gave ≡ old.gave ++ (entry.path, content) ∷ []
  pub honest : IsTrue old.honest → file old.bag entry.path ≡ Some content

-- The refusal is the tree's last answer, unless the file has changed. Where what takes the bytes
-- `may_refuse` them, it may be out of memory, and the tree refused nothing.
abbrev pub IsToldBy : Type 0 → TreeState → TreeState → TreeFault → Type 0
IsToldBy may_refuse old new fault = (fault ≢ Changed → new.last ≡ Refused fault)
    ⊎ ((fault ≡ Memory) × NothingFailed old new × may_refuse)

-- what reading a listed file to its end does
pub record ReadsFile (takes : Content → Type 0) (may_refuse : Type 0) (old new : TreeState)
    (entry : FileEntry) (answer : Result (Unit {0}) TreeFault) : Type 0 where
  pub keeps : Keeps old new
  pub no_failure : OnOk answer (NothingFailed old new)
  pub opens : OpensAtMost old new entry.path
  pub opened : OnOk answer (new.openings ≡ old.openings ++ entry.path ∷ [])
  pub taken : OnOk answer (HasTakenFile takes old new entry)
  pub listed : new.listed ≡ old.listed
  pub refused : IfErr answer (MayRefuseWhole old new entry)
  pub refused_at : OnErr answer (IsRefusedAt old.openings entry.path new)
  pub told : IfErr answer (IsToldBy may_refuse old new)
