-- Reports that are read in pieces, and what was read of them.
use Rattle.std.specs.Prelude.{ℕ, ◌≡◌, ◌++◌, ◌∷◌, Bool, IsTrue, List, [], Some, slice_get, take, true}

-- what reports mean
pub record ReportsState : Type 0 where
  -- how many there are
  pub count : ℕ
  -- each time that one is opened it gives what it holds
  pub honest : Bool
  -- what each holds, where they are honest
  pub held : List (List ℕ)
  -- which is open, counted from 0
  pub open_one : ℕ
  -- what it has given since it was opened
  pub given : List ℕ
  -- what each that was opened before had given when the next was opened
  pub earlier : List (List ℕ)
  -- a call of them was refused
  pub has_failed : Bool

-- all that was given of reports, each time that one was opened, in turn
abbrev pub all_given : ReportsState → List (List ℕ)
all_given state = state.earlier ++ state.given ∷ []

-- they are the same reports
pub record SameReports (old new : ReportsState) : Type 0 where
  pub count : new.count ≡ old.count
  pub honest : new.honest ≡ old.honest
  pub held : new.held ≡ old.held

-- this one was opened, and has given nothing yet
pub record Opens (old new : ReportsState) (number : ℕ) : Type 0 where
  pub open_is : new.open_one ≡ number
  pub nothing : new.given ≡ []
  pub earlier : new.earlier ≡ all_given old
  pub failed : new.has_failed ≡ old.has_failed

-- the one that is open gave the first n of these bytes, after what it had given
pub record Gives (old new : ReportsState) (n : ℕ) (bytes : List ℕ) : Type 0 where
  pub open_is : new.open_one ≡ old.open_one
  pub given : new.given ≡ old.given ++ take n bytes
  pub earlier : new.earlier ≡ old.earlier
  pub failed : new.has_failed ≡ old.has_failed

-- a call was refused, and nothing was given
pub record StaysAt (old new : ReportsState) : Type 0 where
  pub open_is : new.open_one ≡ old.open_one
  pub given : new.given ≡ old.given
  pub earlier : new.earlier ≡ old.earlier
  pub failed : new.has_failed ≡ true

-- what the one that is open has given is the beginning of what it holds
abbrev pub HoldsOpen : ReportsState → Type 0
HoldsOpen state = (rest : List ℕ) × (slice_get state.held state.open_one ≡ Some (state.given ++ rest))

-- the same one stays open, and what it gives is the beginning of what it holds, if it was
pub record ReadsOn (old new : ReportsState) : Type 0 where
  pub same : SameReports old new
  pub open_is : new.open_one ≡ old.open_one
  pub earlier : new.earlier ≡ old.earlier
  pub holds : IsTrue old.honest → HoldsOpen old → HoldsOpen new

-- and where a read gave nothing, it is all
abbrev pub GivesHeld : ReportsState → ℕ → Type 0
GivesHeld state n =
    HoldsOpen state × (n ≡ 0 → slice_get state.held state.open_one ≡ Some state.given)
