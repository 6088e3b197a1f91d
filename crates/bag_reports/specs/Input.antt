-- Reports that are read line by line.
use Rattle.std.specs.Prelude.{ℕ, ◌≡◌, ◌≢◌, ◌++◌, ◌≤◌, ◌<◌, ◌∷◌, Bool, true, List, [], IsTrue, Some}
use Rattle.std.specs.Prelude.{codes, if◌then◌else◌, slice_get, slice_range, length, All, ⊤}
use Rattle.bag_tree.specs.Out.{OutState}
use Rattle.bag_reports.specs.Reports.{HoldsOpen, ReportsState}
use Rattle.bag_reports.specs.declared.refusal.Cause.{Cause}
use Rattle.bag_reports.specs.declared.refusal.Cause.TheVariants.{Memory, Output, Unreadable}

-- The bytes from a place of the buffer to another are those that were given and haven't passed.
pub record IsAhead (given passed buffer : List ℕ) (at end : ℕ) : Type 0 where
  pub ordered : at ≤ end
  pub within : end ≤ length buffer
  pub some : 0 < length buffer
  pub ahead : given ≡ passed ++ slice_range buffer at end

-- a line with its end, or what stands after the last line
abbrev pub ended_line : List ℕ → Bool → List ℕ
ended_line line has_end = line ++ (if has_end then codes "\n" else [])

-- all that was given of the report that is open has passed, and of honest reports that is all
abbrev pub IsPassed : ReportsState → List ℕ → Type 0
IsPassed state passed =
    (state.given ≡ passed)
    × (IsTrue state.honest → slice_get state.held state.open_one ≡ Some passed)

-- no line ends within it
abbrev pub HasNoEnd : List ℕ → Type 0
HasNoEnd line = All (λ byte. byte ≢ 10) line

-- lines with their ends, one after another
abbrev pub ended_lines : List (List ℕ) → List ℕ
ended_lines [] = []
ended_lines (line ∷ lines) = line ++ 10 ∷ ended_lines lines

abbrev pub AreLines : List (List ℕ) → Type 0
AreLines [] = ⊤
AreLines (line ∷ lines) = HasNoEnd line × AreLines lines

-- of honest reports, the open one holds what has passed, and then this
pub record HoldsAhead (state : ReportsState) (passed rest : List ℕ) : Type 0 where
  pub honest : IsTrue state.honest
  pub opened : HoldsOpen state
  pub ahead : slice_get state.held state.open_one ≡ Some (passed ++ rest)

-- Why reading whole reports may be refused: memory ran out, or a call of the reports was refused.
abbrev pub MayFail : Cause → ReportsState → Type 0
MayFail Memory reports = ⊤
MayFail Unreadable reports = reports.has_failed ≡ true
MayFail _ reports = ⊥

-- Why joining them may be: also where the output has refused.
abbrev pub MayRefuse : Cause → ReportsState → OutState → Type 0
MayRefuse Output reports out = out.has_refused ≡ true
MayRefuse cause reports out = MayFail cause reports
