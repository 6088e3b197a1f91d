-- Why a line of a tag file doesn't read.
use Rattle.std.specs.Prelude.{ℕ, ◌≡◌, ⊤, List, Option, Some, None, Result, Ok, Err}
use Rattle.bag_text.specs.Bytes.{Path}
use Rattle.bag_text.specs.declared.code.Code.{Code}
use Rattle.bag_read.specs.declared.line_fault.Why.{Why}
use Rattle.bag_read.specs.declared.line_fault.Why.TheVariants.{Fault, Memory}

-- a code, and a fault's detail
abbrev pub Reason : Type 0
Reason = Code × List ℕ

-- the path that is spelled, or that the spelling has a bad escape
abbrev pub decoded_or : Code → Option Path → List ℕ → Result Path Reason
decoded_or bad_escape None spelling = Err (bad_escape, spelling)
decoded_or bad_escape (Some path) spelling = Ok path

-- what was read of a line is what it says, unless memory ran out
abbrev pub IsReadOf : {A : Type 0} → Result A Reason → Result A Why → Type 0
IsReadOf says (Ok read) = says ≡ Ok read
IsReadOf says (Err (Fault code detail)) = says ≡ Err (code, detail)
IsReadOf says (Err Memory) = ⊤
