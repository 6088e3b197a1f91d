-- The reasons why a line of fetch.txt doesn't read, each by itself (RFC 8493, 2.2.3), and the law
-- of the first.
use Rattle.std.specs.Prelude.{ℕ, ◌≡◌, false, List, [], ◌∷◌, codes, ◌⊎◌}
use Rattle.bag_text.specs.Bytes.{Line}
use Rattle.bag_text.specs.Path.{is_path, is_payload_path}
use Rattle.bag_text.specs.Spells.{Spells}
use Rattle.bag_text.specs.declared.rules.Rules.{Rules}
use Rattle.bag_text.specs.declared.code.Code.{Code}
use Rattle.bag_text.specs.declared.code.Code.TheVariants.{FetchLine, FetchEscape, FetchUnsafePath}
use Rattle.bag_text.specs.declared.code.Code.TheVariants.{FetchOutsidePayload}
use Rattle.bag_read.specs.Fetch.{HasFetchReason}
use Rattle.bag_read.specs.FetchLine.{IsLength}
use Rattle.bag_read.specs.LineParts.{IsCutAtBlanks, IsWithout}
use Rattle.bag_read.specs.Reason.{Reason}

-- a URL, blanks, a length, blanks, and the path as it is written
abbrev pub HasParts : Line → List ℕ → Type 0
HasParts line written =
    (url after_url size : List ℕ) × IsCutAtBlanks line url after_url
    × IsCutAtBlanks after_url size written × IsLength size

-- the path is spelled so
abbrev pub IsFetchSpelled : Line → List ℕ → Type 0
IsFetchSpelled line spelling =
    (written : List ℕ) × HasParts line written × IsWithout (codes "./") written spelling

-- and this text is what is spelled
abbrev pub IsFetchWritten : Rules → Line → List ℕ → Type 0
IsFetchWritten rules line text =
    (spelling : List ℕ) × IsFetchSpelled line spelling × Spells rules spelling text

-- a reason, with its detail, by cases on the code
abbrev pub FetchReasonHolds : Code → Rules → Line → List ℕ → Type 0
-- the line hasn't these parts
FetchReasonHolds FetchLine rules line detail =
    (detail ≡ []) × ((written : List ℕ) → ¬ (HasParts line written))
-- the spelling of the path has a bad escape
FetchReasonHolds FetchEscape rules line detail =
    IsFetchSpelled line detail × ((path : List ℕ) → ¬ (Spells rules detail path))
-- what is spelled isn't a path
FetchReasonHolds FetchUnsafePath rules line detail =
    IsFetchWritten rules line detail × (is_path detail ≡ false)
-- it isn't the path of a payload file
FetchReasonHolds FetchOutsidePayload rules line detail =
    IsFetchWritten rules line detail × (is_payload_path detail ≡ false)
FetchReasonHolds other rules line detail = ⊥

-- in the order in which they count: of several that hold the first is reported
abbrev pub fetch_reasons : List Code
fetch_reasons = FetchLine ∷ FetchEscape ∷ FetchUnsafePath ∷ FetchOutsidePayload ∷ []

-- the reason's code is the first of these that holds: none before it holds, whatever the detail
abbrev pub IsFirst : (Code → List ℕ → Type 0) → List Code → Reason → Type 0
IsFirst Holds [] reason = ⊥
IsFirst Holds (code ∷ later) reason =
    ((reason.0 ≡ code) × Holds code reason.1)
    ⊎ (((detail : List ℕ) → ¬ (Holds code detail)) × IsFirst Holds later reason)

-- the law: the reason of a line holds, and none of those before it does
abbrev pub FirstFetchReasonIsReported : Type 0
FirstFetchReasonIsReported =
    (rules : Rules) (line : Line) (reason : Reason) → HasFetchReason rules line reason
    → IsFirst (λ code detail. FetchReasonHolds code rules line detail) fetch_reasons reason
