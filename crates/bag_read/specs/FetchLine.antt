-- What a line of fetch.txt is made of (RFC 8493, 2.2.3), and the laws that its definition keeps.
use Rattle.std.specs.Prelude.{ℕ, ◌≡◌, ◌⊎◌, ◌↔◌, false, List, codes, IsTrue}
use Rattle.bag_text.specs.Bytes.{Line, Path}
use Rattle.bag_text.specs.Path.{is_payload_path}
use Rattle.bag_text.specs.Spells.{Spells}
use Rattle.bag_text.specs.Text.{is_blank_line}
use Rattle.bag_text.specs.declared.rules.Rules.{Rules}
use Rattle.bag_read.specs.LineParts.{AreDigits, IsCutAtBlanks, IsWithout}
use Rattle.bag_read.specs.Reason.{Reason}
use Rattle.bag_read.specs.Fetch.{ReadsFetch, HasFetchReason}

-- one or more digits, or a - alone
abbrev pub IsLength : List ℕ → Type 0
IsLength t = (t ≡ codes "-") ⊎ AreDigits t

-- the line is a URL, blanks, a length, blanks, and a spelling of the path of a payload file
pub record IsFetchLine (rules : Rules) (line : Line) (url size : List ℕ)
    (path : Path) : Type 0 where
  pub after_url : List ℕ
  pub written : List ℕ
  pub spelling : List ℕ
  pub url_first : IsCutAtBlanks line url after_url
  pub length_next : IsCutAtBlanks after_url size written
  pub has_length : IsLength size
  pub dot_slash : IsWithout (codes "./") written spelling
  pub spelled : Spells rules spelling path
  pub in_payload : IsTrue (is_payload_path path)

-- the law: a line reads just as it is made of these
abbrev pub FetchLinesReadAsTheirParts : Type 0
FetchLinesReadAsTheirParts = (rules : Rules) (line : Line) (url size : List ℕ) (path : Path)
    → ReadsFetch rules line url size path ↔ IsFetchLine rules line url size path

abbrev pub OnlyReadsFetch : Rules → Line → Type 0
OnlyReadsFetch rules line =
    (url size path : List ℕ) × IsFetchLine rules line url size path
    × ((u s p : List ℕ) → IsFetchLine rules line u s p → (u ≡ url) × (s ≡ size) × (p ≡ path))
    × ((reason : Reason) → ¬ (HasFetchReason rules line reason))

abbrev pub HasOnlyFetchReason : Rules → Line → Type 0
HasOnlyFetchReason rules line =
    (reason : Reason) × HasFetchReason rules line reason
    × ((other : Reason) → HasFetchReason rules line other → other ≡ reason)
    × ((url size path : List ℕ) → ¬ (IsFetchLine rules line url size path))

-- the law: a line that isn't blank reads in one way, or has one reason why it doesn't
abbrev pub FetchLinesReadOrHaveOneReason : Type 0
FetchLinesReadOrHaveOneReason = (rules : Rules) (line : Line) → is_blank_line line ≡ false
    → OnlyReadsFetch rules line ⊎ HasOnlyFetchReason rules line
