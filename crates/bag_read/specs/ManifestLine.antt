-- What a line of a manifest is made of (RFC 8493, 2.1.3 and 2.2.1), and the laws that its
-- definition keeps.
use Rattle.std.specs.Prelude.{ℕ, ◌≡◌, ◌≢◌, ◌⊎◌, ◌↔◌, false, List, length, codes, IsTrue}
use Rattle.std.specs.Char.{is_ascii_hexdigit}
use Rattle.std.specs.List.{list_all}
use Rattle.std.specs.Str.{str_to_ascii_lowercase}
use Rattle.bag_text.specs.Bytes.{Digest, Line, Path}
use Rattle.bag_text.specs.Alg.{hex_len}
use Rattle.bag_text.specs.Path.{is_path, is_payload_path}
use Rattle.bag_text.specs.Spells.{Spells}
use Rattle.bag_text.specs.Text.{is_blank_line}
use Rattle.bag_text.specs.declared.rules.Rules.{Rules}
use Rattle.bag_text.specs.declared.alg.Alg.{Alg}
use Rattle.bag_read.specs.LineParts.{IsCutAtBlanks, IsWithout}
use Rattle.bag_read.specs.Reason.{Reason}
use Rattle.bag_read.specs.Manifest.{ReadsManifest, HasManifestReason}
use Rattle.bag_read.specs.ManifestName.{manifest_name, is_alg_text}
use Rattle.bag_read.specs.declared.kind.Kind.{Kind}
use Rattle.bag_read.specs.declared.kind.Kind.TheVariants.{Payload, Tag}

-- how the path is written: after one *, as md5sum -b has it, and then one ./
abbrev pub IsSpelling : List ℕ → List ℕ → Type 0
IsSpelling rest spelling =
    (unmarked : List ℕ) × IsWithout (codes "*") rest unmarked
    × IsWithout (codes "./") unmarked spelling

-- a payload manifest may name payload files, and a tag manifest other files, but no tag manifest
abbrev pub MayName : Kind → Path → Type 0
MayName Payload path = IsTrue (is_payload_path path)
MayName Tag path =
    (is_payload_path path ≡ false)
    × ((alg : List ℕ) → IsTrue (is_alg_text alg) → path ≢ manifest_name Tag alg)

-- the line is a digest of the algorithm, blanks, and a spelling of a path that a manifest of this
-- kind may name
pub record IsManifestLine (rules : Rules) (kind : Kind) (alg : Alg)
    (line : Line) (digest : Digest) (path : Path) : Type 0 where
  pub hex : List ℕ
  pub rest : List ℕ
  pub spelling : List ℕ
  pub parts : IsCutAtBlanks line hex rest
  pub only_digits : IsTrue (list_all is_ascii_hexdigit hex)
  pub hex_length : length hex ≡ hex_len alg
  pub in_lower_case : digest ≡ str_to_ascii_lowercase hex
  pub written : IsSpelling rest spelling
  pub spelled : Spells rules spelling path
  pub is_safe : IsTrue (is_path path)
  pub may_name : MayName kind path

-- the law: a line reads just as it is made of these
abbrev pub ManifestLinesReadAsTheirParts : Type 0
ManifestLinesReadAsTheirParts =
    (rules : Rules) (kind : Kind) (alg : Alg) (line : Line) (digest : Digest) (path : Path)
    → ReadsManifest rules kind alg line digest path ↔ IsManifestLine rules kind alg line digest path

abbrev pub OnlyReadsManifest : Rules → Kind → Alg → Line → Type 0
OnlyReadsManifest rules kind alg line =
    (digest path : List ℕ) × IsManifestLine rules kind alg line digest path
    × ((d p : List ℕ) → IsManifestLine rules kind alg line d p → (d ≡ digest) × (p ≡ path))
    × ((reason : Reason) → ¬ (HasManifestReason rules kind alg line reason))

abbrev pub HasOnlyManifestReason : Rules → Kind → Alg → Line → Type 0
HasOnlyManifestReason rules kind alg line =
    (reason : Reason) × HasManifestReason rules kind alg line reason
    × ((other : Reason) → HasManifestReason rules kind alg line other → other ≡ reason)
    × ((digest path : List ℕ) → ¬ (IsManifestLine rules kind alg line digest path))

-- the law: a line that isn't blank reads in one way, or has one reason why it doesn't
abbrev pub ManifestLinesReadOrHaveOneReason : Type 0
ManifestLinesReadOrHaveOneReason = (rules : Rules) (kind : Kind) (alg : Alg) (line : Line)
    → is_blank_line line ≡ false
    → OnlyReadsManifest rules kind alg line ⊎ HasOnlyManifestReason rules kind alg line
