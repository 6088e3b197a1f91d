-- What the two lines of the declaration are made of (RFC 8493, 2.1.1), and the laws that their
-- definitions keep.
use Rattle.std.specs.Prelude.{ℕ, ◌≡◌, ◌≢◌, ◌⊎◌, ◌↔◌, ◌++◌, not, List, [], Some, codes, IsTrue}
use Rattle.std.specs.List.{list_all}
use Rattle.bag_text.specs.Bytes.{Content, Line}
use Rattle.bag_text.specs.Lines.{lines_of_file, IsLine}
use Rattle.bag_text.specs.Text.{is_blank}
use Rattle.bag_text.specs.declared.code.Code.TheVariants.{DeclarationLine}
use Rattle.bag_read.specs.LineFault.{line_fault}
use Rattle.bag_read.specs.LineParts.{AreDigits}
use Rattle.bag_read.specs.Declaration.{version_of, encoding_of, IsDeclarationFault}

-- the label, then digits, a dot and digits
abbrev pub IsVersionLine : Line → List ℕ → Type 0
IsVersionLine line version =
    (line ≡ codes "BagIt-Version: " ++ version)
    × ((major minor : List ℕ) × AreDigits major × AreDigits minor
    × (version ≡ major ++ codes "." ++ minor))

-- the label, then one or more characters without a blank
abbrev pub IsEncodingLine : Line → List ℕ → Type 0
IsEncodingLine line encoding =
    (line ≡ codes "Tag-File-Character-Encoding: " ++ encoding)
    × (encoding ≢ []) × IsTrue (list_all (λ c. not (is_blank c)) encoding)

-- the laws: a line declares a version, or an encoding, just where it is made so
abbrev pub VersionLinesReadAsTheirParts : Type 0
VersionLinesReadAsTheirParts = (line : Line) (version : List ℕ)
    → (version_of line ≡ Some version) ↔ IsVersionLine line version

abbrev pub EncodingLinesReadAsTheirParts : Type 0
EncodingLinesReadAsTheirParts = (line : Line) (encoding : List ℕ)
    → (encoding_of line ≡ Some encoding) ↔ IsEncodingLine line encoding

-- the fault of a line that isn't made so
abbrev pub IsFaulty : Content → ℕ → Type 0
IsFaulty bytes number = IsDeclarationFault bytes (line_fault number DeclarationLine [])

-- line `number` declares just one text, and isn't faulty
abbrev pub DeclaresOne : (Line → List ℕ → Type 0) → Content → ℕ → Line → Type 0
DeclaresOne Declares bytes number line =
    (text : List ℕ) × Declares line text × ((other : List ℕ) → Declares line other → other ≡ text)
    × ¬ (IsFaulty bytes number)

-- it is faulty, and declares none
abbrev pub DeclaresNone : (Line → List ℕ → Type 0) → Content → ℕ → Line → Type 0
DeclaresNone Declares bytes number line =
    IsFaulty bytes number × ((text : List ℕ) → ¬ (Declares line text))

abbrev pub DeclaresOrIsFaulty : (Line → List ℕ → Type 0) → ℕ → Type 0
DeclaresOrIsFaulty Declares number =
    (bytes line : List ℕ) → IsLine (lines_of_file bytes) number line
    → DeclaresOne Declares bytes number line ⊎ DeclaresNone Declares bytes number line

-- the law: line 1 declares one version, or is faulty, and line 2 one encoding
abbrev pub LinesDeclareOrAreFaulty : Type 0
LinesDeclareOrAreFaulty = DeclaresOrIsFaulty IsVersionLine 1 × DeclaresOrIsFaulty IsEncodingLine 2
