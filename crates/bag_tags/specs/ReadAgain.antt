-- The laws of what is written: by the rules by which it was written it is read again as the same,
-- and nothing else, with no fault. The declaration that is written declares the rules of 1.0.
use Rattle.std.specs.Prelude.{ℕ, ◌≡◌, ◌+◌, ◌↔◌, false, List, Some, codes, map, slice_get, All}
use Rattle.std.specs.List.{enumerate_from, list_any}
use Rattle.bag_text.specs.Lines.{lines_of_file}
use Rattle.bag_text.specs.Text.{IsText, has_mark}
use Rattle.bag_text.specs.declared.rules.Rules.{Rules}
use Rattle.bag_text.specs.declared.rules.Rules.TheVariants.{V10}
use Rattle.bag_text.specs.declared.alg.Alg.{Alg}
use Rattle.bag_read.specs.Info.{IsElement, IsInfoFault}
use Rattle.bag_read.specs.InfoReader.{elements}
use Rattle.bag_read.specs.declared.line_fault.LineFault.{LineFault}
use Rattle.bag_read.specs.declared.info.Element.{Element}
use Rattle.bag_read.specs.Declaration.{declared_version, declared_encoding, IsDeclarationFault}
use Rattle.bag_read.specs.Manifest.{IsEntry, IsManifestFault}
use Rattle.bag_read.specs.declared.kind.Kind.{Kind}
use Rattle.bag_entries.specs.declared.entry.ManifestEntry.{ManifestEntry}
use Rattle.bag_tags.specs.Declaration.{declaration_text}
use Rattle.bag_tags.specs.Element.{AreTexts, NewElement, info_text, is_bad_element}
use Rattle.bag_tags.specs.Entry.{NewEntry, manifest_text_by}
use Rattle.bag_tags.specs.OnLines.{is_bad_long_element, text_on_lines}
use Rattle.bag_tags.specs.Writable.{CanWriteBy}

-- the declaration is read as version 1.0 and UTF-8, with no fault
abbrev pub DeclarationIsReadAgain : Type 0
DeclarationIsReadAgain =
    (declared_version declaration_text ≡ Some (codes "1.0"))
    × (declared_encoding declaration_text ≡ Some (codes "UTF-8"))
    × ((f : LineFault) → ¬ (IsDeclarationFault declaration_text f))

-- what stands on this line: the first on line 1, and each on a line of its own
abbrev pub StandsOn : List (List ℕ × List ℕ) → ℕ → List ℕ × List ℕ → Type 0
StandsOn items line item = (k : ℕ) × (line ≡ k + 1) × (slice_get items k ≡ Some item)

-- the metadata is read by these rules as these elements
abbrev pub InfoIsReadAgainBy : Rules → Type 0
InfoIsReadAgainBy rules =
    (elements : List NewElement) → All AreTexts elements → list_any is_bad_element elements ≡ false
    → ((e : Element)
    → IsElement rules (lines_of_file (info_text elements)) e
    ↔ StandsOn elements e.line (e.label, e.value))
    × ((f : LineFault) → ¬ (IsInfoFault rules (info_text elements) f))

-- the metadata is read as these elements
abbrev pub InfoIsReadAgain : Type 0
InfoIsReadAgain = InfoIsReadAgainBy V10

-- the elements that are read of bytes, in their order
abbrev pub elements_read : Rules → List ℕ → List NewElement
elements_read rules bytes =
    map {B = NewElement} (λ e. (e.label, e.value))
    (elements rules (enumerate_from 1 (lines_of_file bytes)))

-- metadata whose values stand over several lines is read by these rules as these elements
abbrev pub LongInfoIsReadAgainBy : Rules → Type 0
LongInfoIsReadAgainBy rules =
    (elements : List NewElement) → All AreTexts elements
    → list_any is_bad_long_element elements ≡ false
    → IsText (text_on_lines elements) × (elements_read rules (text_on_lines elements) ≡ elements)
    × ((f : LineFault) → ¬ (IsInfoFault rules (text_on_lines elements) f))

-- metadata whose values stand over several lines is read as these elements
abbrev pub LongInfoIsReadAgain : Type 0
LongInfoIsReadAgain = LongInfoIsReadAgainBy V10

-- An element that is read can be written again, but for a label that begins with a byte order mark.
abbrev pub ReadInfoCanBeWritten : Type 0
ReadInfoCanBeWritten =
    (rules : Rules) (bytes : List ℕ) (e : Element) → IsElement rules (lines_of_file bytes) e
    → has_mark e.label ≡ false
    → IsText e.label × IsText e.value × (is_bad_long_element (e.label, e.value) ≡ false)

-- a manifest that was written by these rules is read by them as these entries, and has no fault
abbrev pub IsReadAs : Rules → Kind → Alg → List NewEntry → Type 0
IsReadAs rules kind alg entries =
    ((e : ManifestEntry)
    → IsEntry rules kind alg (lines_of_file (manifest_text_by rules entries)) e
    ↔ StandsOn entries e.line (e.digest, e.path))
    × ((f : LineFault) → ¬ (IsManifestFault rules kind alg (manifest_text_by rules entries) f))

-- each manifest that can be written by these rules is read so
abbrev pub ManifestIsReadAgainBy : Rules → Type 0
ManifestIsReadAgainBy rules =
    (kind : Kind) (alg : Alg) (entries : List NewEntry) → All (λ entry. IsText entry.1) entries
    → CanWriteBy rules kind alg entries → IsReadAs rules kind alg entries

-- a manifest is read as these entries
abbrev pub ManifestIsReadAgain : Type 0
ManifestIsReadAgain = ManifestIsReadAgainBy V10
