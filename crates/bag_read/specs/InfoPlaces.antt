-- The place of each line of bag-info.txt, seen backwards from the line (RFC 8493, 2.2.2).
use Rattle.std.specs.Prelude.{ℕ, ◌-◌, ◌≡◌, ◌<◌, ◌⊎◌, true, false, List, Some, map, slice_get}
use Rattle.std.specs.Ordering.{nat_cmp}
use Rattle.bag_text.specs.Bytes.{Content, Line}
use Rattle.bag_text.specs.Text.{is_blank_line}
use Rattle.bag_text.specs.Lines.{lines_of_file, IsLine}
use Rattle.bag_text.specs.Order.{IsListOf}
use Rattle.bag_text.specs.declared.rules.Rules.{Rules}
use Rattle.bag_read.specs.Info.{is_continuation, begins_element, continuations, IsElement}
use Rattle.bag_read.specs.Info.{IsInfoFault}
use Rattle.bag_read.specs.declared.line_fault.LineFault.{LineFault}
use Rattle.bag_read.specs.declared.info.Element.{Element}

-- line j is the nearest line before line k that is neither blank nor a continuation
abbrev pub IsLineAbove : List Line → ℕ → ℕ → Type 0
IsLineAbove all k j =
    (j < k)
    × ((line : List ℕ) × IsLine all j line × (begins_element line ≡ true))
    × ((i : ℕ) (line : List ℕ) → j < i → i < k → IsLine all i line → begins_element line ≡ false)

-- line k is a continuation below line j
abbrev pub Continues : List Line → ℕ → ℕ → Type 0
Continues all k j =
    ((line : List ℕ) × IsLine all k line × (is_continuation line ≡ true)) × IsLineAbove all k j

-- line k is the first line of an element
abbrev pub IsFirstOf : Rules → List Line → ℕ → Element → Type 0
IsFirstOf rules all k e = IsElement rules all e × (e.line ≡ k)

-- line k goes on with an element
abbrev pub IsPartOf : Rules → List Line → ℕ → Element → Type 0
IsPartOf rules all k e = IsElement rules all e × Continues all k e.line

-- line k is wrong
abbrev pub IsFaultOf : Rules → Content → ℕ → LineFault → Type 0
IsFaultOf rules bytes k f = IsInfoFault rules bytes f × (f.line ≡ k)

-- line k is a continuation below a line that is wrong
abbrev pub IsPassedOver : Rules → Content → ℕ → LineFault → Type 0
IsPassedOver rules bytes k f = IsInfoFault rules bytes f × Continues (lines_of_file bytes) k f.line

-- just one of four
abbrev pub IsJustOne : Type 0 → Type 0 → Type 0 → Type 0 → Type 0
IsJustOne a b c d =
    (a ⊎ (b ⊎ (c ⊎ d)))
    × (a → b → ⊥)
    × (a → c → ⊥)
    × (a → d → ⊥)
    × (b → c → ⊥)
    × (b → d → ⊥)
    × (c → d → ⊥)

-- the law: a line that isn't blank is the first of an element, goes on with one, is wrong, or is
-- passed over
abbrev pub EachLineHasOnePlace : Type 0
EachLineHasOnePlace =
    (rules : Rules) (bytes : Content) (k : ℕ) (line : Line) → IsLine (lines_of_file bytes) k line
    → is_blank_line line ≡ false
    → IsJustOne
    ((e : Element) × IsFirstOf rules (lines_of_file bytes) k e)
    ((e : Element) × IsPartOf rules (lines_of_file bytes) k e)
    ((f : LineFault) × IsFaultOf rules bytes k f)
    ((f : LineFault) × IsPassedOver rules bytes k f)

-- the law: a line is of one element at most
abbrev pub EachLineIsOfOneElement : Type 0
EachLineIsOfOneElement =
    (rules : Rules) (all : List Line) (k : ℕ) (d e : Element)
    → IsFirstOf rules all k d ⊎ IsPartOf rules all k d
    → IsFirstOf rules all k e ⊎ IsPartOf rules all k e → d ≡ e

-- the law: of a line that begins an element, the lines that go on below it are its continuations,
-- in their order
abbrev pub ContinuationsAreBelow : Type 0
ContinuationsAreBelow =
    (all : List Line) (j : ℕ)
    → (line : List ℕ) × IsLine all j line × (begins_element line ≡ true)
    → (ks : List ℕ) × IsListOf nat_cmp (λ k. Continues all k j) ks
    × (map (λ k. slice_get all (k - 1)) ks ≡ map Some (continuations all j))
