-- What the first line of an element is made of (RFC 8493, 2.2.2), the law that its definition
-- keeps, and what a line of bag-info.txt is.
use Rattle.std.specs.Prelude.{ℕ, ◌≡◌, ◌≢◌, ◌⊎◌, ◌↔◌, true, not, List, [], ◌∷◌, ◌++◌, Some, codes, ⊤}
use Rattle.std.specs.Prelude.{IsTrue, None}
use Rattle.std.specs.List.{list_all}
use Rattle.bag_text.specs.Bytes.{Line}
use Rattle.bag_text.specs.Text.{is_blank, trim, is_blank_line}
use Rattle.bag_text.specs.Trim.{EndsWithNoBlank}
use Rattle.bag_text.specs.declared.rules.Rules.{Rules}
use Rattle.bag_text.specs.declared.rules.Rules.TheVariants.{V10, V097}
use Rattle.bag_read.specs.Info.{is_colon, split, is_continuation, begins_element}
use Rattle.bag_read.specs.declared.info_line.LineKind.{LineKind}
use Rattle.bag_read.specs.declared.info_line.LineKind.TheVariants.{Blank, Continuation, First}
use Rattle.bag_read.specs.declared.info_line.LineKind.TheVariants.{Faulty}

-- the label is what stands before the colon; by the rules of 0.97 without the blanks at its ends
abbrev pub IsLabelIn : Rules → List ℕ → List ℕ → Type 0
IsLabelIn V10 before label = label ≡ before
IsLabelIn V097 before label = label ≡ trim before

-- after the colon the line ends, or a blank follows; by the rules of 0.97 anything may
abbrev pub MayFollow : Rules → List ℕ → Type 0
MayFollow V10 part = (part ≡ [])
    ⊎ ((c : ℕ) × (more : List ℕ) × (part ≡ c ∷ more) × (is_blank c ≡ true))
MayFollow V097 part = ⊤

-- the line is a label, its first colon, and what may follow; the label isn't empty and doesn't end
-- with a blank
pub record SplitsAs (rules : Rules) (line : Line) (label part : List ℕ) : Type 0 where
  pub before : List ℕ
  pub line_is : line ≡ before ++ codes ":" ++ part
  pub no_colon : IsTrue (list_all (λ c. not (is_colon c)) before)
  pub its_label : IsLabelIn rules before label
  pub some_label : label ≢ []
  pub no_blank_last : EndsWithNoBlank label
  pub follows : MayFollow rules part

-- the law: a line splits just as it is made of these
abbrev pub LinesSplitAsTheirParts : Type 0
LinesSplitAsTheirParts = (rules : Rules) (line : Line) (label part : List ℕ)
    → (split rules line ≡ Some (label, part)) ↔ SplitsAs rules line label part

abbrev pub HasKind : Rules → Line → LineKind → Type 0
HasKind rules line Blank = is_blank_line line ≡ true
HasKind rules line Continuation = is_continuation line ≡ true
HasKind rules line (First label part) =
    (begins_element line ≡ true) × (split rules line ≡ Some (label.now, part.now))
HasKind rules line Faulty = (begins_element line ≡ true) × (split rules line ≡ None)
