-- How the path of a file is spelled in a manifest by the rules of a version, and which can't be
-- (RFC 8493, 2.1.3).
use Rattle.std.specs.Prelude.{ℕ, ◌≡◌, ◌↔◌, ◌==◌, ◌&&◌, ◌||◌, Bool, false, List, [], ◌∷◌, codes}
use Rattle.std.specs.Prelude.{flat_map, if◌then◌else◌, is_some}
use Rattle.bag_text.specs.Bytes.{Path}
use Rattle.bag_text.specs.Escape.{escape}
use Rattle.bag_text.specs.Lines.{line_feed, carriage_return}
use Rattle.bag_text.specs.Spelling.{line_end, percent}
use Rattle.bag_text.specs.Spells.{Spells}
use Rattle.bag_text.specs.declared.rules.Rules.{Rules}
use Rattle.bag_text.specs.declared.rules.Rules.TheVariants.{V10, V097}

-- a character by the rules of 0.97: LF and CR escaped, in upper case
abbrev pub escape_line_end : ℕ → List ℕ
escape_line_end c =
    if c == line_feed then codes "%0A"
    else if c == carriage_return then codes "%0D"
    else c ∷ []

-- a path by the rules of 0.97
abbrev pub escape_line_ends : Path → List ℕ
escape_line_ends path = flat_map escape_line_end path

-- a path as it is spelled
abbrev pub spelled : Rules → Path → List ℕ
spelled V10 path = escape path
spelled V097 path = escape_line_ends path

-- the escape of LF or CR stands at the front: %0A or %0D, with hex digits of either case
abbrev pub begins_with_escape : List ℕ → Bool
begins_with_escape [] = false
begins_with_escape (c ∷ []) = false
begins_with_escape (c ∷ d ∷ []) = false
begins_with_escape (c ∷ d ∷ e ∷ t) = c == percent && is_some (line_end d e)

-- it stands anywhere
abbrev pub has_escape : List ℕ → Bool
has_escape [] = false
has_escape (c ∷ t) = begins_with_escape (c ∷ t) || has_escape t

-- A path that can't be spelled: by the rules of 0.97 one that has the escape of LF or CR in it,
-- which would be read as LF or CR.
abbrev pub is_unspelled : Rules → Path → Bool
is_unspelled V10 path = false
is_unspelled V097 path = has_escape path

-- the law: a path can be spelled just where some text spells it
abbrev pub UnspelledPathsHaveNoSpelling : Type 0
UnspelledPathsHaveNoSpelling =
    (rules : Rules) (path : Path)
    → (is_unspelled rules path ≡ false) ↔ ((s : List ℕ) × Spells rules s path)

-- the law: what is spelled is a spelling of the path, by the same rules
abbrev pub SpelledPathsAreReadAgain : Type 0
SpelledPathsAreReadAgain =
    (rules : Rules) (path : Path) → is_unspelled rules path ≡ false
    → Spells rules (spelled rules path) path
