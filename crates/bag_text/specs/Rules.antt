-- The rules of a version, and what of bag-info.txt they differ in (RFC 8493, 2.1.1 and 2.2.2). How
-- they spell a path stands in Spelling.
use Rattle.std.specs.Prelude.{ℕ, ◌||◌, Bool, true, List, [], Option, Some, None, bytes_eq, codes}
use Rattle.std.specs.Prelude.{if◌then◌else◌}
use Rattle.bag_text.specs.Text.{begins_with_blank, trim}
use Rattle.bag_text.specs.declared.rules.Rules.{Rules}
use Rattle.bag_text.specs.declared.rules.Rules.TheVariants.{V10, V097}

-- the rules of the version that a bag declares, if any: those of 1.0, but for 0.97
abbrev pub rules_of : Option (List ℕ) → Rules
rules_of None = V10
rules_of (Some version) = if bytes_eq version (codes "0.97") then V097 else V10

-- the label of what stands before the colon: by the rules of 0.97 without the blanks at its ends
abbrev pub label_of : Rules → List ℕ → List ℕ
label_of V10 t = t
label_of V097 t = trim t

-- after the colon stands nothing, or a blank
abbrev pub is_after_colon : List ℕ → Bool
is_after_colon t = bytes_eq t [] || begins_with_blank t

-- what may follow the colon: by the rules of 0.97 anything
abbrev pub may_follow_colon : Rules → List ℕ → Bool
may_follow_colon V10 t = is_after_colon t
may_follow_colon V097 t = true
