-- The rules of a profile for the labels of `bag-info.txt` (BagIt Profiles Specification, Bag-Info;
-- RFC 8493, 2.2.2).
use Rattle.std.specs.Prelude.{ℕ, Bool, true, false, List, [], ◌∷◌, Option, Some, None, codes}
use Rattle.std.specs.Prelude.{is_some, if◌then◌else◌, map, option_map, option_and_then}
use Rattle.serde_json.specs.Data.{Data, Members, no_members, member}
use Rattle.serde_json.specs.Find.{get, as_bool, as_object}
use Rattle.bag_profile.specs.declared.label.LabelRule.{LabelRule}
use Rattle.bag_profile.specs.TextSet.{texts}

abbrev pub labels : List LabelRule → List (List ℕ)
labels rules = map (λ rule. rule.label) rules

-- what a value that may be absent is
abbrev pub optional : {A : Type 0} → A → (Data → Option A) → Option Data → Option A
optional default shape None = Some default
optional default shape (Some d) = shape d

-- a boolean that may be absent
abbrev pub flag : List ℕ → Bool → Data → Option Bool
flag key default d = optional default as_bool (get key d)

-- no list allows all values
abbrev pub allowed_values : Data → Option (List (List ℕ))
allowed_values d = optional [] texts (get (codes "values") d)

-- the rule of one label; the value is to be an object
unfoldable pub label_rule : List ℕ → Data → Option LabelRule
label_rule label d =
    if is_some (as_object d) then
    option_and_then (λ required.
    option_and_then (λ repeatable.
    option_map (λ values.
    record { label = label; required = required; repeatable = repeatable; values = values })
    (allowed_values d))
    (flag (codes "repeatable") true d))
    (flag (codes "required") false d)
    else None

abbrev pub label_rules_of : Members → Option (List LabelRule)
label_rules_of no_members = Some []
label_rules_of (member label x rest) =
    option_and_then (λ rule. option_map (λ rules. rule ∷ rules) (label_rules_of rest))
    (label_rule label x)

-- the rules of labels, in the order of the labels
unfoldable pub label_rules : Data → Option (List LabelRule)
label_rules d = option_and_then label_rules_of (as_object d)
