-- What is read of an object is in the order of its keys.
use Rattle.std.proofs.Common.{arith}
use Rattle.bag_profile.proofs.Common.{◌≡◌, ℕ, List, [], ◌∷◌, Option, Some, None, String, Global, refl, sym, ap, subst}
use Rattle.bag_profile.proofs.Common.{◌∙◌, string_bytes, ForSome, option_map, option_and_then, AllByRecursion, Less}
use Rattle.bag_profile.proofs.Common.{Data, Members, no_members, member, members_view, text_cmp, LabelRule}
use Rattle.bag_profile.proofs.Common.{AreLabelsOrderly, labels, label_rules_of, keys, IsAscending}
use Rattle.std.specs.List.Sorted.{IsStrictlySortedBy}
use Rattle.std.specs.Map.{keys_of}
use Rattle.std.specs.String.{string_cmp}
use Rattle.std.proofs.lemmas.List.Kept.{IsStrictlySortedBy-filter}
use Rattle.serde_json.specs.declared.value.Value.{Value}
use Rattle.bag_profile.specs.Label.{label_rule}
use Rattle.bag_profile.specs.Unchecked.{unchecked_of}
use Rattle.bag_profile.specs.TextSet.{texts}
use Rattle.bag_profile.proofs.TextSets.{ascending_with_texts, ascending_nothing}

abbrev Entry : Type 0
Entry = String Global × Value

below_keys : (e : Entry) (es : List Entry) → AllByRecursion (λ k. string_cmp e.0 k ≡ Less) (keys_of es)
    → AllByRecursion (λ t. text_cmp (string_bytes e.0) t ≡ Less) (keys (members_view es))
below_keys e [] all = tt
below_keys e (f ∷ es) all = (all.0, below_keys e es all.1)

-- the keys of a map ascend as texts
pub keys_ascend : (es : List Entry) → IsStrictlySortedBy string_cmp (keys_of es) → IsAscending (keys (members_view es))
unfolding IsStrictlySortedBy
keys_ascend [] up = tt
keys_ascend (e ∷ es) up = (below_keys e es up.0, keys_ascend es up.1)

pub unchecked_ascend : (es : List Entry) → IsStrictlySortedBy string_cmp (keys_of es)
    → IsAscending (unchecked_of (members_view es))
unfolding unchecked_of
unchecked_ascend es up = IsStrictlySortedBy-filter text_cmp _ (keys (members_view es)) (keys_ascend es up)

texts_ascend : (d : Data) → ForSome (texts d) IsAscending
unfolding texts
texts_ascend d = grind (arith, ascending_with_texts, ascending_nothing)

rule_is : (label : List ℕ) (d : Data) (rule : LabelRule) → label_rule label d ≡ Some rule
    → (rule.label ≡ label) × IsAscending rule.values
unfolding label_rule
rule_is label d rule e = grind (arith, ascending_nothing, texts_ascend)

abbrev AreRules : Members → List LabelRule → Type 0
AreRules ms rules = (labels rules ≡ keys ms) × AllByRecursion (λ rule. IsAscending rule.values) rules

more_rules : (label : List ℕ) (ms : Members) (first : Option LabelRule) (rest : Option (List LabelRule))
    (rules : List LabelRule)
    → ((rule : LabelRule) → first ≡ Some rule → (rule.label ≡ label) × IsAscending rule.values)
    → ((more : List LabelRule) → rest ≡ Some more → AreRules ms more)
    → (d : Data) → option_and_then (λ rule. option_map (λ more. rule ∷ more) rest) first ≡ Some rules
    → AreRules (member label d ms) rules
more_rules label ms None rest rules one more d e = absurd (cc)
more_rules label ms (Some rule) None rules one more d e = absurd (cc)
more_rules label ms (Some rule) (Some others) rules one more d e =
    let is : rule ∷ others ≡ rules = cc in
    let here = one rule refl in
    let there = more others refl in
    subst (AreRules (member label d ms)) is (
      ap (λ x. x ∷ labels others) here.0 ∙ ap (λ x. label ∷ x) there.0,
      (here.1, there.1),
    )

rules_are : (ms : Members) (rules : List LabelRule) → label_rules_of ms ≡ Some rules → AreRules ms rules
rules_are no_members rules e = let is : [] ≡ rules = cc in subst (AreRules no_members) is (refl, tt)
rules_are (member label d ms) rules e =
    more_rules label ms (label_rule label d) (label_rules_of ms) rules (λ rule is. rule_is label d rule is)
    (λ more is. rules_are ms more is) d e

pub rules_orderly : (es : List Entry) (rules : List LabelRule) → IsStrictlySortedBy string_cmp (keys_of es)
    → label_rules_of (members_view es) ≡ Some rules → AreLabelsOrderly rules
rules_orderly es rules up e =
    let are = rules_are (members_view es) rules e in (subst IsAscending (sym are.0) (keys_ascend es up), are.1)

pub no_rules : AreLabelsOrderly []
no_rules = (ascending_nothing, tt)
