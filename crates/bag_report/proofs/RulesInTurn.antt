-- The faults of rules, found one rule after the other.
use Rattle.bag_report.proofs.Conforming.{◌≡◌, ◌<◌, ◌+◌, ◌-◌, ◌++◌, ℕ, List, length, take, drop, map, get_or, false}
use Rattle.bag_report.proofs.Conforming.{append-nil, length-drop, arith, Bor, flat_map-append, Element, take_one_more}
use Rattle.bag_report.proofs.Conforming.{take_whole, LabelRule, labelled, later_fault, lent, repeated_faults}
use Rattle.bag_report.proofs.Conforming.{rule_faults, rules_faults}

-- one rule more
pub one_rule_more : (elements : List Element) (rules : List LabelRule) (i : ℕ) (rule : LabelRule) → i < length rules
    → rule ≡ get_or rules i rule
    → rules_faults elements (take (i + 1) rules)
    ≡ rules_faults elements (take i rules) ++ rule_faults rule (labelled rule.label elements)
one_rule_more elements rules i rule lt is = grind (arith, take_one_more rules i rule lt is, flat_map-append, append-nil)

-- what stands there again, where one may stand there
pub later_repeated : (rule : LabelRule) (found : List (Bor Element)) → rule.repeatable ≡ false
    → map (later_fault rule.label) (lent (take (length found - 1) (drop 1 found))) ≡ repeated_faults rule (lent found)
later_repeated rule found once = grind (arith, take_whole, length-drop)
