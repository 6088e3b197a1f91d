-- Arguments that are added to a command.
use Rattle.bag_words.proofs.Common.{◌≡◌, ◌∙◌, List, [], ◌∷◌, false, refl, ap₂, fold, map, AddsArg, App, Rule}
use Rattle.bag_words.proofs.Common.{app_of, rule_of, with_rule, Arg, Command, with_rules}

-- one argument more, of which the rule is known
pub added : {old new : Command} {a : Arg} {app : App} {rule : Rule} → AddsArg old a new → a.global ≡ false
    → app_of old ≡ app → rule_of a ≡ rule → app_of new ≡ with_rule app rule
added adds global is rule_is = adds.shape global ∙ ap₂ with_rule is rule_is

-- rules that are added one by one
pub with_rules-map : {X : Type 0} (rule : X → Rule) (app : App) (xs : List X)
    → fold (λ (a : App) (x : X). with_rule a (rule x)) app xs ≡ with_rules app (map rule xs)
with_rules-map rule app [] = refl
with_rules-map rule app (x ∷ xs) = with_rules-map rule (with_rule app (rule x)) xs
