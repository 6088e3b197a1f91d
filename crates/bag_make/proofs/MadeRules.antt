-- A bag that was made is judged by the rules of 1.0.
use Rattle.bag_make.proofs.Common.{◌≡◌, ℕ, List, Option, refl, ap, ◌∙◌, option_and_then, V10, Alg, declared_version}
use Rattle.bag_make.proofs.Common.{Declaration, Bag, NewElement, declaration_again, made}
use Rattle.bag_text.specs.Rules.{rules_of}
use Rattle.bag_facts.specs.Facts.{rules_in}
use Rattle.bag_tags.specs.Declaration.{declaration_text}
use Rattle.bag_make.proofs.Held.{tag_there}

pub made_rules : (bag : Bag) (algs : List Alg) (info : List NewElement) → rules_in (made bag algs info) ≡ V10
unfolding rules_in
made_rules bag algs info =
    ap (λ (content : Option (List ℕ)). rules_of (option_and_then declared_version content))
    (tag_there bag algs info Declaration declaration_text refl)
    ∙ ap rules_of declaration_again.0
