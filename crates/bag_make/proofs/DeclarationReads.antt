-- Stage 1: the declaration of a made bag has no fault.
use Rattle.bag_make.proofs.Common.{◌≡◌, true, false, List, is_some, refl, ap, sym, ◌∙◌, subst, Alg, Code, NoDeclaration}
use Rattle.bag_make.proofs.Common.{IsDeclarationFault, Declaration, Bag, Fault, in_line, NewElement, made}
use Rattle.bag_make.proofs.Common.{DeclarationIsReadAgain}
use Rattle.bag_stages.specs.DeclarationStage.{InDeclaration, DeclarationHolds, IsOfDeclaration}
use Rattle.bag_tags.specs.Declaration.{declaration_text}
use Rattle.bag_make.proofs.Held.{tag_held, tag_there}

module _ (reads : DeclarationIsReadAgain) (bag : Bag) (algs : List Alg) (info : List NewElement) (f : Fault) where
  reads_well : InDeclaration (made bag algs info) f → ⊥
  reads_well (at, alg, (bytes, held, wrong)) =
      reads.2 (in_line f)
      (subst (λ b. IsDeclarationFault b (in_line f)) (tag_held bag algs info Declaration bytes held) wrong)

  by_code : (code : Code) → DeclarationHolds (made bag algs info) f code → ⊥
  unfolding DeclarationHolds
  by_code NoDeclaration (at, lacks) =
      (let clash : true ≡ false = sym (ap is_some (tag_there bag algs info Declaration declaration_text refl)) ∙ lacks
      in cc)
  by_code _ h = search reads_well

  pub no_declaration_fault : IsOfDeclaration (made bag algs info) f → ⊥
  unfolding IsOfDeclaration
  no_declaration_fault h = by_code f.code h
