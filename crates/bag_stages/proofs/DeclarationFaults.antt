-- The faults of the declaration.
use Rattle.bag_stages.proofs.Common.{arith, ◌≡◌, ◌↔◌, ◌⊎◌, inl, inr, ℕ, List, [], ◌∷◌, None, Some, true, map, refl, ap}
use Rattle.bag_stages.proofs.Common.{sym, subst, is_some, stage, IsListOf, Code, NoDeclaration, DeclarationNotUtf8}
use Rattle.bag_stages.proofs.Common.{one_listed, same_members, Bag, LacksFile, file, AreFaults, LineFault}
use Rattle.bag_stages.proofs.Common.{DeclarationFault, IsDeclarationFault, of_path, Fault, fault_cmp, InDeclaration}
use Rattle.bag_stages.proofs.Common.{FaultsAreOfStage, in_file, in_line, bagit_txt}
use Rattle.bag_stages.specs.DeclarationStage.{DeclarationHolds, IsOfDeclaration}
use Rattle.bag_stages.proofs.FaultFields.{has_fields, made_of}
use Rattle.bag_stages.proofs.InFile.{IsOfLine, lines_listed}

-- what is wrong with a declaration is found at the first stage
declaration_stage : (c : Code) (bytes : List ℕ) (f : LineFault) → DeclarationFault c bytes f → stage c ≡ 1
declaration_stage DeclarationNotUtf8 bytes f h = refl
declaration_stage c bytes f h = grind arith

pub line_tells : (bytes : List ℕ) (x : LineFault) → IsDeclarationFault bytes x → (stage x.code ≡ 1) ↔ (true ≡ true)
line_tells bytes x h = (λ s. refl, λ e. declaration_stage x.code bytes x h)

abbrev pub no_declaration : Fault
no_declaration = of_path NoDeclaration bagit_txt None []

-- what the codes of the stage say
module _ (bag : Bag) (f : Fault) where
  -- the declaration isn't there, or something is wrong with it
  abbrev pub IsNone : Type 0
  IsNone = LacksFile bag bagit_txt × (f ≡ no_declaration)

  abbrev pub OfLine : Type 0
  OfLine = IsOfLine bag bagit_txt None 1 IsDeclarationFault f

  some_of_holds : (c : Code) → f.code ≡ c → DeclarationHolds bag f c → IsNone ⊎ OfLine
  unfolding DeclarationHolds
  some_of_holds NoDeclaration e (at, lacks) = inl (lacks, made_of f NoDeclaration bagit_txt None 0 [] e at)
  some_of_holds c e h = grind arith

  pub of_some : IsOfDeclaration bag f → IsNone ⊎ OfLine
  unfolding IsOfDeclaration
  of_some h = some_of_holds f.code refl h

  holds_of_file : (c : Code) (bytes : List ℕ) → DeclarationFault c bytes (in_line f) → InDeclaration bag f
      → DeclarationHolds bag f c
  unfolding DeclarationHolds
  holds_of_file NoDeclaration bytes h i = absurd h
  holds_of_file c bytes h i = grind arith

  pub some_is : IsNone ⊎ OfLine → IsOfDeclaration bag f
  unfolding IsOfDeclaration DeclarationHolds
  some_is (inl (lacks, is)) =
      subst (DeclarationHolds bag f) (sym (ap (λ (x : Fault). x.code) is))
      (has_fields f NoDeclaration bagit_txt None 0 [] is, lacks)
  some_is (inr (i, s)) = holds_of_file f.code i.2.0 i.2.2 i

pub declaration_of_stage_one : FaultsAreOfStage 1 IsOfDeclaration
declaration_of_stage_one bag f h =
    elim (of_some bag f h) [ inl none ↦ ap (λ (x : Fault). stage x.code) none.1 | inr line ↦ line.1 ]

module _ (bag : Bag) where
  -- the declaration is there
  pub declared_listed : (bytes : List ℕ) (lines : List LineFault) → file bag bagit_txt ≡ Some bytes
      → AreFaults (IsDeclarationFault bytes) lines
      → IsListOf fault_cmp (IsOfDeclaration bag) (map (in_file bagit_txt None) lines)
  declared_listed bytes lines there list =
      same_members fault_cmp _ _ (map (in_file bagit_txt None) lines) (λ f h. some_is bag f (inr h)) (λ f h.
      grind (arith, of_some bag f h))
      (lines_listed bag bagit_txt None 1 IsDeclarationFault (λ b. true) line_tells bytes true lines there refl list)

  -- there is no declaration
  pub missing_listed : file bag bagit_txt ≡ None → IsListOf fault_cmp (IsOfDeclaration bag) (no_declaration ∷ [])
  missing_listed none =
      one_listed fault_cmp _ no_declaration (some_is bag no_declaration (inl (ap is_some none, refl))) (λ f h.
      grind (arith, of_some bag f h))
