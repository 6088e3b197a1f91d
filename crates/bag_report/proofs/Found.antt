-- A fault of a bag is one of the set of its stage, and each set has faults of its stage.
use Rattle.bag_report.proofs.Common.{◌≡◌, ◌≢◌, inl, inr, ℕ, zero, suc, List, [], Option, Bool, arith, ap, sym, ◌∙◌}
use Rattle.bag_report.proofs.Common.{subst, stage, IsListOf, nothing_listed, same_members, Bag, fault_cmp, Fault}
use Rattle.bag_report.proofs.Common.{IsOfCompleteness, IsSoughtInStageSix, IsOfConformance}
use Rattle.bag_report.proofs.Common.{conformance_faults_are_of_stage_eight, Profile, IsOfDeclaration, IsOfFetch}
use Rattle.bag_report.proofs.Common.{IsOfManifests, IsOfMetadata, IsOfParts, IsOfValidity, IsFoundAt, Is}
use Rattle.bag_stages.proofs.CompletenessFaults.{completeness_of_stage_six}
use Rattle.bag_stages.proofs.DeclarationFaults.{declaration_of_stage_one}
use Rattle.bag_stages.proofs.FetchFaults.{fetch_of_stage_four}
use Rattle.bag_stages.proofs.ManifestFaults.{manifests_of_stage_five}
use Rattle.bag_stages.proofs.MetadataFaults.{metadata_of_stage_three}
use Rattle.bag_stages.proofs.PartFaults.{parts_of_stage_two}
use Rattle.bag_stages.proofs.ValidityFaults.{validity_of_stage_seven}

-- the first of a row, or one of the others, by its number from 0
abbrev pick : {A : Type 1} → A → (ℕ → A) → ℕ → A
pick first others zero = first
pick first others (suc k) = others k

-- the set of a stage
abbrev IsOf : Bag → Option Profile → ℕ → Fault → Type 0
IsOf bag profile =
    pick (λ f. ⊥) (pick (IsOfDeclaration bag)
    (pick (IsOfParts bag)
    (pick (IsOfMetadata bag)
    (pick (IsOfFetch bag)
    (pick (IsOfManifests bag)
    (pick (IsOfCompleteness bag)
    (pick (IsOfValidity bag) (pick (IsOfConformance bag profile) (λ k f. ⊥)))))))))

module _ (bag : Bag) (profile : Option Profile) (f : Fault) where
  -- what the set of a stage has is a fault of the bag, of this stage
  found_at : (k : ℕ) → IsOf bag profile k f → Is bag profile f × (stage f.code ≡ k)
  unfolding Is
  found_at k h =
      grind (
        arith,
        declaration_of_stage_one,
        parts_of_stage_two,
        metadata_of_stage_three,
        fetch_of_stage_four,
        manifests_of_stage_five,
        completeness_of_stage_six,
        validity_of_stage_seven,
        conformance_faults_are_of_stage_eight,
      )

  of_its_stage : (k : ℕ) → IsOf bag profile k f → IsOf bag profile (stage f.code) f
  of_its_stage k h = subst (λ n. IsOf bag profile n f) (sym (found_at k h).1) h

  in_its_stage : Is bag profile f → IsOf bag profile (stage f.code) f
  unfolding Is
  in_its_stage (inl h) = of_its_stage 1 h
  in_its_stage (inr (inl h)) = of_its_stage 2 h
  in_its_stage (inr (inr (inl h))) = of_its_stage 3 h
  in_its_stage (inr (inr (inr (inl h)))) = of_its_stage 4 h
  in_its_stage (inr (inr (inr (inr (inl h))))) = of_its_stage 5 h
  in_its_stage (inr (inr (inr (inr (inr (inl h)))))) = of_its_stage 6 h
  in_its_stage (inr (inr (inr (inr (inr (inr (inl h))))))) = of_its_stage 7 h
  in_its_stage (inr (inr (inr (inr (inr (inr (inr h))))))) = of_its_stage 8 h

  -- of the seventh stage are the faults of validity
  pub of_validity : Is bag profile f → stage f.code ≡ 7 → IsOfValidity bag f
  of_validity h e = subst (λ n. IsOf bag profile n f) e (in_its_stage h)

  pub is_of_validity : IsOfValidity bag f → Is bag profile f
  is_of_validity h = (found_at 7 h).0

  -- and of the sixth those of completeness and of names
  pub of_completeness : Is bag profile f → stage f.code ≡ 6 → IsOfCompleteness bag f
  of_completeness h e = subst (λ n. IsOf bag profile n f) e (in_its_stage h)

  pub is_of_completeness : IsOfCompleteness bag f → Is bag profile f
  is_of_completeness h = (found_at 6 h).0

-- the list of a stage's set has the faults of the bag that are of the stage
module _ (clashes : Bool) (bag : Bag) (profile : Option Profile) (faults : List Fault) where
  pub stage_found : (k : ℕ) → k ≢ 6 → IsListOf fault_cmp (IsOf bag profile k) faults
      → IsListOf fault_cmp (IsFoundAt clashes bag profile k) faults
  stage_found k other list =
      same_members fault_cmp (IsOf bag profile k) _ faults
      (λ f h. let is = found_at bag profile f k h in (is.0, is.1, λ clash. absurd (other (sym is.1 ∙ ap stage clash))))
      (λ f h. subst (λ n. IsOf bag profile n f) h.1 (in_its_stage bag profile f h.0))
      list

  -- of the sixth those that are looked for
  pub stage_six : IsListOf fault_cmp (IsSoughtInStageSix clashes bag) faults
      → IsListOf fault_cmp (IsFoundAt clashes bag profile 6) faults
  stage_six =
      same_members fault_cmp (IsSoughtInStageSix clashes bag) _ faults
      (λ f h. let is = found_at bag profile f 6 h.0 in (is.0, is.1, h.1)) (λ f h.
      (subst (λ n. IsOf bag profile n f) h.1 (in_its_stage bag profile f h.0), h.2))

  -- and no other number has faults
  pub no_stage : (k : ℕ) → k ≢ 1 → k ≢ 2 → k ≢ 3 → k ≢ 4 → k ≢ 5 → k ≢ 6 → k ≢ 7 → k ≢ 8 → faults ≡ []
      → IsListOf fault_cmp (IsFoundAt clashes bag profile k) faults
  unfolding Is
  no_stage k one two three four five six seven eight none = rw none (nothing_listed fault_cmp _
      (λ f h. grind (
        arith,
        declaration_of_stage_one,
        parts_of_stage_two,
        metadata_of_stage_three,
        fetch_of_stage_four,
        manifests_of_stage_five,
        completeness_of_stage_six,
        validity_of_stage_seven,
        conformance_faults_are_of_stage_eight,
      )))
