-- What is left without a fault lacks no file of the payload.
use Rattle.bag_make.proofs.Common.{arith, ◌≡◌, ◌++◌, ◌∷◌, ◌-◌, ◌||◌, ℕ, zero, suc, inl, inr, Bool, true, false}
use Rattle.bag_make.proofs.Common.{List, [], Some, map, take, refl, sym, ◌∙◌, subst}
use Rattle.bag_make.proofs.Common.{slice_get, AllByRecursion, list_any, bytes_eq, false≢true}
use Rattle.bag_make.proofs.Common.{first_component, under, is_base_name, Alg, Fault, Bag, HasFile}
use Rattle.bag_make.proofs.Common.{IsBag, file, has_folder, files_of, create, make_folder, move_in}
use Rattle.bag_make.proofs.Common.{rename_folder, NewElement, File, data_folder, new_folder, new_tag_files}
use Rattle.bag_make.proofs.Common.{is_in_the_way, tops, steps, steps_for, new_file, after_steps, Leaves}
use Rattle.bag_make.proofs.Common.{MakeFault, Step, Create, MoveIn, Rename, full}
use Rattle.std.proofs.Math.Bool.{or-false, or_assoc}
use Rattle.bag_stages.specs.DeclarationStage.{DeclarationHolds, IsOfDeclaration}
use Rattle.bag_stages.specs.TagFiles.{bagit_txt}
use Rattle.bag_report.specs.Report.{asks, Is}
use Rattle.bag_make.specs.Remainder.{LacksNoPayload, IsInPayload, NewBagsLackNoFile, RemaindersLackNoPayload}
use Rattle.bag_make.specs.declared.fault.MakeFault.TheVariants as fault_of
use Rattle.bag_make.proofs.Outlasting.{AreTagFiles, CanBeMadeBy}
use Rattle.bag_make.proofs.Placed.{IsPlaced, IsTop, placed_by, with_name, moved_placed, goes_on, apart}
use Rattle.bag_make.proofs.Placed.{all_under_data}
use Rattle.bag_make.proofs.Made.{leaves_bag}
use Rattle.bag_make.proofs.PowerCut.{can_be_made}
use Rattle.bag_make.proofs.Common.{IsTrue, MayRefuseMaking, TreeState}
use Rattle.bag_make.proofs.Told.{IsTold, told_lacks, itself_told, moving_told, gone_on, created_all, none_reported}

-- after the first k of these steps, and where the file is begun that the next one makes
abbrev Leftover : Bag → List Step → Bag → ℕ → Type 0
Leftover bag steps b k = IsTold bag (after_steps (take k steps) b)
    × ((name bytes : List ℕ) (count : ℕ) → slice_get steps k ≡ Some (Create name bytes)
    → IsTold bag (create name (take count bytes) (after_steps (take k steps) b)))

module _ (bag : Bag) where
  files_left : (tags : List File) (b : Bag) → AreTagFiles tags → IsInPayload bag b → (k : ℕ)
      → Leftover bag (map new_file tags) b k
  files_left [] b are all zero = ((λ there. inl all), λ name bytes count next. cc)
  files_left [] b are all (suc k) = ((λ there. inl all), λ name bytes count next. cc)
  files_left (e ∷ tags) b are all zero = (
    (λ there. inl all),
    λ name bytes count next there.
        let same : e.0 ≡ name = cc in
        inl (created_all bag b name (take count bytes) (subst (λ n. is_base_name n ≡ true) same are.0.0) all),
  )
  files_left (e ∷ tags) b are all (suc k) =
      files_left tags (create e.0 e.1 b) are.1 (created_all bag b e.0 e.1 are.0.0 all) k

  module _ (free : is_in_the_way bag ≡ false) (tags : List File) (are_tags : AreTagFiles tags) where
    named_left : (b : Bag) → IsTold bag b → IsInPayload bag (rename_folder new_folder data_folder b) → (k : ℕ)
        → Leftover bag (Rename ∷ map new_file tags) b k
    named_left b told all zero = (told, λ name bytes count next. cc)
    named_left b told all (suc k) = files_left tags (rename_folder new_folder data_folder b) are_tags all k

    moves_left : (left : List (List ℕ)) (done : List ℕ → Bool) (b : Bag) → AllByRecursion IsTop left
        → IsPlaced bag (placed_by done) b.files
        → (done data_folder ≡ true → has_folder b data_folder ≡ false)
        → ((p : List ℕ) → HasFile bag p → (done (first_component p) || list_any (bytes_eq (first_component p)) left) ≡ true)
        → (k : ℕ) → Leftover bag (map MoveIn left ++ Rename ∷ map new_file tags) b k
    moves_left [] done b are placed gone covers k =
        named_left b (moving_told bag b done placed gone)
        ((all_under_data bag free done b.files placed (λ p has. sym (or-false (done (first_component p))) ∙ covers p has)).to)
        k
    moves_left (top ∷ left) done b are placed gone covers zero =
        (moving_told bag b done placed gone, λ name bytes count next. cc)
    moves_left (top ∷ left) done b are placed gone covers (suc k) =
        moves_left left (with_name done top) (move_in top new_folder b) are.1
        (moved_placed bag (placed_by done) (placed_by (with_name done top)) top (under new_folder top) b.files placed
        (λ p has. goes_on done top p are.0) (apart bag free (with_name done top)))
        (gone_on done top b gone)
        (λ p has. or_assoc (done (first_component p)) (bytes_eq (first_component p) top) _ ∙ covers p has)
        k

    steps_left : (names : List (List ℕ)) → CanBeMadeBy bag names tags → (k : ℕ) → Leftover bag (steps_for names tags) bag k
    steps_left names can zero = (itself_told bag, λ name bytes count next. cc)
    steps_left names can (suc k) =
        moves_left names (λ _. false) (make_folder new_folder bag) can.tops
        (record { from = λ q c at. (q, refl, at); to = λ p c at. at }) (λ is. absurd (false≢true is)) can.all k

-- ---- the laws

told : (bag : Bag) (algs : List Alg) (info : List NewElement) (left : Bag) (fault : MakeFault) → IsBag bag
    → is_in_the_way bag ≡ false → Leaves algs info bag left fault → IsTold bag left
told bag algs info left (fault_of.StepRefused place cause) is free leaves =
    let can = can_be_made bag algs info is free in
    let after_k = steps_left bag free (new_tag_files (files_of bag) algs info) can.tag_names
    (tops (files_of bag) (has_folder bag data_folder)) can (place - 1) in
    elim leaves [
      | inl at ↦ subst (IsTold bag) (sym at) after_k.0
      | inr begun ↦ subst (IsTold bag) (sym begun.4) (after_k.1 begun.0 begun.1 begun.2 begun.3)
    ]
told bag algs info left _ is free same = subst (IsTold bag) (sym same) (itself_told bag)

pub remainders : RemaindersLackNoPayload
remainders bag algs info left fault is free leaves = told_lacks bag left (told bag algs info left fault is free leaves)

itself_left : (old new : TreeState) → new.bag ≡ old.bag → LacksNoPayload old.bag new.bag
itself_left old new same =
    subst (LacksNoPayload old.bag) (sym same) (told_lacks old.bag old.bag (itself_told old.bag))

-- and so it is with what `make` leaves
pub what_remains : (algs : List Alg) (info : List NewElement) (old new : TreeState) → IsBag old.bag
    → (fault : MakeFault) → MayRefuseMaking algs info old new fault → IsTrue old.honest
    → LacksNoPayload old.bag new.bag
what_remains algs info old new is (fault_of.StepRefused place cause) (asked, h) honest =
    remainders old.bag algs info new.bag (fault_of.StepRefused place cause) is (h.free honest)
    (leaves_bag algs info old new (fault_of.StepRefused place cause) (asked, h) honest)
what_remains algs info old new is fault_of.InTheWay h honest = itself_left old new h.1.keeps.bag
what_remains algs info old new is _ h honest = itself_left old new h.1.bag

-- a fault of the declaration is one of each folder with the same declaration
same_fault : (bag d : Bag) (f : Fault) → file d bagit_txt ≡ file bag bagit_txt → IsOfDeclaration bag f
    → IsOfDeclaration d f × (asks full f.code ≡ true)
unfolding IsOfDeclaration DeclarationHolds asks
same_fault bag d f same is = grind arith

pub new_bags : NewBagsLackNoFile
unfolding Is
new_bags bag left (f, wrong) lacks clean = elim (lacks clean) [
  | inl all ↦ all
  | inr before ↦
      let is = same_fault bag left f before.declaration wrong in
      absurd (none_reported left clean f (inl is.0) is.1)
]
