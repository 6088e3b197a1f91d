-- What a making leaves of the folder while it is on its way.
use Rattle.bag_make.proofs.Common.{arith, ◌≡◌, ◌⊎◌, ℕ, inl, inr, Bool, true, false}
use Rattle.bag_make.proofs.Common.{cond, List, [], Some, None, get_or, refl, ap, sym, ◌∙◌, subst}
use Rattle.bag_make.proofs.Common.{bytes_eq-Decides}
use Rattle.bag_make.proofs.Common.{false_from_ne_true, false≢true, and_parts, contains-remove, contains_nothing}
use Rattle.bag_make.proofs.Common.{nat_list_cmp_total, text_itself, first_component, under, is_base_name}
use Rattle.bag_make.proofs.Common.{is_payload_path, Code, NoDeclaration, NoPayloadFolder, Fault, Bag, HasFile}
use Rattle.bag_make.proofs.Common.{file, has_file, has_folder, create, move_in}
use Rattle.bag_make.proofs.Common.{data_folder, new_folder, HasNoFault, full, HasAllFiles}
use Rattle.bag_tree.proofs.Events.{stays_under}
use Rattle.bag_stages.specs.DeclarationStage.{DeclarationHolds, IsOfDeclaration}
use Rattle.bag_stages.specs.PartsStage.{PartHolds, IsOfParts}
use Rattle.bag_stages.specs.TagFiles.{bagit_txt}
use Rattle.bag_report.specs.Report.{asks, Is}
use Rattle.bag_make.specs.Remainder.{IsInPayload, LacksNoPayload}
use Rattle.bag_facts.proofs.Found.{content_of}
use Rattle.bag_make.proofs.Placed.{IsPlaced, placed_by, with_name}

-- ---- what has no fault

pub none_reported : (d : Bag) → HasNoFault d → (f : Fault) → Is d None f → asks full f.code ≡ true → ⊥
none_reported d clean f is asked = contains_nothing f ((clean.members f).1 (is, asked))

abbrev fault : Code → List ℕ → Fault
fault code path = record { code = code; path = path; alg = None; line = 0; detail = [] }

no_data : (d : Bag) → has_folder d data_folder ≡ false → Is d None (fault NoPayloadFolder [])
unfolding Is IsOfParts PartHolds
no_data d lacks = inr (inl (record { path_is = refl; alg_is = refl; line_is = refl; detail_is = refl }, lacks))

not_declared : (d : Bag) → has_file d bagit_txt ≡ false → Is d None (fault NoDeclaration bagit_txt)
unfolding Is IsOfDeclaration DeclarationHolds
not_declared d lacks = inl (record { path_is = refl; alg_is = refl; line_is = refl; detail_is = refl }, lacks)

asks_both : (asks full NoPayloadFolder ≡ true) × (asks full NoDeclaration ≡ true)
unfolding asks
asks_both = (refl, refl)

or_true : (b : Bool) → (b ≡ false → ⊥) → b ≡ true
or_true true not_false = refl
or_true false not_false = absurd (not_false refl)

-- it has the folder of the payload, and a declaration
has_data : (d : Bag) → HasNoFault d → has_folder d data_folder ≡ true
has_data d clean = or_true _ (λ lacks. none_reported d clean (fault NoPayloadFolder []) (no_data d lacks) asks_both.0)

is_declared : (d : Bag) → HasNoFault d → HasFile d bagit_txt
is_declared d clean =
    or_true _ (λ lacks. none_reported d clean (fault NoDeclaration bagit_txt) (not_declared d lacks) asks_both.1)

-- ---- what a making leaves

-- the payload of the folder is at its place, and its declaration, if there is one, is its own
pub record IsAsBefore (bag d : Bag) : Type 0 where
  pub payload : (p c : List ℕ) → is_payload_path p ≡ true → file bag p ≡ Some c → file d p ≡ Some c
  pub declaration : (c : List ℕ) → file d bagit_txt ≡ Some c → file bag bagit_txt ≡ Some c

-- a folder `data` is the folder's own, or has all
abbrev pub IsTold : Bag → Bag → Type 0
IsTold bag d = has_folder d data_folder ≡ true → IsInPayload bag d ⊎ IsAsBefore bag d

pub told_lacks : (bag d : Bag) → IsTold bag d → LacksNoPayload bag d
told_lacks bag d told clean = elim (told (has_data d clean)) [
  | inl all ↦ inl all
  | inr before ↦
      let has = is_declared d clean in
      let text = content_of (file d bagit_txt) has in
      inr (record {
        payload = before.payload;
        is_declared = has;
        declaration = text.1 ∙ sym (before.declaration text.0 text.1);
      })
]

pub itself_told : (bag : Bag) → IsTold bag bag
itself_told bag there = inr (record { payload = λ p c is at. at; declaration = λ c at. at })

starts_in_data : (p : List ℕ) → is_payload_path p ≡ true → first_component p ≡ data_folder
starts_in_data p is = grind (arith, and_parts, bytes_eq-Decides)

not_in_new : (p : List ℕ) → bagit_txt ≡ under new_folder p → ⊥
not_in_new p same = absurd (omega (arith, ap (λ t. get_or t 0 0) same))

-- while names are moved
pub moving_told : (bag d : Bag) (moved : List ℕ → Bool) → IsPlaced bag (placed_by moved) d.files
    → (moved data_folder ≡ true → has_folder d data_folder ≡ false) → IsTold bag d
moving_told bag d moved placed gone there = inr (record {
  payload = λ p c is at. subst (λ b. file d (cond b (under new_folder p) p) ≡ Some c)
      (ap moved (starts_in_data p is) ∙ unmoved) (placed.to p c at);
  declaration = λ c at. let old = placed.from bagit_txt c at in own old.0 c old.2 (moved (first_component old.0)) old.1;
})
  where
    unmoved : moved data_folder ≡ false
    unmoved = false_from_ne_true _ (λ is. false≢true (sym (gone is) ∙ there))

    own : (p c : List ℕ) → file bag p ≡ Some c → (b : Bool) → bagit_txt ≡ cond b (under new_folder p) p
        → file bag bagit_txt ≡ Some c
    own p c at true same = absurd (not_in_new p same)
    own p c at false same = ap (file bag) same ∙ at

pub gone_on : (done : List ℕ → Bool) (top : List ℕ) (d : Bag)
    → (done data_folder ≡ true → has_folder d data_folder ≡ false)
    → with_name done top data_folder ≡ true → has_folder (move_in top new_folder d) data_folder ≡ false
gone_on done top d gone is =
    grind (arith, contains-remove nat_list_cmp_total d.folders top data_folder, bytes_eq-Decides, text_itself data_folder)

pub created_all : (bag d : Bag) (name bytes : List ℕ) → is_base_name name ≡ true → IsInPayload bag d
    → IsInPayload bag (create name bytes d)
created_all bag d name bytes is all p c at = stays_under name bytes data_folder p d is ∙ all p c at

-- each file is whole, and the folder `data` is the folder's own or has all
abbrev pub IsKept : Bag → Bag → Type 0
IsKept bag d = HasAllFiles bag d × IsTold bag d
