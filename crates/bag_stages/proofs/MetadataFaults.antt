-- The faults of the metadata.
use Rattle.bag_stages.proofs.Common.{arith, ◌≡◌, ◌↔◌, ◌⊎◌, inl, inr, ◌++◌, ℕ, List, [], ◌∷◌, map, None, true, false}
use Rattle.bag_stages.proofs.Common.{is_lt, refl, sym, ap, ◌∙◌, subst, if◌then◌else◌, IsPermutation, IsSortedBy}
use Rattle.bag_stages.proofs.Common.{is_utf8, stage, IsListOf, Code, NotUtf8, InfoLine, OxumMalformed, OxumAgain}
use Rattle.bag_stages.proofs.Common.{OxumDiffers, NoOxum, same_members, InfoFault, IsInfoFault, LineFault, elements_of}
use Rattle.bag_stages.proofs.Common.{Bag, file, Fault, fault_cmp, rules_in, IsSaidOfTagFile, in_file, in_line}
use Rattle.bag_stages.proofs.Common.{bag_info_txt, FaultsAreOfStage, no_oxum, oxums, oxum_faults, oxum}
use Rattle.bag_stages.proofs.Common.{oxum_text, pair}
use Rattle.bag_read.proofs.InfoFaults.{faults_of_no_text}
use Rattle.bag_facts.specs.declared.tag_facts.Metadata.{Metadata}
use Rattle.bag_facts.specs.declared.tag_facts.TagFacts.TheVariants as facts
use Rattle.bag_stages.specs.MetadataStage.{MetadataHolds, IsOfMetadata}
use Rattle.bag_stages.proofs.FaultFields.{made_of}
use Rattle.bag_stages.proofs.InFile.{IsOfLine, lines_listed, text_tells}
use Rattle.bag_stages.proofs.OxumFaults.{IsOfOxum, oxum_listed}
use Rattle.bag_stages.proofs.Sorted.{sorted_together}

-- what is wrong with a line of a text
line_code : (bag : Bag) (c : Code) (bytes : List ℕ) (x : LineFault) → is_utf8 bytes ≡ true
    → InfoFault (rules_in bag) c bytes x → c ≡ InfoLine
line_code bag NotUtf8 bytes x text h = let clash : true ≡ false = sym text ∙ h.2 in cc
line_code bag c bytes x text h = grind arith

pub line_tells : (bag : Bag) (bytes : List ℕ) (x : LineFault) → IsInfoFault (rules_in bag) bytes x
    → (stage x.code ≡ 3) ↔ (is_utf8 bytes ≡ true)
line_tells bag bytes x h =
    text_tells 3 (IsInfoFault (rules_in bag) bytes) x (is_utf8 bytes) (λ e. omega (arith, e)) (λ text.
    ap stage (line_code bag x.code bytes x text h))
    (faults_of_no_text (rules_in bag) bytes) h

-- what the codes of the stage say
module _ (bag : Bag) (f : Fault) where
  holds_stage : (c : Code) → MetadataHolds bag f c → stage c ≡ 3
  unfolding MetadataHolds
  holds_stage InfoLine h = refl
  holds_stage c h = grind arith

  -- a fault of the metadata is of an element, or of a line
  abbrev pub OfLine : Type 0
  OfLine = IsOfLine bag bag_info_txt None 3 (IsInfoFault (rules_in bag)) f

  some_of_holds : (c : Code) → f.code ≡ c → MetadataHolds bag f c → IsOfOxum bag f ⊎ OfLine
  unfolding MetadataHolds
  some_of_holds InfoLine e h = inr (h, ap stage e)
  some_of_holds OxumMalformed e (d, at, first, none) =
      inl (inl (d, first, inl (none, made_of f OxumMalformed bag_info_txt None d.line d.value e at)))
  some_of_holds OxumAgain e (d, at, later) =
      inl (inr (inl (d, later, made_of f OxumAgain bag_info_txt None d.line d.value e at)))
  some_of_holds OxumDiffers e (d, told, at, first, is, other) =
      inl (inl (
        d,
        first,
        inr (
          told,
          is,
          other,
          made_of f OxumDiffers bag_info_txt None d.line (pair d.value (oxum_text (oxum bag))) e at,
        ),
      ))
  some_of_holds NoOxum e (at, none) = inl (inr (inr (none, made_of f NoOxum bag_info_txt None 0 [] e at)))
  some_of_holds other e h = absurd h

  pub of_some : IsOfMetadata bag f → IsOfOxum bag f ⊎ OfLine
  unfolding IsOfMetadata
  of_some h = some_of_holds f.code refl h

  of_line_code : OfLine → f.code ≡ InfoLine
  of_line_code h = line_code bag f.code h.0.2.0 (in_line f) ((line_tells bag h.0.2.0 (in_line f) h.0.2.2).0 h.1) h.0.2.2

  pub some_is : IsOfOxum bag f ⊎ OfLine → IsOfMetadata bag f
  unfolding IsOfMetadata MetadataHolds
  some_is (inl (inl (d, first, inl (none, is)))) =
      rw is (d, record { path_is = refl; alg_is = refl; line_is = refl; detail_is = refl }, first, none)
  some_is (inl (inl (d, first, inr (told, reads, other, is)))) =
      rw is (d, told, record { path_is = refl; alg_is = refl; line_is = refl; detail_is = refl }, first, reads, other)
  some_is (inl (inr (inl (d, later, is)))) =
      rw is (d, record { path_is = refl; alg_is = refl; line_is = refl; detail_is = refl }, later)
  some_is (inl (inr (inr (none, is)))) =
      rw is (record { path_is = refl; alg_is = refl; line_is = refl; detail_is = refl }, none)
  some_is (inr h) = subst (MetadataHolds bag f) (sym (of_line_code h)) h.0

  apart : IsOfOxum bag f → OfLine → ⊥
  apart h k = let e = of_line_code k in grind arith

pub metadata_of_stage_three : FaultsAreOfStage 3 IsOfMetadata
unfolding IsOfMetadata
metadata_of_stage_three bag f h = holds_stage bag f f.code h

module _ (bag : Bag) where
  -- what was read of the file tells the faults
  pub metadata_listed : (m : Metadata) (of_oxums of_lines all : List Fault) → IsSaidOfTagFile bag (facts.Info m)
      → of_oxums ≡ oxum_faults bag_info_txt (oxum bag) (oxums m.elements)
      → of_lines ≡ (if m.is_text then map (in_file bag_info_txt None) m.faults else [])
      → IsPermutation (of_oxums ++ of_lines) all → IsSortedBy (λ x y. is_lt (fault_cmp x y)) all
      → IsListOf fault_cmp (IsOfMetadata bag) all
  metadata_listed m of_oxums of_lines all (bytes, there, says) oxums_are lines_are perm sorted =
      same_members fault_cmp _ _ all (some_is bag) (of_some bag)
      (sorted_together (IsOfOxum bag) (OfLine bag) of_oxums of_lines all (apart bag)
      (rw oxums_are (oxum_listed bag m.elements (rw there says.elements)))
      (rw lines_are (lines_listed bag bag_info_txt None 3 (IsInfoFault (rules_in bag)) is_utf8 (line_tells bag) bytes
      m.is_text m.faults there says.text says.faults)) perm sorted)

  -- a bag without the file has the one fault that no element tells the size
  pub missing_listed : file bag bag_info_txt ≡ None → IsListOf fault_cmp (IsOfMetadata bag) (no_oxum bag_info_txt ∷ [])
  missing_listed none =
      same_members fault_cmp _ _ (no_oxum bag_info_txt ∷ []) (λ f h. some_is bag f (inl h))
      (λ f h. grind (arith, of_some bag f h))
      (oxum_listed bag [] (rw none (elements_of (rules_in bag) [])))
