-- Stage 3: the metadata of a made bag reads, and its Payload-Oxum is the payload's size.
use Rattle.bag_make.proofs.Common.{◌≡◌, ℕ, zero, suc, ◌+◌, ◌<◌, ◌^◌, true, false, List, [], ◌∷◌, ◌++◌, length, Some}
use Rattle.bag_make.proofs.Common.{refl, sym, ap, ◌∙◌, subst, arith, list_any, or_from, or_parts, All-push}
use Rattle.bag_make.proofs.Common.{list_any-append, IsText, same_label, V10, Alg, Code, InfoLine, OxumMalformed}
use Rattle.bag_make.proofs.Common.{OxumAgain, OxumDiffers, NoOxum, Oxum, Info, Bag, file, files_of, Fault, in_line}
use Rattle.bag_make.proofs.Common.{oxum_label, oxum_of_files, oxum_text, lines_in, lines_or_none, NewElement, info_text}
use Rattle.bag_make.proofs.Common.{is_bad_element, is_bad_label, is_bad_value, InfoIsReadAgain, new_payload}
use Rattle.bag_make.proofs.Common.{new_elements, made, CanMake, is_refused, AreTexts}
use Rattle.std.specs.Prelude.{All}
use Rattle.std.specs.Char.{encode_utf8}
use Rattle.std.specs.List.{slice_get}
use Rattle.std.specs.Str.{is_utf8, chars}
use Rattle.bag_read.specs.Info.{IsElement, IsInfoFault}
use Rattle.bag_read.specs.declared.info.Element.{Element}
use Rattle.bag_stages.specs.MetadataStage.{MetadataHolds, IsOfMetadata, bag_info_txt, HasElement}
use Rattle.bag_make.proofs.Held.{tag_held, tag_there}
use Rattle.bag_make.proofs.MadeRules.{made_rules}
use Rattle.bag_tags.proofs.OxumReads.{oxum_reads, oxum_is_text, oxum_is_good}
use Rattle.bag_make.proofs.PayloadIsTheFolder.{payload_size, oxum_is}

-- the only element of a list with this label is the last one
only_last : (xs : List NewElement) (y z : NewElement) (k : ℕ) → list_any is_refused xs ≡ false
    → slice_get (xs ++ y ∷ []) k ≡ Some z → same_label z.0 oxum_label ≡ true → (k ≡ length xs) × (z ≡ y)
only_last [] y z zero none at same = (refl, let one : y ≡ z = cc in sym one)
only_last [] y z (suc k) none at same = cc
only_last (x ∷ xs) y z zero none at same = grind (arith, or_parts)
only_last (x ∷ xs) y z (suc k) none at same =
    let more = only_last xs y z k (or_parts (is_refused x) _ none).1 at same in (ap suc more.0, more.1)

last_place : (xs : List NewElement) (y : NewElement) → slice_get (xs ++ y ∷ []) (length xs) ≡ Some y
last_place [] y = refl
last_place (x ∷ xs) y = last_place xs y

none_bad : (xs : List NewElement) → list_any is_refused xs ≡ false → list_any is_bad_element xs ≡ false
none_bad [] none = refl
none_bad (x ∷ xs) none =
    let two = or_parts (is_refused x) (list_any is_refused xs) none in
    or_from (is_bad_element x) _ (or_parts (is_bad_element x) _ two.0).0 (none_bad xs two.1)

label_text : IsText oxum_label
unfolding is_utf8 chars encode_utf8
label_text = refl

module _ (bag : Bag) (algs : List Alg) (info : List NewElement) (can : CanMake bag algs info) where
  abbrev sums : Oxum
  sums = oxum_of_files (new_payload (files_of bag))

  octets : sums.octets < 2 ^ 64
  octets = subst (λ (s : Oxum). s.octets < 2 ^ 64) (sym (payload_size (files_of bag))) can.known.size

  streams : sums.streams < 2 ^ 64
  streams = subst (λ (s : Oxum). s.streams < 2 ^ 64) (sym (payload_size (files_of bag))) can.known.count

  abbrev last : NewElement
  last = (oxum_label, oxum_text sums)

  abbrev pub elements : List NewElement
  elements = new_elements (files_of bag) algs info

  pub elements_text : All AreTexts elements
  elements_text = All-push AreTexts info last can.texts (label_text, oxum_is_text sums octets streams)

  pub elements_good : list_any is_bad_element elements ≡ false
  elements_good =
      list_any-append is_bad_element info (last ∷ [])
      ∙ or_from (list_any is_bad_element info) _ (none_bad info can.asked.1)
      (or_from (is_bad_element last) false
      (or_from (is_bad_label oxum_label) (is_bad_value (oxum_text sums)) refl (oxum_is_good sums octets streams))
      refl)

  module _ (read : InfoIsReadAgain) where
    in_text : file (made bag algs info) bag_info_txt ≡ Some (info_text elements)
    in_text = tag_there bag algs info Info (info_text elements) refl

    stands : (e : Element) → HasElement (made bag algs info) oxum_label e
        → (e.line ≡ length info + 1) × (e.value ≡ oxum_text sums)
    stands e (is, same) =
        let place =
        ((read elements elements_text elements_good).0 e).0
        (subst (λ o. IsElement V10 (lines_or_none o) e) in_text
        (subst (λ rules. IsElement rules (lines_in (made bag algs info) bag_info_txt) e)
        (made_rules bag algs info) is)) in
        let only = only_last info last (e.label, e.value) place.0 can.asked.1 place.2 same in
        (place.1 ∙ ap (λ k. k + 1) only.0, ap (λ (x : NewElement). x.1) only.1)

    -- it has the element
    pub has_oxum : (e : Element) × HasElement (made bag algs info) oxum_label e
    has_oxum =
        let e : Element = record { line = length info + 1; label = oxum_label; value = oxum_text sums } in
        let is = ((read elements elements_text elements_good).0 e).1 (length info, refl, last_place info last) in (
          e,
          (
            subst (λ rules. IsElement rules (lines_in (made bag algs info) bag_info_txt) e)
                (sym (made_rules bag algs info)) (subst (λ o. IsElement V10 (lines_or_none o) e) (sym in_text) is),
            refl,
          ),
        )

    module _ (f : Fault) where
      by_code : (code : Code) → MetadataHolds (made bag algs info) f code → ⊥
      unfolding MetadataHolds
      by_code InfoLine (at, alg, (bytes, held, wrong)) =
          (read elements elements_text elements_good).1 (in_line f)
          (subst (λ b. IsInfoFault V10 b (in_line f)) (tag_held bag algs info Info bytes held)
          (subst (λ rules. IsInfoFault rules bytes (in_line f)) (made_rules bag algs info) wrong))
      by_code OxumMalformed (e, at, first, none) =
          grind (arith, stands e first.0, oxum_reads sums octets streams, octets, streams)
      by_code OxumAgain (e, at, (has, (d, earlier, low))) =
          absurd (omega (arith, (stands e has).0, (stands d earlier).0, low))
      by_code OxumDiffers (e, other, at, first, reads, differs) =
          grind (arith, stands e first.0, oxum_reads sums octets streams, octets, streams, oxum_is)
      by_code NoOxum (at, none) = none has_oxum.0 has_oxum.1
      by_code _ h = h

      pub no_metadata_fault : IsOfMetadata (made bag algs info) f → ⊥
      unfolding IsOfMetadata
      no_metadata_fault h = by_code f.code h
