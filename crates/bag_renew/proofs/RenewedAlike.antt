-- Two bags of which the renewed bag is made of the same; and what is read again of one.
use Rattle.bag_renew.proofs.Common.{◌≡◌, ◌⊎◌, ◌++◌, ◌∷◌, ◌||◌, ◌∙◌, inl, inr, ℕ, Bool, true, false, not, cond, List}
use Rattle.bag_renew.proofs.Common.{[], Option, Some, is_some, refl, sym, ap, Contains, and_from, and_parts, map}
use Rattle.bag_renew.proofs.Common.{or_cases, or_left, or_right, contains_behind, contains_first, has_member}
use Rattle.bag_renew.proofs.Common.{is_payload_path, tag_path, Payload, Tag, Info, Manifest, Alg, Bag, HasFile, file}
use Rattle.bag_renew.proofs.Common.{File, declaration_file, algs_where, has_payload_manifest, info_files, is_new_alg}
use Rattle.bag_renew.proofs.Common.{keeps, kept_or, kept_tag_files, manifest_by, named_tag_files, new_algs, new_elements}
use Rattle.bag_renew.proofs.Common.{new_rules, new_tag_files, payload, payload_manifest, payload_manifests, stays}
use Rattle.bag_renew.proofs.Common.{tag_manifests, writes_info, Renewal}
use Rattle.std.specs.Option.{unwrap_or}
use Rattle.bag_text.specs.Text.{text_cmp}
use Rattle.bag_text.specs.declared.rules.Rules.{Rules}
use Rattle.bag_facts.specs.Facts.{rules_in}
use Rattle.bag_stages.specs.MetadataStage.{bag_info_txt}
use Rattle.bag_read.specs.Oxum.{oxum_text}
use Rattle.bag_stages.specs.Payload.{oxum, oxum_of_files}
use Rattle.bag_stages.specs.TagFiles.{lines_in, lines_or_none, manifest_of}
use Rattle.bag_tags.proofs.LongInfo.{long_info_again_by}
use Rattle.bag_tags.specs.Element.{NewElement}
use Rattle.bag_tags.specs.OnLines.{text_on_lines}
use Rattle.bag_renew.specs.WrittenElements.{WrittenElementsAreRead}
use Rattle.bag_renewed.specs.Elements.{elements_of, elements_on, renewed_elements}
use Rattle.bag_renewed.specs.Renewed.{file_at, in_path_order, renewed}
use Rattle.bag_renewed.specs.Request.{is_bad_request}
use Rattle.bag_changes.specs.Valid.{HasGoodElements}
use Rattle.bag_changes.proofs.AlgsWhere.{alg_in, passes}
use Rattle.bag_renew.proofs.AlikeFaults.{AreAlike}
use Rattle.bag_changes.proofs.Contents.{these_files}
use Rattle.bag_renew.proofs.ElementsAgain.{renewed_once_only}
use Rattle.bag_facts.proofs.Found.{content_of, same_option}
use Rattle.bag_renew.proofs.PayloadFiles.{files_alike, payload_alike}
use Rattle.bag_renew.proofs.ReadAlike.{elements_alike}
use Rattle.bag_renew.proofs.RenewedNames.{by_new_rules, new_text}
use Rattle.std.specs.FinMap as fin

map_same : {A B : Type 0} (f g : A → B) (xs : List A) → ((x : A) → Contains xs x → f x ≡ g x) → map f xs ≡ map g xs
map_same f g [] each = refl
map_same f g (x ∷ xs) each =
    λ i. each x (contains_first x xs) i ∷ map_same f g xs (λ y has. each y (contains_behind x xs y has)) i

-- ---- two bags of which the renewed bag is made of the same

pub record AreRenewedAlike (left bag : Bag) (renewal : Renewal) : Type 0 where
  pub payload_file : (q : List ℕ) → is_payload_path q ≡ true → file left q ≡ file bag q
  pub kept : (q : List ℕ) → stays q ≡ true → file left q ≡ file bag q
  pub folders : left.folders ≡ bag.folders
  pub rules : new_rules left renewal ≡ new_rules bag renewal
  pub declaration : declaration_file left renewal ≡ declaration_file bag renewal
  pub algs : (alg : Alg) → is_new_alg left renewal alg ≡ is_new_alg bag renewal alg
  pub manifests : (alg : Alg) → is_new_alg bag renewal alg ≡ true
      → payload_manifest left renewal alg ≡ payload_manifest bag renewal alg
  pub writes : writes_info left renewal ≡ true → writes_info bag renewal ≡ true
  pub written : writes_info left renewal ≡ true → new_elements left renewal ≡ new_elements bag renewal
  pub kept_info : writes_info left renewal ≡ false → file_at left bag_info_txt ≡ info_files bag renewal

module _ (left bag : Bag) (renewal : Renewal) (are : AreRenewedAlike left bag renewal) where
  pub same_payload : payload left ≡ payload bag
  same_payload = payload_alike left bag are.payload_file

  same_kept : kept_tag_files left ≡ kept_tag_files bag
  same_kept = files_alike stays left bag are.kept

  pub same_algs : new_algs left renewal ≡ new_algs bag renewal
  same_algs = ap algs_where (λ i alg. are.algs alg i)

  same_manifests : payload_manifests left renewal ≡ payload_manifests bag renewal
  same_manifests =
      ap (map {B = File} (payload_manifest left renewal)) same_algs
      ∙ map_same {B = File} (payload_manifest left renewal) (payload_manifest bag renewal) (new_algs bag renewal)
      (λ alg has. are.manifests alg (passes (is_new_alg bag renewal) alg has))

  same_info : info_files left renewal ≡ info_files bag renewal
  same_info = by_test (writes_info left renewal) refl
    where
      files_so : (b : Bag) → Bool → List File
      files_so b writes =
          cond writes ((bag_info_txt, text_on_lines (new_elements b renewal)) ∷ []) (file_at b bag_info_txt)

      by_test : (w : Bool) → writes_info left renewal ≡ w → info_files left renewal ≡ info_files bag renewal
      by_test true writes =
          ap (files_so left) writes
          ∙ ap (λ es. (bag_info_txt, text_on_lines es) ∷ []) (are.written writes)
          ∙ sym (ap (files_so bag) (are.writes writes))
      by_test false keeps_it = ap (files_so left) keeps_it ∙ are.kept_info keeps_it

  same_named : named_tag_files left renewal ≡ named_tag_files bag renewal
  same_named =
      λ i. in_path_order (same_kept i ++ (are.declaration i ∷ (same_info i ++ same_manifests i)))

  same_tags : tag_manifests left renewal ≡ tag_manifests bag renewal
  same_tags =
      λ i. map {B = File} (λ alg. (tag_path (Manifest Tag alg), manifest_by (are.rules i) alg (same_named i))) (same_algs i)

  same_written : new_tag_files left renewal ≡ new_tag_files bag renewal
  same_written = λ i. are.declaration i ∷ (same_info i ++ (same_manifests i ++ same_tags i))

  pub same_renewed : renewed left renewal ≡ renewed bag renewal
  unfolding renewed
  same_renewed = λ i. record {
    files = fin.from_entries {R = text_cmp} (same_payload i ++ (same_kept i ++ same_written i));
    folders = are.folders i;
  }

-- ---- the files of the renewed bag

module _ (b : Bag) (renewal : Renewal) (path text : List ℕ) where
  -- those that are kept
  pub kept_is : keeps b renewal ≡ true → kept_or b renewal path text ≡ unwrap_or (file b path) text
  kept_is keeps_b = ap (λ k. cond k (unwrap_or (file b path) text) text) keeps_b

  -- and those that aren't
  pub written_is : keeps b renewal ≡ false → kept_or b renewal path text ≡ text
  written_is none = ap (λ k. cond k (unwrap_or (file b path) text) text) none

not_true : (b : Bool) → not b ≡ true → b ≡ false
not_true false is = refl
not_true true is = cc

module _ (bag : Bag) (renewal : Renewal) where
  abbrev new : Bag
  new = renewed bag renewal

  abbrev pub text : List ℕ
  text = text_on_lines (new_elements bag renewal)

  abbrev pub info_so : Bool → Option (List ℕ)
  info_so writes = cond writes (Some text) (file bag bag_info_txt)

  pub new_info : file new bag_info_txt ≡ info_so (writes_info bag renewal)
  new_info =
      same_option (file new bag_info_txt) (info_so (writes_info bag renewal))
      (λ c at. new_text bag renewal Info c tt at)
      (λ c at. (these_files bag renewal bag_info_txt c).1 (inr (Info, refl, at)))

  module _ (alg : Alg) where
    abbrev path : List ℕ
    path = manifest_of Payload alg

    abbrev written : List ℕ
    written = manifest_by (new_rules bag renewal) alg (payload bag)

    pub has_or_added : (b : Bag) → is_new_alg b renewal alg ≡ true
        → ((has_payload_manifest b alg || has_member renewal.added alg) ≡ true)
        × (has_member renewal.dropped alg ≡ false)
    has_or_added b is =
        let two =
        and_parts (has_payload_manifest b alg || has_member renewal.added alg) (not (has_member renewal.dropped alg)) is
        in (two.0, not_true (has_member renewal.dropped alg) two.1)

    so_new : (b : Bag) → (has_payload_manifest b alg || has_member renewal.added alg) ≡ true
        → has_member renewal.dropped alg ≡ false → is_new_alg b renewal alg ≡ true
    so_new b has stays_in =
        and_from (has_payload_manifest b alg || has_member renewal.added alg) (not (has_member renewal.dropped alg))
        has (ap not stays_in)

    pub new_manifest : (c : List ℕ) → file new path ≡ Some c
        → (is_new_alg bag renewal alg ≡ true) × (c ≡ kept_or bag renewal path written)
    new_manifest c at =
        let text = new_text bag renewal (Manifest Payload alg) c tt at in
        (passes (is_new_alg bag renewal) alg text.0, text.1)

    pub manifest_there : is_new_alg bag renewal alg ≡ true → file new path ≡ Some (kept_or bag renewal path written)
    manifest_there is =
        (these_files bag renewal path (kept_or bag renewal path written)).1
        (inr (Manifest Payload alg, refl, (alg_in (is_new_alg bag renewal) alg is, refl)))

    -- an algorithm of a bag all of whose manifests are of the bag or of the renewed one
    pub from_left : (left : Bag) → ((c : List ℕ) → file left path ≡ Some c → (file bag path ≡ Some c) ⊎ (file new path ≡ Some c))
        → is_new_alg left renewal alg ≡ true → is_new_alg bag renewal alg ≡ true
    from_left left either is =
        let two = has_or_added left is in
        elim (or_cases (has_payload_manifest left alg) (has_member renewal.added alg) two.0) [
          | inl has ↦ (let c = content_of (file left path) has in
              elim (either c.0 c.1) [
                | inl old ↦ so_new bag
                    (or_left (has_payload_manifest bag alg) (has_member renewal.added alg) (ap is_some old)) two.1
                | inr made ↦ (new_manifest c.0 made).0
              ])
          | inr added ↦
              so_new bag (or_right (has_payload_manifest bag alg) (has_member renewal.added alg) added) two.1
        ]

    -- and of one that has those of the bag that aren't dropped
    pub to_left : (left : Bag) → (has_member renewal.dropped alg ≡ false → HasFile bag path → HasFile left path)
        → is_new_alg bag renewal alg ≡ true → is_new_alg left renewal alg ≡ true
    to_left left still is =
        let two = has_or_added bag is in
        elim (or_cases (has_payload_manifest bag alg) (has_member renewal.added alg) two.0) [
          | inl has ↦ so_new left
              (or_left (has_payload_manifest left alg) (has_member renewal.added alg) (still two.1 has)) two.1
          | inr added ↦
              so_new left (or_right (has_payload_manifest left alg) (has_member renewal.added alg) added) two.1
        ]

-- ---- the elements are read again

read_so : (b : Bag) (rules : Rules) → rules_in b ≡ rules → (o : Option (List ℕ)) → file b bag_info_txt ≡ o
    → elements_of b ≡ elements_on rules (lines_or_none o)
read_so b rules ruled o at =
    ap (λ r. elements_on r (lines_in b bag_info_txt)) ruled ∙ ap (λ o. elements_on rules (lines_or_none o)) at

read_alike : (one other : Bag) → AreAlike one other → file one bag_info_txt ≡ file other bag_info_txt
    → elements_of one ≡ elements_of other
read_alike one other alike same =
    ap (λ o. elements_on (rules_in one) (lines_or_none o)) same
    ∙ ap (map {B = NewElement} (λ e. (e.label, e.value)))
    (elements_alike (rules_in one) (rules_in other) (lines_in other bag_info_txt) 1 alike.metadata)

pub written_are_read : WrittenElementsAreRead
written_are_read bag renewal writes good =
    read_so (renewed bag renewal) (new_rules bag renewal) (by_new_rules bag renewal) (Some (text bag renewal))
    (new_info bag renewal ∙ ap (info_so bag renewal) writes)
    ∙ (long_info_again_by (new_rules bag renewal) (new_elements bag renewal) good.written.texts good.written.good).1

-- the bag-info.txt is that of the bag, and is read alike
abbrev pub HasInfoOf : Bag → Bag → Type 0
HasInfoOf left base = AreAlike left base × (file left bag_info_txt ≡ file base bag_info_txt)

module _ (left bag : Bag) (renewal : Renewal) (asked : is_bad_request renewal.elements ≡ false)
    (good : writes_info bag renewal ≡ true → HasGoodElements bag renewal)
    (same_file : (q : List ℕ) → is_payload_path q ≡ true → file left q ≡ file bag q)
    (info : HasInfoOf left bag ⊎ HasInfoOf left (renewed bag renewal)) where
  -- what is written is read again, and asked again it is the same
  pub written_again : writes_info bag renewal ≡ true → new_elements left renewal ≡ new_elements bag renewal
  written_again writes =
      ap (λ size. renewed_elements renewal.elements size (elements_of left)) size
      ∙ elim info [
        | inl old ↦ ap (renewed_elements renewal.elements (oxum_text (oxum bag))) (read_alike left bag old.0 old.1)
        | inr made ↦ ap (renewed_elements renewal.elements (oxum_text (oxum bag)))
            (read_alike left (renewed bag renewal) made.0 made.1 ∙ written_are_read bag renewal writes (good writes))
            ∙ renewed_once_only renewal.elements (oxum_text (oxum bag)) (elements_of bag) asked
      ]
    where
      size : oxum_text (oxum left) ≡ oxum_text (oxum bag)
      size = ap (λ es. oxum_text (oxum_of_files es)) (payload_alike left bag same_file)
