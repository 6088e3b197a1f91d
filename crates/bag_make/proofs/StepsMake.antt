-- All steps make the bag.
use Rattle.bag_make.proofs.Common.{arith, ◌≡◌, ℕ, inl, inr, Bool, true, false, not, ◌&&◌, ◌||◌, cond, List, [], ◌∷◌}
use Rattle.bag_make.proofs.Common.{◌++◌, Some, map, Contains, refl, ap, sym, ◌∙◌, subst, AllByRecursion}
use Rattle.bag_make.proofs.Common.{nat_list_cmp_total, contains-insert, contains-remove, same_set, list_any}
use Rattle.bag_make.proofs.Common.{list_any-append, eq_by_cmp, bytes_eq, false_from_ne_true, fold-append}
use Rattle.bag_make.proofs.Common.{first_component, under, text_cmp, Alg, contains_either, contains_front}
use Rattle.bag_make.proofs.Common.{each_from_members, Bag, HasFile, IsBag, file, files_of, has_folder, exact_texts}
use Rattle.bag_make.proofs.Common.{one_text, NewElement, make_folder, move_in, rename_folder, create, File, data_folder}
use Rattle.bag_make.proofs.Common.{new_payload, new_tag_files, made, StepsMake, is_in_the_way, steps, tops, new_folder}
use Rattle.bag_make.proofs.Common.{after_steps, MoveIn, Create, contains_back, contains_first}
use Rattle.std.specs.FinMap as fin
use Rattle.std.specs.FinSet as set
use Rattle.std.specs.Cmp.Lexicographic.{nat_list_eq_equiv, texts_ties}
use Rattle.std.specs.List.Sorted.{IsStrictlySortedBy}
use Rattle.std.proofs.lemmas.Map.Views.{list_any-from_Contains}
use Rattle.bag_make.proofs.ContentsOfMade.{firsts, first_in, in_first, left_test, these_files}
use Rattle.bag_facts.proofs.Found.{found, held_at}
use Rattle.bag_make.proofs.Held.{held, payload_member, tag_member}
use Rattle.bag_make.proofs.OfTheBag.{data_top, first_top}
use Rattle.bag_make.proofs.Placed.{IsPlaced, IsTop, none_within, moves_placed, all_under_data}
use Rattle.bag_make.proofs.TopsInOrder.{listed_in_order, same_any}
use Rattle.bag_make.proofs.PutFiles.{put_at, from_put, to_put, same_files}

-- the folders that are left
pub moved_folders : (names : List (List ℕ)) (b : Bag) (q : List ℕ)
    → set.contains (after_steps (map MoveIn names) b).folders q
    ≡ (not (list_any (eq_by_cmp text_cmp q) names) && set.contains b.folders q)
moved_folders [] b q = refl
moved_folders (top ∷ names) b q =
    grind (arith, moved_folders names (move_in top new_folder b) q, contains-remove nat_list_cmp_total b.folders top q)

-- the tag files that are made
created : (es : List File) (b : Bag)
    → after_steps (map (λ (e : File). Create e.0 e.1) es) b
    ≡ record { files = put_at (λ p. p) b.files es; folders = b.folders }
created [] b = refl
created (e ∷ es) b = created es (create e.0 e.1 b)

-- a folder is left where it was there and none of its files, or is data
agree : (new payload first also has : Bool) → (new ≡ true → payload ≡ false) → (new ≡ true → has ≡ false)
    → (payload ≡ false → also ≡ false)
    → (not new && (payload || (not (first || also) && (new || has)))) ≡ (payload || (has && not first))
agree new payload first also has apart absent none = grind arith

-- what is moved: the first component of each path, and data
module _ (bag : Bag) where
  abbrev data_of : List (List ℕ)
  data_of = cond (has_folder bag data_folder) (data_folder ∷ []) []

  abbrev names_of : List (List ℕ)
  names_of = tops (files_of bag) (has_folder bag data_folder)

  name_is_top : IsBag bag → is_in_the_way bag ≡ false → (t : List ℕ) → Contains names_of t → IsTop t
  name_is_top is free t has =
      elim (contains_either (firsts bag) data_of t (((listed_in_order (firsts bag ++ data_of)).members t).0 has)) [
        | inl a ↦ (let at = in_first bag t a
            in subst IsTop at.2
            (first_top at.0 (is.paths at.0 at.1).0 (false_from_ne_true _ (none_within bag free at.0 at.1))))
        | inr b ↦ data_top (has_folder bag data_folder) t b
      ]

  pub names_in_order : IsStrictlySortedBy text_cmp names_of
  names_in_order = (listed_in_order (firsts bag ++ data_of)).ascending

  -- no name is that of the folder for the files
  pub names_are_tops : IsBag bag → is_in_the_way bag ≡ false → AllByRecursion IsTop names_of
  names_are_tops is free = each_from_members IsTop names_of (name_is_top is free)

  -- and each file stands at one of them or below it
  pub each_is_moved : (p : List ℕ) → HasFile bag p → list_any (bytes_eq (first_component p)) names_of ≡ true
  each_is_moved p has =
      list_any-from_Contains nat_list_eq_equiv (first_component p) names_of
      (((listed_in_order (firsts bag ++ data_of)).members (first_component p)).1
      (contains_front (firsts bag) data_of (first_component p) (first_in bag p has)))

  -- and so does a folder `data`
  pub data_is_moved : has_folder bag data_folder ≡ true → list_any (bytes_eq data_folder) names_of ≡ true
  data_is_moved there =
      list_any-from_Contains nat_list_eq_equiv data_folder names_of
      (((listed_in_order (firsts bag ++ data_of)).members data_folder).1
      (contains_back (firsts bag) data_of data_folder
      (subst (λ (b : Bool). Contains {X = List ℕ} (cond b (data_folder ∷ []) []) data_folder) (sym there)
      (contains_first data_folder []))))

module _ (bag : Bag) (algs : List Alg) (info : List NewElement) (is : IsBag bag) (free : is_in_the_way bag ≡ false)
    (absent : has_folder bag new_folder ≡ false) where
  abbrev tags : List File
  tags = new_tag_files (files_of bag) algs info

  abbrev data_there : List (List ℕ)
  data_there = data_of bag

  abbrev names : List (List ℕ)
  names = names_of bag

  abbrev begun : Bag
  begun = make_folder new_folder bag

  abbrev filled : Bag
  filled = after_steps (map MoveIn names) begun

  abbrev named : Bag
  named = rename_folder new_folder data_folder filled

  abbrev ended : Bag
  ended = record { files = put_at (λ p. p) named.files tags; folders = named.folders }

  all_steps : after_steps (steps bag algs info) bag ≡ ended
  all_steps = grind (arith, fold-append, created)

  payload : IsPlaced bag (under data_folder) named.files
  payload =
      all_under_data bag free (λ t. list_any (bytes_eq t) names) filled.files
      (moves_placed bag free names (λ _. false) begun (names_are_tops bag is free)
      (record { from = λ q c at. (q, refl, at); to = λ p c at. at }))
      (each_is_moved bag)

  tag_there : (q c : List ℕ) → Contains tags (q, c) → file (made bag algs info) q ≡ Some c
  tag_there q c has = (these_files bag algs info q c).1 (inr (tag_member bag algs info q c has))

  one_there : (q c : List ℕ) → file (made bag algs info) q ≡ Some c → (p d : List ℕ) → Contains tags (p, d) → q ≡ p
      → d ≡ c
  one_there q c at p d has same = grind (arith, tag_there p d has)

  to_made : (q c : List ℕ) → fin.get ended.files q ≡ Some c → file (made bag algs info) q ≡ Some c
  to_made q c at = elim (from_put (λ p. p) tags named.files q c at) [
    | inl put ↦ ap (file (made bag algs info)) put.1 ∙ tag_there put.0 c put.2
    | inr old ↦ (these_files bag algs info q c).1 (inl (payload.from q c old))
  ]

  from_made : (q c : List ℕ) → file (made bag algs info) q ≡ Some c → fin.get ended.files q ≡ Some c
  from_made q c at =
      to_put (λ p. p) tags named.files q c
      (elim (contains_either (new_payload (files_of bag)) tags (q, c)
      (found q c (new_payload (files_of bag) ++ tags) (sym (held bag algs info q) ∙ at))) [
        | inl a ↦ (let old = payload_member bag algs info q c a
            in inr (ap (fin.get named.files) old.1 ∙ payload.to old.0 c (held_at bag.files old.0 c old.2)))
        | inr b ↦ inl (q, refl, b)
      ]) (one_there q c at)

  -- the names that are moved are those of the files, and data
  names_test : (q : List ℕ)
      → list_any (eq_by_cmp text_cmp q) names
      ≡ (list_any (bytes_eq q) (firsts bag) || list_any (eq_by_cmp text_cmp q) data_there)
  names_test q = grind (arith, texts_ties, same_any, firsts, list_any-append)

  no_data : (b : Bool) (q : List ℕ) → eq_by_cmp text_cmp q data_folder ≡ false
      → list_any (eq_by_cmp text_cmp q) (cond b (data_folder ∷ []) []) ≡ false
  no_data true q other = rw other refl
  no_data false q other = refl

  same_folders : ended.folders ≡ (made bag algs info).folders
  same_folders = same_set nat_list_cmp_total exact_texts ended.folders (made bag algs info).folders (λ q.
      contains-remove nat_list_cmp_total (set.insert filled.folders data_folder) new_folder q
      ∙ ap (λ b. not (eq_by_cmp text_cmp q new_folder) && b)
      (contains-insert nat_list_cmp_total filled.folders data_folder q
      ∙ ap (λ b. eq_by_cmp text_cmp q data_folder || b)
      (moved_folders names begun q
      ∙ (λ i. not (names_test q i) && contains-insert nat_list_cmp_total bag.folders new_folder q i)))
      ∙ agree (eq_by_cmp text_cmp q new_folder) (eq_by_cmp text_cmp q data_folder) (list_any (bytes_eq q) (firsts bag))
      _ (has_folder bag q)
      (λ new. ap (λ p. eq_by_cmp text_cmp p data_folder) (one_text q new_folder new)) (λ new.
      ap (has_folder bag) (one_text q new_folder new) ∙ absent)
      (no_data (has_folder bag data_folder) q)
      ∙ sym (left_test bag algs info q))

  pub they_make : after_steps (steps bag algs info) bag ≡ made bag algs info
  they_make =
      let files = same_files ended.files (made bag algs info).files to_made from_made in
      all_steps ∙ (λ i. record { files = files i; folders = same_folders i })

pub steps_make : StepsMake
steps_make bag algs info is free absent = they_make bag algs info is free absent
