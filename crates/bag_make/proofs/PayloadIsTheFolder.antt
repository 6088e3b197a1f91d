-- The payload of a made bag is the files of the folder, under data/.
use Rattle.bag_make.proofs.Common.{◌≡◌, ℕ, Bool, true, false, arith, cond, ◌&&◌, List, [], ◌∷◌, ◌++◌, is_some, Some}
use Rattle.bag_make.proofs.Common.{None, refl, sym, ap, ◌∙◌, subst, nat_list_cmp_total, find, is_sorted, entries_sorted}
use Rattle.bag_make.proofs.Common.{get-entries, below_all, find-where_key, is_sorted-where_key, same_entries, is_lt}
use Rattle.bag_make.proofs.Common.{eq_by_cmp, T, length-map, and_from, first-under, under_in_folder, under, is_path}
use Rattle.bag_make.proofs.Common.{is_payload_path, text_cmp, Alg, Bag, IsBag, files_of, exact_texts, payload, oxum}
use Rattle.bag_make.proofs.Common.{oxum_of_files, NewElement, File, data_folder, new_payload, new_tag_files, made}
use Rattle.bag_make.proofs.FilesAreNamed.{no_payload_tag}
use Rattle.bag_facts.proofs.Found.{found, held_at}
use Rattle.bag_make.proofs.Held.{none_by, all, held, tag_member, payload_member}
use Rattle.bag_make.proofs.Composed.{sum_by-map}

pub in_payload : (p : List ℕ) → is_path p ≡ true → is_payload_path (under data_folder p) ≡ true
in_payload p is = grind (arith, first-under data_folder p refl, under_in_folder data_folder p refl, and_from)

below_payload : (k : List ℕ) (es : List File)
    → below_all text_cmp (under data_folder k) (new_payload es) ≡ below_all text_cmp k es
below_payload k [] = refl
below_payload k (e ∷ es) = ap (λ b. is_lt (text_cmp k e.0) && b) (below_payload k es)

-- the files stay in their order
pub sorted_payload : (es : List File) → is_sorted text_cmp (new_payload es) ≡ is_sorted text_cmp es
sorted_payload [] = refl
sorted_payload (e ∷ es) =
    ap (λ b. b && is_sorted text_cmp (new_payload es)) (below_payload e.0 es)
    ∙ ap (λ b. below_all text_cmp e.0 es && b) (sorted_payload es)

find_front : (q : List ℕ) (xs ys : List File) → find text_cmp q ys ≡ None
    → find text_cmp q (xs ++ ys) ≡ find text_cmp q xs
find_front q [] ys none = none
find_front q (x ∷ xs) ys none = ap (cond (eq_by_cmp text_cmp q x.0) (Some x.1)) (find_front q xs ys none)

-- the payload has the folder's size
pub payload_size : (es : List File) → oxum_of_files (new_payload es) ≡ oxum_of_files es
payload_size es = grind (arith, sum_by-map, length-map)

module _ (bag : Bag) (algs : List Alg) (info : List NewElement) (is_bag : IsBag bag) where
  abbrev files : List File
  files = files_of bag

  no_tag_found : (q : List ℕ) → is_payload_path q ≡ true → find text_cmp q (new_tag_files files algs info) ≡ None
  no_tag_found q is = none_by _ (λ c e.
      let m = tag_member bag algs info q c (found q c (new_tag_files files algs info) e) in
      no_payload_tag m.0 (ap is_payload_path (sym m.1) ∙ is))

  no_payload_found : (q : List ℕ) → is_payload_path q ≡ false → find text_cmp q (new_payload files) ≡ None
  no_payload_found q isnt = none_by _ (λ c e.
      let m = payload_member bag algs info q c (found q c (new_payload files) e) in
      let is = in_payload m.0 (is_bag.paths m.0 (ap is_some (held_at bag.files m.0 c m.2))).0 in
      let clash : true ≡ false = sym is ∙ ap is_payload_path (sym m.1) ∙ isnt in cc)

  found_by : (q : List ℕ) (b : Bool) → is_payload_path q ≡ b
      → cond b (find text_cmp q (all bag algs info)) None ≡ find text_cmp q (new_payload files)
  found_by q true is = find_front q (new_payload files) (new_tag_files files algs info) (no_tag_found q is)
  found_by q false isnt = sym (no_payload_found q isnt)

  found_alike : (q : List ℕ) → find text_cmp q (payload (made bag algs info)) ≡ find text_cmp q (new_payload files)
  found_alike q =
      find-where_key text_cmp is_payload_path q (λ x e. ap is_payload_path (sym (exact_texts q x e)))
      (files_of (made bag algs info))
      ∙ ap (λ o. cond (is_payload_path q) o None)
      (sym (get-entries (made bag algs info).files q) ∙ held bag algs info q)
      ∙ found_by q (is_payload_path q) refl

  pub payload_is : payload (made bag algs info) ≡ new_payload files
  payload_is =
      same_entries text_cmp nat_list_cmp_total exact_texts (payload (made bag algs info)) (new_payload files)
      (is_sorted-where_key text_cmp is_payload_path (files_of (made bag algs info))
      (entries_sorted (made bag algs info).files))
      (subst T (sym (sorted_payload files)) (entries_sorted bag.files))
      found_alike

  -- so its size is the folder's
  pub oxum_is : oxum (made bag algs info) ≡ oxum_of_files (new_payload files)
  oxum_is = ap oxum_of_files payload_is
