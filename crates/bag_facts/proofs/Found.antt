-- Files in lists and in maps.
use Rattle.bag_facts.proofs.Common.{arith, ◌≡◌, ◌∷◌, ℕ, true, false, List, [], map, Option, None, Some, is_some, refl}
use Rattle.bag_facts.proofs.Common.{sym, ap, ◌∙◌, Contains, and_parts, find, eq_by_cmp, any_from, contains_behind, from_any}
use Rattle.bag_facts.proofs.Common.{contains_cases, contains_first, contains_nothing, text_cmp, AllByRecursion}
use Rattle.bag_facts.proofs.Common.{IsStrictlySortedBy, is_lt, Less, Equal, Greater}
use Rattle.bag_facts.proofs.Mapped.{mapped_contains}
use Rattle.std.proofs.lemmas.Bool.{false_from_ne_true}
use Rattle.std.specs.FinMap as fin
use Rattle.std.specs.FinMap.{entries_sorted, get-entries, is_sorted}
use Rattle.std.specs.FinMap.Entries.{below_all, is_some-find}
use Rattle.std.specs.declared.cmp.Ordering.{Ordering}
use Rattle.bag_tree.proofs.PathEntries.{none_below, t_true}
use Rattle.bag_tree.proofs.SameText.{one_text, text_itself}
use Rattle.bag_tree.proofs.Within.{IsWithin, within_cases}
use Rattle.bag_tree.specs.Bag.{Bag, file, files_of}
use Rattle.bag_tree.specs.Moved.{is_within}
use Rattle.bag_tree.specs.Listing.{entry_of_file}
use Rattle.bag_tree.specs.Steps.{Files, has_within}
use Rattle.bag_tree.specs.declared.listing.FileEntry.{FileEntry}

abbrev File : Type 0
File = List ℕ × List ℕ

-- what is found in a list stands in it
pub found : (q c : List ℕ) (es : List File) → find text_cmp q es ≡ Some c → Contains es (q, c)
found q c [] e = cc
found q c ((k, v) ∷ es) e =
    grind (arith, one_text q k, found q c es, contains_first (k, v) es, contains_behind (k, v) es (q, c))

pub content_of : (o : Option (List ℕ)) → is_some o ≡ true → (c : List ℕ) × (o ≡ Some c)
content_of None e = cc
content_of (Some c) e = (c, refl)

-- and what stands in it is found, where no other has its path
pub found_alone : (q c : List ℕ) (es : List File) → Contains es (q, c)
    → ((d : List ℕ) → find text_cmp q es ≡ Some d → d ≡ c) → find text_cmp q es ≡ Some c
found_alone q c es h one =
    let key = λ (e : File). e.0 in
    let some = content_of (find text_cmp q es)
    (is_some-find text_cmp q es
    ∙ any_from (eq_by_cmp text_cmp q) (map key es) q (mapped_contains key es (q, c) h) (text_itself q)) in
    some.1 ∙ ap Some (one some.0 some.1)

in_order : (p c : List ℕ) (es : List File) → is_sorted text_cmp es ≡ true → Contains es (p, c)
    → find text_cmp p es ≡ Some c
in_order p c [] up h = absurd (contains_nothing (p, c) h)
in_order p c ((k, v) ∷ es) up h =
    let two = and_parts (below_all text_cmp k es) (is_sorted text_cmp es) up in
    grind (arith, contains_cases (k, v) es (p, c) h, none_below k es, one_text p k, text_itself p, in_order p c es)

is_less : (o : Ordering) → is_lt o ≡ true → o ≡ Less
is_less Less e = refl
is_less Equal e = cc
is_less Greater e = cc

-- the paths of an ordered list ascend
module _ {X : Type 0} where
  all_less : (k : List ℕ) (es : List (List ℕ × X)) → below_all text_cmp k es ≡ true
      → AllByRecursion (λ y. text_cmp k y ≡ Less) (map (λ (e : List ℕ × X). e.0) es)
  all_less k [] h = tt
  all_less k (e ∷ es) h =
      let two = and_parts (is_lt (text_cmp k e.0)) (below_all text_cmp k es) h in
      (is_less (text_cmp k e.0) two.0, all_less k es two.1)

  pub ascends : (es : List (List ℕ × X)) → is_sorted text_cmp es ≡ true
      → IsStrictlySortedBy text_cmp (map (λ (e : List ℕ × X). e.0) es)
  unfolding IsStrictlySortedBy
  ascends [] h = tt
  ascends (e ∷ es) h =
      let two = and_parts (below_all text_cmp e.0 es) (is_sorted text_cmp es) h in
      (all_less e.0 es two.0, ascends es two.1)

-- the files of a map are those of its list
pub listed : (files : Files) (p c : List ℕ) → fin.get files p ≡ Some c → Contains (fin.entries files) (p, c)
listed files p c e = found p c (fin.entries files) (sym (get-entries files p) ∙ e)

pub held_at : (files : Files) (p c : List ℕ) → Contains (fin.entries files) (p, c) → fin.get files p ≡ Some c
held_at files p c h = get-entries files p ∙ in_order p c (fin.entries files) (t_true _ (entries_sorted files)) h

-- no file stands at a path or below it, where none that is there does
pub none_there : (d : Bag) (path : List ℕ) → ((q c : List ℕ) → file d q ≡ Some c → IsWithin path q → ⊥)
    → has_within d path ≡ false
none_there d path none = false_from_ne_true _ (λ within.
    let one = from_any (λ e. is_within path e.0) (files_of d) within in
    none one.0.0 one.0.1 (held_at d.files one.0.0 one.0.1 one.1) (within_cases path one.0.0 one.2))

pub same_option : (a b : Option (List ℕ)) → ((c : List ℕ) → a ≡ Some c → b ≡ Some c)
    → ((c : List ℕ) → b ≡ Some c → a ≡ Some c) → a ≡ b
same_option None None to from = refl
same_option None (Some c) to from = from c refl
same_option (Some c) b to from = sym (to c refl)

abbrev first_path : List FileEntry → List ℕ
first_path [] = []
first_path (e ∷ es) = e.path

abbrev others_of : List FileEntry → List FileEntry
others_of [] = []
others_of (e ∷ es) = es

-- files that are listed alike, and hold what the bag holds, are the same
pub same_files : (bag : Bag) (xs ys : List File) → map entry_of_file xs ≡ map entry_of_file ys
    → ((e : File) → Contains xs e → file bag e.0 ≡ Some e.1) → ((e : File) → Contains ys e → file bag e.0 ≡ Some e.1)
    → xs ≡ ys
same_files bag [] [] same h k = refl
same_files bag (x ∷ xs) (y ∷ ys) same h k =
    let path : x.0 ≡ y.0 = ap first_path same in
    let content : Some x.1 ≡ Some y.1 =
    sym (h x (contains_first x xs)) ∙ ap (file bag) path ∙ k y (contains_first y ys) in
    let bytes : x.1 ≡ y.1 = cc in
    let rest : map entry_of_file xs ≡ map entry_of_file ys = ap others_of same in
    let others =
    same_files bag xs ys rest (λ e c. h e (contains_behind x xs e c)) (λ e c. k e (contains_behind y ys e c)) in
    λ i. (path i, bytes i) ∷ others i
same_files bag _ _ same h k = cc
