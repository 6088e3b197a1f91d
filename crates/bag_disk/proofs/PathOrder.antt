-- Sorted files of which no two neighbours have the same path.
use Rattle.bag_disk.proofs.Common.{◌≡◌, ℕ, ◌+◌, ◌<◌, Bool, true, false, not, List, [], length, get_or, map, is_lt}
use Rattle.bag_disk.proofs.Common.{arith, refl, sym, ap, ◌∙◌, subst, ◌↔◌, IsTrue, Less, ordering_reverse, is_eq}
use Rattle.bag_disk.proofs.Common.{IsAllAdjacentAnswer, IsSortedByKey, IsStrictlySortedBy, pointwise}
use Rattle.bag_disk.proofs.Common.{nat_list_cmp_total, texts_ties, nat_eq, get_or-map, length-map, text_cmp, FileEntry}
use Rattle.std.specs.declared.cmp.Ordering.{Ordering}
use Rattle.std.proofs.lemmas.Map.Keys.{sorted_from_all_adjacent, Less-from_sorted}

abbrev pub paths_of : List FileEntry → List (List ℕ)
paths_of files = map (λ file. file.path) files

less_case : (o : Ordering) → is_lt (ordering_reverse o) ≡ false → true ≡ not (is_eq o) → o ≡ Less
less_case Less h e = refl
less_case _ h e = cc

less_from_other : (a b : List ℕ) → is_lt (text_cmp b a) ≡ false → true ≡ not (pointwise nat_eq a b)
    → text_cmp a b ≡ Less
less_from_other a b h e =
    less_case (text_cmp a b) (sym (ap is_lt (nat_list_cmp_total.antisymm b a)) ∙ h) (e ∙ ap not (texts_ties a b))

some_file : FileEntry
some_file = record { path = []; size = 0 }

path_at : (files : List FileEntry) (k : ℕ) → k < length files
    → get_or (paths_of files) k [] ≡ (get_or files k some_file).path
path_at files k h = get_or-map (λ file. file.path) files k some_file [] h

-- neighbours that differ are in strict order, and others are not
pub sorted_and_differ : (files : List FileEntry) (r : Bool) → IsSortedByKey (λ file. file.path) text_cmp files
    → IsAllAdjacentAnswer (λ x y b. b ≡ not (pointwise nat_eq x.path y.path)) files r
    → IsTrue r ↔ IsStrictlySortedBy text_cmp (paths_of files)
sorted_and_differ files true sorted differ = (
  λ _. sorted_from_all_adjacent nat_list_cmp_total (paths_of files) [] (λ k h.
      let next : k + 1 < length files = subst (λ n. k + 1 < n) (length-map files (λ file. file.path)) h in
      let here : k < length files = omega arith in
      let first = (get_or files k some_file).path in
      let second = (get_or files (k + 1) some_file).path in
      let low : is_lt (text_cmp second first) ≡ false = sorted k some_file (omega arith) next in
      let other : true ≡ not (pointwise nat_eq first second) = differ k some_file next in
      rw (path_at files k here, path_at files (k + 1) next) (less_from_other first second low other)),
  λ _. refl,
)
sorted_and_differ files false sorted differ = (
  λ e. cc,
  λ up.
      let k = differ.0 in
      let next : k + 1 < length files = differ.1 in
      let here : k < length files = omega arith in
      let first = (get_or files k some_file).path in
      let second = (get_or files (k + 1) some_file).path in
      let within : k + 1 < length (paths_of files) =
      subst (λ n. k + 1 < n) (sym (length-map files (λ file. file.path))) next in
      let less : text_cmp first second ≡ Less =
      rw (path_at files k here, path_at files (k + 1) next) at
      (Less-from_sorted text_cmp (paths_of files) k (k + 1) [] up (omega arith) within) in
      differ.2 some_file ∙ ap not (texts_ties first second ∙ ap is_eq less),
)
