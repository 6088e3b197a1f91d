-- An ordered listing of a bag is the list of its files.
use Rattle.bag_tree.proofs.Common.{arith, ◌≡◌, ℕ, List, [], ◌∷◌, length, Bool, true, cond, ◌&&◌, Option, Some, refl, ap}
use Rattle.bag_tree.proofs.Common.{sym, ◌∙◌, subst, map, option_map, AllByRecursion, find, is_sorted, entries_sorted}
use Rattle.bag_tree.proofs.Common.{get-entries, below_all, same_entries, is_lt, Less, nat_list_cmp_total, T, and_from}
use Rattle.bag_tree.proofs.Common.{text_cmp, files_of}
use Rattle.std.proofs.Common.{is_lt}
use Rattle.std.specs.List.Sorted.{IsStrictlySortedBy}
use Rattle.bag_tree.specs.Listing.{size_at}
use Rattle.bag_tree.specs.Laws.{ListingsAreOfTheBag}
use Rattle.bag_tree.specs.declared.listing.FileEntry.{FileEntry}
use Rattle.bag_tree.proofs.SameText.{exact_texts, same_test}

abbrev pair_of : FileEntry → List ℕ × ℕ
pair_of entry = (entry.path, entry.size)

abbrev entry_of : List ℕ × ℕ → FileEntry
entry_of e = record { path = e.0; size = e.1 }

abbrev with_length : List ℕ × List ℕ → List ℕ × ℕ
with_length e = (e.0, length e.1)

below : (path : List ℕ) (files : List FileEntry)
    → AllByRecursion (λ y. text_cmp path y ≡ Less) (map (λ entry. entry.path) files)
    → below_all text_cmp path (map pair_of files) ≡ true
below path [] h = refl
below path (e ∷ files) h = grind (arith, and_from, below path files)

pairs_sorted : (files : List FileEntry) → IsStrictlySortedBy text_cmp (map (λ entry. entry.path) files)
    → is_sorted text_cmp (map pair_of files) ≡ true
unfolding IsStrictlySortedBy
pairs_sorted [] s = refl
pairs_sorted (e ∷ files) s = and_from _ _ (below e.path files s.0) (pairs_sorted files s.1)

below-with_length : (path : List ℕ) (es : List (List ℕ × List ℕ))
    → below_all text_cmp path (map with_length es) ≡ below_all text_cmp path es
below-with_length path [] = refl
below-with_length path (e ∷ es) = ap (λ b. is_lt (text_cmp path e.0) && b) (below-with_length path es)

sorted-with_length : (es : List (List ℕ × List ℕ)) → is_sorted text_cmp (map with_length es) ≡ is_sorted text_cmp es
sorted-with_length [] = refl
sorted-with_length (e ∷ es) = grind (arith, below-with_length, sorted-with_length es)

map-cond : {A B : Type 0} (f : A → B) (b : Bool) (x : A) (o : Option A)
    → option_map f (cond b (Some x) o) ≡ cond b (Some (f x)) (option_map f o)
map-cond f b x o = grind arith

find-pairs : (files : List FileEntry) (q : List ℕ) → find text_cmp q (map pair_of files) ≡ size_at files q
find-pairs [] q = refl
find-pairs (e ∷ files) q = grind (arith, same_test, map-cond, find-pairs files q)

find-with_length : (es : List (List ℕ × List ℕ)) (q : List ℕ)
    → find text_cmp q (map with_length es) ≡ option_map length (find text_cmp q es)
find-with_length [] q = refl
find-with_length (e ∷ es) q = grind (arith, map-cond, find-with_length es q)

entries-pairs : (files : List FileEntry) → map entry_of (map pair_of files) ≡ files
entries-pairs [] = refl
entries-pairs (e ∷ files) = ap (λ others. e ∷ others) (entries-pairs files)

entries-with_length : (es : List (List ℕ × List ℕ))
    → map entry_of (map with_length es) ≡ map (λ e. record { path = e.0; size = length e.1 }) es
entries-with_length [] = refl
entries-with_length (e ∷ es) = ap (λ (others : List FileEntry). record { path = e.0; size = length e.1 } ∷ others)
    (entries-with_length es)

pub listings_are_of_the_bag : ListingsAreOfTheBag
listings_are_of_the_bag bag listing ordered is =
    let es = files_of bag in
    let left = subst T (sym (pairs_sorted listing.files ordered.ascending)) tt in
    let right = subst T (sym (sorted-with_length es)) (entries_sorted bag.files) in
    let pairs : map pair_of listing.files ≡ map with_length es =
    same_entries text_cmp nat_list_cmp_total exact_texts (map pair_of listing.files) (map with_length es) left right
    (λ q. find-pairs listing.files q ∙ is.files q ∙ ap (option_map length) (get-entries bag.files q)
    ∙ sym (find-with_length es q)) in
    sym (entries-pairs listing.files) ∙ ap (map entry_of) pairs ∙ entries-with_length es
