-- Files in memory, in the order of their paths.
use Rattle.bag_memory.proofs.Common.{◌≡◌, ℕ, ◌∷◌, [], List, true, refl, sym, ◌∙◌, subst, map, is_sorted, entries}
use Rattle.bag_memory.proofs.Common.{entries_sorted, get-entries, get-from_entries, below_all, same_entries}
use Rattle.bag_memory.proofs.Common.{AllByRecursion, Less, nat_list_cmp_total, T, and_from, text_cmp, file_map}
use Rattle.bag_memory.proofs.Common.{exact_texts, arith}
use Rattle.std.specs.List.Sorted.{IsStrictlySortedBy}

below : (path : List ℕ) (es : List (List ℕ × List ℕ)) → AllByRecursion (λ y. text_cmp path y ≡ Less) (map (λ e. e.0) es)
    → below_all text_cmp path es ≡ true
below path [] h = refl
below path (e ∷ es) h = grind (arith, and_from, below path es)

ascending : (es : List (List ℕ × List ℕ)) → IsStrictlySortedBy text_cmp (map (λ e. e.0) es)
    → is_sorted text_cmp es ≡ true
unfolding IsStrictlySortedBy
ascending [] s = refl
ascending (e ∷ es) s = grind (arith, and_from, below, ascending es)

-- the entries of files in memory are the files, in path order
pub files_are : (es : List (List ℕ × List ℕ)) → IsStrictlySortedBy text_cmp (map (λ e. e.0) es)
    → entries (file_map es) ≡ es
files_are es up =
    same_entries text_cmp nat_list_cmp_total exact_texts (entries (file_map es)) es (entries_sorted (file_map es))
    (subst T (sym (ascending es up)) tt)
    (λ q. sym (get-entries (file_map es) q) ∙ get-from_entries nat_list_cmp_total es q)
