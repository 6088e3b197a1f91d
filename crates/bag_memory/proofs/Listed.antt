-- A listing of files in memory.
use Rattle.bag_memory.proofs.Common.{arith, ◌≡◌, ℕ, List, [], ◌∷◌, length, true, cond, is_some, IsTrue, All, refl, ap}
use Rattle.bag_memory.proofs.Common.{sym, ◌∙◌, subst, map, option_map, list_any, lookup, is_at, get, find, from_entries}
use Rattle.bag_memory.proofs.Common.{get-from_entries, eq_by_cmp_equiv, nat_list_cmp_total, eq_by_cmp, and_parts}
use Rattle.bag_memory.proofs.Common.{All-nil, All-cons, text_cmp, is_path, IsOrdered, size_at, listed, bag_of_files}
use Rattle.bag_memory.proofs.Common.{PassesAsBag, exact_texts, same_test, text_itself}
use Rattle.std.specs.List.Sorted.{IsStrictlySortedBy}
use Rattle.std.specs.Str.{bytes_eq}
use Rattle.bag_tree.specs.declared.listing.FileEntry.{FileEntry}
use Rattle.std.specs.FinSet as set
use Rattle.bag_memory.proofs.MemoryFiles.{file_at}

paths_listed : (es : List (List ℕ × List ℕ)) → map (λ entry. entry.path) (listed es) ≡ map (λ e. e.0) es
paths_listed [] = refl
paths_listed (e ∷ es) = grind (arith, paths_listed es)

pub listed_ascending : (es : List (List ℕ × List ℕ)) → IsStrictlySortedBy text_cmp (map (λ e. e.0) es)
    → IsStrictlySortedBy text_cmp (map (λ entry. entry.path) (listed es))
listed_ascending es ascending = subst (IsStrictlySortedBy text_cmp) (sym (paths_listed es)) ascending

-- what is true of each path with a file is true of each listed path
listed_paths : (P : List ℕ → Type 0) (es : List (List ℕ × List ℕ))
    → ((path : List ℕ) → is_some (find text_cmp path es) ≡ true → P path) → All (λ entry. P entry.path) (listed es)
listed_paths P [] is = All-nil (λ (entry : FileEntry). P entry.path)
listed_paths P (e ∷ es) is =
    All-cons (λ (entry : FileEntry). P entry.path) (record { path = e.0; size = length e.1 }) (listed es)
    (grind (arith, text_itself)) (listed_paths P es (λ path has. grind arith))

pub listed_is_ordered : (es : List (List ℕ × List ℕ)) (names : List (List ℕ))
    → IsStrictlySortedBy text_cmp (map (λ e. e.0) es) → PassesAsBag (bag_of_files es names) → IsOrdered (listed es)
listed_is_ordered es names ascending passes = record {
  ascending = listed_ascending es ascending;
  paths =
      listed_paths (λ path. IsTrue (is_path path)) es (λ path has.
      grind (arith, passes.paths path, and_parts, get-from_entries nat_list_cmp_total es path));
}

listed_size : (es : List (List ℕ × List ℕ)) (q : List ℕ)
    → size_at (listed es) q ≡ option_map length (lookup (is_at (text_cmp q)) es)
listed_size [] q = refl
listed_size (e ∷ es) q = grind (arith, same_test, listed_size es q)

pub listed_files : (es : List (List ℕ × List ℕ)) (q : List ℕ)
    → size_at (listed es) q ≡ option_map length (get (from_entries {R = text_cmp} es) q)
listed_files es q = listed_size es q ∙ ap (option_map length) (sym (file_at es q))

any_same : (names : List (List ℕ)) (q : List ℕ)
    → list_any (λ name. bytes_eq name q) names ≡ list_any (eq_by_cmp text_cmp q) names
any_same [] q = refl
any_same (name ∷ names) q = grind (arith, same_test, any_same names q)

-- whether a folder is there
pub folder_listed : (names : List (List ℕ)) (q : List ℕ)
    → list_any (λ name. bytes_eq name q) names ≡ set.contains (set.from_list {R = text_cmp} names) q
folder_listed names q = any_same names q ∙ sym (set.contains-from_list nat_list_cmp_total names q)

-- names that differ by one make sets that differ by it
pub one_folder : (es fs : List (List ℕ)) (k : List ℕ)
    → ((q : List ℕ) → list_any (eq_by_cmp text_cmp q) fs
    ≡ cond (is_at (text_cmp k) q) true (list_any (eq_by_cmp text_cmp q) es))
    → set.from_list {R = text_cmp} fs ≡ set.insert (set.from_list es) k
one_folder es fs k h =
    set.same_set nat_list_cmp_total exact_texts _ _ (λ q.
    grind (
      arith,
      set.contains-from_list nat_list_cmp_total,
      h q,
      (eq_by_cmp_equiv nat_list_cmp_total).symm,
      set.contains-insert nat_list_cmp_total,
    ))
