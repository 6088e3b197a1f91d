-- Whether entries of a manifest name each path once, and which lines name a path again.
use Rattle.bag_entries.proofs.Common.{Bool, List, Some, ap, arith, bytes_eq, cond, false, get_or, length, map, nat_eq}
use Rattle.bag_entries.proofs.Common.{nat_lt, refl, rules, sym, true, ℕ, ◌+◌, ◌<◌, ◌∙◌, ◌≡◌, ◌≤◌, ◌⊎◌, both_ways}
use Rattle.bag_entries.proofs.Common.{cases_lt, eqb-false, eqb-true, nat_tests, get_or-map, length-map}
use Rattle.bag_entries.proofs.Common.{slice_get_within, get_or_from_slice_get, bytes_eq-Decides, nat_cmp_is, Equal}
use Rattle.bag_entries.proofs.Common.{IsTotalOrder, IsDistinct, slice_get, is_eq, is_lt, nat_cmp, IsTrue}
use Rattle.std.specs.List.{IsAllAdjacentAnswer}
use Rattle.bag_entries.proofs.Common.{Ordering, ◌↔◌, Less, text_cmp}
use Rattle.bag_entries.proofs.Common.{PathsAscend, AreDifferent, IsRepeatedLine, NamesBelow, RepeatsBelow}
use Rattle.bag_entries.proofs.Common.{fingerprint, mark_of, ManifestEntry}
use Rattle.std.specs.List.Sorted.{IsPermutation, IsSortedBy, IsStrictlyIncreasing}
use Rattle.std.specs.Cmp.Rules.{comparing}
use Rattle.std.proofs.lemmas.List.Sorted.{IsPermutation-sym, sorted_far, ranks_by}
use Rattle.std.proofs.lemmas.Map.Keys.{IsDistinct-from_apart, IsDistinct-IsPermutation, apart_from_distinct}
use Rattle.std.proofs.lemmas.Map.Keys.{below_from_sorted, sorted_from_strictly_increasing}

pub clash : (b : Bool) → b ≡ true → b ≡ false → ⊥
clash b e f = both_ways b f e

same : (m n : ℕ) → m ≡ n → nat_cmp m n ≡ Equal
same m n h = sym (nat_cmp_is m n Equal h)

-- where the fingerprints increase once they are sorted, they are all different, and so are the paths
pub different_by_marks : (entries : List ManifestEntry) (found sorted : List ℕ) → found ≡ map mark_of entries
    → IsPermutation found sorted → IsStrictlyIncreasing sorted → AreDifferent entries
different_by_marks entries found sorted are perm up = λ i j d low high same.
    let rising = sorted_from_strictly_increasing sorted up in
    let distinct =
    IsDistinct-from_apart nat_eq sorted (λ a b e below within.
    let less = below_from_sorted sorted a b e rising below within in grind (arith, nat_tests)) in
    let marks : IsDistinct nat_eq (map mark_of entries) =
    rw are at (IsDistinct-IsPermutation nat_eq (λ x y. grind (arith, nat_tests)) sorted found
    (IsPermutation-sym found sorted perm) distinct) in
    let apart =
    apart_from_distinct nat_eq (map mark_of entries) i j 0 marks low (omega (arith, length-map entries mark_of)) in
    eqb-false _ _ apart
    (get_or-map mark_of entries i d 0 (omega arith) ∙ ap fingerprint same
    ∙ sym (get_or-map mark_of entries j d 0 high))

text_total : IsTotalOrder text_cmp
text_total = search (comparing, rules)

abbrev pub path_lt : ManifestEntry → ManifestEntry → Bool
path_lt x y = is_lt (text_cmp x.path y.path)

less : (o : Ordering) → true ≡ is_lt o → o ≡ Less
less Less e = refl
less _ e = cc

-- paths of which each neighbour stands before the next ascend
pub paths_by_neighbours : (entries : List ManifestEntry) (r : Bool)
    → IsAllAdjacentAnswer (λ x y b. b ≡ path_lt x y) entries r → IsTrue r → PathsAscend entries
paths_by_neighbours entries true h t = λ k d within.
    less (text_cmp (get_or entries k d).path (get_or entries (k + 1) d).path) (h k d within)
paths_by_neighbours entries false h t = cc

-- and so do numbers
pub numbers_by_neighbours : (numbers : List ℕ) (r : Bool)
    → IsAllAdjacentAnswer (λ x y b. b ≡ nat_lt x y) numbers r → IsTrue r → IsStrictlyIncreasing numbers
numbers_by_neighbours numbers true h t = λ k within.
    let low : true ≡ nat_lt (get_or numbers k 0) (get_or numbers (k + 1) 0) = h k 0 within in
    grind (arith, nat_tests, low)
numbers_by_neighbours numbers false h t = cc

-- paths that ascend are all different
pub different_by_order : (entries : List ManifestEntry) → PathsAscend entries → AreDifferent entries
different_by_order entries up = λ i j d low high same.
    let sorted : IsSortedBy path_lt entries = λ k e below within.
    rw (text_total.antisymm (get_or entries (k + 1) e).path (get_or entries k e).path, up k e within) refl in
    let far : is_lt (text_cmp (get_or entries j d).path (get_or entries (i + 1) d).path) ≡ false =
    sorted_far path_lt (ranks_by text_total (λ (e : ManifestEntry). e.path)) entries sorted (i + 1) j d
    (omega arith) high in
    let near : text_cmp (get_or entries j d).path (get_or entries (i + 1) d).path ≡ Less =
    rw same at (up i d (omega arith)) in
    let none = rw near at far in
    cc

-- a set of no line has those that name a path again, where the paths are all different
pub none_named_again : (entries : List ManifestEntry) → AreDifferent entries → (n : ℕ) (b : Bool) → b ≡ false
    → IsTrue b ↔ IsRepeatedLine entries n
none_named_again entries different n b e = (λ h. absurd (clash b h e), λ r. absurd (none_repeated r))
  where
    none_repeated : ¬ (IsRepeatedLine entries n)
    none_repeated (i, e, w, there, line_is, (j, d, low, before, same)) =
        different j i e low w
        (rw (get_or_from_slice_get entries j d e before, get_or_from_slice_get entries i e e there) same)

-- one entry more
module _ (entries : List ManifestEntry) (k : ℕ) (e : ManifestEntry) (at : slice_get entries k ≡ Some e) where
  here : (i : ℕ) (d : ManifestEntry) → i ≡ k → slice_get entries i ≡ Some d → d ≡ e
  here i d place there = cc

  repeats_either : (n : ℕ) → RepeatsBelow entries (k + 1) n
      → RepeatsBelow entries k n ⊎ ((e.line ≡ n) × NamesBelow entries k e.path)
  repeats_either n (i, d, low, there, line, names) = grind (arith, cases_lt, here)

  -- a set of paths with the entry's path
  pub path_more : (old new : List ℕ → Bool) → ((path : List ℕ) → new path ≡ cond (bytes_eq e.path path) true (old path))
      → ((path : List ℕ) → IsTrue (old path) ↔ NamesBelow entries k path)
      → (path : List ℕ) → IsTrue (new path) ↔ NamesBelow entries (k + 1) path
  path_more old new step is path = (
    λ h. grind (arith, step path, is path, bytes_eq-Decides),
    λ h.
        grind (arith, step path, is path, bytes_eq-Decides, cases_lt, here),
  )

  -- a set of lines with the entry's line, where the path was named
  pub line_more : NamesBelow entries k e.path → (old new : ℕ → Bool)
      → ((n : ℕ) → new n ≡ cond (is_eq (nat_cmp e.line n)) true (old n))
      → ((n : ℕ) → IsTrue (old n) ↔ RepeatsBelow entries k n)
      → (n : ℕ) → IsTrue (new n) ↔ RepeatsBelow entries (k + 1) n
  line_more names old new step is n =
      (λ h. grind (arith, step n, is n, eqb-true, nat_lt), λ h. grind (arith, step n, is n, repeats_either, same))

  -- and where it wasn't the lines stay
  pub line_same : ¬ (NamesBelow entries k e.path) → (old : ℕ → Bool)
      → ((n : ℕ) → IsTrue (old n) ↔ RepeatsBelow entries k n) → (n : ℕ)
      → IsTrue (old n) ↔ RepeatsBelow entries (k + 1) n
  line_same none old is n = (λ h. grind (arith, is n), λ h. grind (arith, is n, repeats_either n))

-- at first nothing is below, and at last everything
pub none_below : (entries : List ManifestEntry) (path : List ℕ) (b : Bool) → b ≡ false
    → IsTrue b ↔ NamesBelow entries 0 path
none_below entries path b e = (λ h. absurd (clash b h e), λ h. let low = h.2 in absurd (omega arith))

pub no_repeats_below : (entries : List ManifestEntry) (n : ℕ) (b : Bool) → b ≡ false
    → IsTrue b ↔ RepeatsBelow entries 0 n
no_repeats_below entries n b e = (λ h. absurd (clash b h e), λ h. let low = h.2 in absurd (omega arith))

pub all_below : (entries : List ManifestEntry) (k : ℕ) (lines : ℕ → Bool) → length entries ≤ k
    → ((n : ℕ) → IsTrue (lines n) ↔ RepeatsBelow entries k n) → (n : ℕ) → IsTrue (lines n) ↔ IsRepeatedLine entries n
all_below entries k lines high is n = grind (arith, slice_get_within)
