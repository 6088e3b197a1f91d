-- Which lines of a manifest name a path again, by the entries that are read at first.
use Rattle.bag_read.proofs.Common.{Bool, List, Some, ap, arith, false, refl, ℕ, ◌<◌, ◌∙◌, ◌≡◌, eq-or-lt_of_le}
use Rattle.bag_read.proofs.Common.{cases_lt, get_or_from_slice_get, slice_get-get_or, slice_get_within}
use Rattle.bag_read.proofs.Common.{slice_get, nat_cmp, on, Contains, IsTrue, ◌↔◌, IsLine, IsListOf, Alg, Rules}
use Rattle.bag_read.proofs.Common.{entries_read, ReadsManifest, named_before, IsRepeatedLine}
use Rattle.bag_read.proofs.Common.{FindsRepeats, Kind, ManifestEntry}
use Rattle.std.proofs.lemmas.Map.Keys.{Less-from_sorted}
use Rattle.bag_read.proofs.FaultOrder.{lower}
use Rattle.bag_read.proofs.LinesRead.{IsRead, entries_listed}
use Rattle.bag_read.proofs.ManifestEntries.{named_earlier, earlier_named}
use Rattle.bag_read.proofs.ManifestFaults.{line_of, reads, entry_parts, numbered}
use Rattle.bag_read.proofs.Reason.{clash, ok_same}

-- what is read at first, with no line known to name a path again
module _ (rules : Rules) (kind : Kind) (alg : Alg) (all : List (List ℕ)) (at_first : ℕ → List ℕ → Bool)
    (none_known : (n : ℕ) (path : List ℕ) → at_first n path ≡ false) where
  abbrev items : List ManifestEntry
  items = entries_read (reads rules kind alg at_first) all

  abbrev listed : IsListOf (on line_of nat_cmp) (IsRead (reads rules kind alg at_first) all line_of) items
  listed = entries_listed (reads rules kind alg at_first) all line_of (numbered rules kind alg at_first)

  abbrev IsOfLine : ManifestEntry → Type 0
  IsOfLine e = (line : List ℕ) × IsLine all e.line line × ReadsManifest rules kind alg line e.digest e.path

  item_is : (i : ℕ) (e : ManifestEntry) → slice_get items i ≡ Some e → IsOfLine e
  item_is i e at =
      let (line, there, (some, read)) =
      (listed.members e).0 (i, slice_get_within items i e at, get_or_from_slice_get items i e e at) in
      (line, there, (some, (entry_parts rules kind alg at_first e.line line e read).0))

  is_item : (e : ManifestEntry) → IsOfLine e → (i : ℕ) × (slice_get items i ≡ Some e)
  is_item e (line, at, (some, is)) =
      let c = (listed.members e).1 (line, at, (some, rw (is, none_known e.line e.path) refl)) in
      (c.0, slice_get-get_or items c.0 e c.1 ∙ ap Some c.2)

  lines_ascend : (i j : ℕ) (x y : ManifestEntry) → i < j → slice_get items i ≡ Some x → slice_get items j ≡ Some y
      → x.line < y.line
  lines_ascend i j x y h e f =
      lower x.line y.line
      (rw (get_or_from_slice_get items i x x e, get_or_from_slice_get items j y x f) at
      (Less-from_sorted (on line_of nat_cmp) items i j x listed.ascending h (slice_get_within items j y f)))

  places_ascend : (i j : ℕ) (x y : ManifestEntry) → slice_get items i ≡ Some x → slice_get items j ≡ Some y
      → x.line < y.line → i < j
  places_ascend i j x y e f low = grind (arith, cases_lt, eq-or-lt_of_le, lines_ascend)

  one_path : (n m : ℕ) (l k d c p q : List ℕ) → n ≡ m → IsLine all n l → IsLine all m k
      → ReadsManifest rules kind alg l d p → ReadsManifest rules kind alg k c q → p ≡ q
  one_path n m l k d c p q e at there reads again = grind (arith, ok_same)

  -- lines that are found to name a path again among these entries tell repeats
  pub repeats_told : (names_again : ℕ → List ℕ → Bool)
      → ((n : ℕ) (path : List ℕ) → IsTrue (names_again n path) ↔ IsRepeatedLine items n)
      → FindsRepeats rules kind alg all names_again
  repeats_told names_again is n line digest path at reads =
      (λ t. to ((is n path).0 t), λ c. (is n path).1 (from (named_earlier rules kind alg all n path c)))
    where
      to : IsRepeatedLine items n → Contains (named_before rules kind alg all n) path
      to (i, e, w, there, line_is, (j, d, low, before, same)) =
          grind (arith, item_is, lines_ascend, one_path, reads, earlier_named, same)

      from : (k : ℕ) × (l c : List ℕ) × (k < n) × IsLine all k l × ReadsManifest rules kind alg l c path
          → IsRepeatedLine items n
      from (k, l, c, low, there, read) =
          let (i, this) = is_item (record { line = n; digest = digest; path = path }) (line, at, reads) in
          let (j, earlier) = is_item (record { line = k; digest = c; path = path }) (l, there, read) in (
            i,
            _,
            slice_get_within items i _ this,
            this,
            refl,
            (j, _, places_ascend j i _ _ earlier this low, earlier, refl),
          )

  -- where no line names a path again, none needs to be known
  pub none_told : ((n : ℕ) → ¬ (IsRepeatedLine items n)) → FindsRepeats rules kind alg all at_first
  none_told none =
      repeats_told at_first (λ n path.
      (λ t. absurd (clash (at_first n path) t (none_known n path)), λ r. absurd (none n r)))
