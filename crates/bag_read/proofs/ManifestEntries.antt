-- The entries of a manifest are of the paths that its lines name, one for each path.
use Rattle.bag_read.proofs.Common.{Bool, Err, List, None, Ok, Option, Result, Some, [], ap, arith, bytes_eq, cond}
use Rattle.bag_read.proofs.Common.{false, inl, inr, refl, subst, suc, sym, take, true, ℕ, ◌+◌, ◌-◌, ◌<◌, ◌∙◌, ◌∷◌, ◌≡◌}
use Rattle.bag_read.proofs.Common.{◌≢◌, ◌⊎◌, cases_Bool, cases_order, get_or-take, length-take, get_or_from_slice_get}
use Rattle.bag_read.proofs.Common.{slice_get-get_or, slice_get_within, bytes_eq-Decides, slice_get, Contains}
use Rattle.bag_read.proofs.Common.{filter_map, contains_cases, contains_nothing, IsLine, is_blank_line, Alg, Rules}
use Rattle.bag_read.proofs.Common.{IsEntry, ReadsManifest, named, named_before, path_read, Reason, Kind, ManifestEntry}
use Rattle.bag_read.proofs.Common.{manifest_line}
use Rattle.bag_read.proofs.PickedOut.{picked, is_picked}

module _ (rules : Rules) (kind : Kind) (alg : Alg) where
  -- the path that a line names
  abbrev pub path_of : List ℕ → Option (List ℕ)
  path_of line = cond (is_blank_line line) None (path_read (manifest_line rules kind alg line))

  pub path_of_reads : (line digest path : List ℕ) → ReadsManifest rules kind alg line digest path
      → path_of line ≡ Some path
  path_of_reads line digest path (some, e) = rw (some, e) refl

  reads_by : (line path : List ℕ) (b : Bool) (r : Result (List ℕ × List ℕ) Reason) → is_blank_line line ≡ b
      → manifest_line rules kind alg line ≡ r → cond b None (path_read r) ≡ Some path
      → (digest : List ℕ) × ReadsManifest rules kind alg line digest path
  reads_by line path true r e f h = cc
  reads_by line path false (Ok x) e f h = (x.0, (e, f ∙ (let same : x.1 ≡ path = cc in λ i. Ok (x.0, same i))))
  reads_by line path false (Err x) e f h = cc

  pub reads_path : (line path : List ℕ) → path_of line ≡ Some path
      → (digest : List ℕ) × ReadsManifest rules kind alg line digest path
  reads_path line path e = reads_by line path (is_blank_line line) (manifest_line rules kind alg line) refl refl e

take_has : (n : ℕ) (xs : List (List ℕ)) (x : List ℕ) → Contains (take n xs) x
    → (m : ℕ) × (m < n) × (slice_get xs m ≡ Some x)
take_has n xs x (m, low, at) = grind (arith, length-take, get_or-take, slice_get-get_or)

has_take : (n : ℕ) (xs : List (List ℕ)) (x : List ℕ) (m : ℕ) → m < n → slice_get xs m ≡ Some x → Contains (take n xs) x
has_take n xs x m low at = (
  m,
  omega (arith, length-take n xs, slice_get_within xs m x at),
  get_or-take n xs m x low
      ∙ get_or_from_slice_get xs m x x at,
)

-- the first element of which a function picks out a text
module _ {A : Type 0} (f : A → Option (List ℕ)) where
  abbrev pub IsFirstPicked : List A → List ℕ → Type 0
  IsFirstPicked xs y =
      (k : ℕ) × (x : A) × (slice_get xs k ≡ Some x) × (f x ≡ Some y) × ¬ (Contains (filter_map f (take k xs)) y)

  is_or_not : (o : Option (List ℕ)) (y : List ℕ) → (o ≡ Some y) ⊎ (o ≢ Some y)
  is_or_not None y = inr (λ e. cc)
  is_or_not (Some z) y = grind (arith, cases_Bool (bytes_eq z y), bytes_eq-Decides z y)

  in_rest : (x : A) (xs : List A) (y : List ℕ) → f x ≢ Some y → Contains (filter_map f (x ∷ xs)) y
      → Contains (filter_map f xs) y
  in_rest x xs y other c = grind (arith, contains_cases)

  pub first_picked : (xs : List A) (y : List ℕ) → Contains (filter_map f xs) y → IsFirstPicked xs y
  first_picked [] y c = absurd (contains_nothing y c)
  first_picked (x ∷ xs) y c =
      elim (is_or_not (f x) y) [
        | inl e ↦ (0, x, refl, e, contains_nothing y)
        | inr other ↦ (let (k, z, at, is, none) = first_picked xs y (in_rest x xs y other c)
            in (suc k, z, at, is, λ d. none (in_rest x (take k xs) y other d)))
      ]

module _ (rules : Rules) (kind : Kind) (alg : Alg) (all : List (List ℕ)) where
  abbrev pub NamedEarlier : ℕ → List ℕ → Type 0
  NamedEarlier n path =
      (k : ℕ) × (line digest : List ℕ) × (k < n) × IsLine all k line × ReadsManifest rules kind alg line digest path

  pub named_earlier : (n : ℕ) (path : List ℕ) → Contains (named_before rules kind alg all n) path → NamedEarlier n path
  named_earlier n path c =
      let (line, has, names) = picked (path_of rules kind alg) (take (n - 1) all) path c in
      let (m, low, at) = take_has (n - 1) all line has in
      let (digest, reads) = reads_path rules kind alg line path names in
      let step : m ≡ m + 1 - 1 = omega arith in
      (m + 1, line, digest, omega arith, (omega arith, ap (slice_get all) (sym step) ∙ at), reads)

  pub earlier_named : (n : ℕ) (path : List ℕ) → NamedEarlier n path → Contains (named_before rules kind alg all n) path
  earlier_named n path (k, line, digest, l, (some, e), r) =
      is_picked (path_of rules kind alg) (take (n - 1) all) line path
      (has_take (n - 1) all line (k - 1) (omega arith) e) (path_of_reads rules kind alg line digest path r)

  -- the path of an entry is named
  pub entry_named : (e : ManifestEntry) → IsEntry rules kind alg all e → Contains (named rules kind alg all) e.path
  entry_named e (line, (some, at), reads, first) =
      let there : Contains all line =
      (e.line - 1, slice_get_within all (e.line - 1) line at, get_or_from_slice_get all (e.line - 1) line line at)
      in
      is_picked (path_of rules kind alg) all line e.path there (path_of_reads rules kind alg line e.digest e.path reads)

  -- and a path that is named has an entry, of the first line that names it
  pub named_has_entry : (path : List ℕ) → Contains (named rules kind alg all) path
      → (e : ManifestEntry) × IsEntry rules kind alg all e × (e.path ≡ path)
  named_has_entry path c =
      let (k, line, at, names, none) = first_picked (path_of rules kind alg) all path c in
      let (digest, reads) = reads_path rules kind alg line path names in
      let step : k ≡ k + 1 - 1 = omega arith in
      let first : ¬ (Contains (named_before rules kind alg all (k + 1)) path) =
      subst (λ n. ¬ (Contains (named rules kind alg (take n all)) path)) step none in (
        record { line = k + 1; digest = digest; path = path },
        (line, (omega arith, ap (slice_get all) (sym step) ∙ at), reads, first),
        refl,
      )

  not_later : (e g : ManifestEntry) → IsEntry rules kind alg all e → IsEntry rules kind alg all g → e.path ≡ g.path
      → e.line < g.line → ⊥
  not_later e g (line, at, reads, _) (_, _, _, first) same low = grind (arith, earlier_named)

  same_line : (e g : ManifestEntry) → IsEntry rules kind alg all e → IsEntry rules kind alg all g → e.path ≡ g.path
      → e.line ≡ g.line → e ≡ g
  same_line e g (l, at, reads, _) (m, there, again, _) same n = grind arith

  -- two entries of one path are one
  pub entry_of_path_once : (e g : ManifestEntry) → IsEntry rules kind alg all e → IsEntry rules kind alg all g
      → e.path ≡ g.path → e ≡ g
  entry_of_path_once e g h k same =
      grind (
        arith,
        cases_order e.line g.line,
        not_later e g h k same,
        same_line e g h k same,
        not_later g e k h (sym same),
      )
