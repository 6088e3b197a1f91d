-- The faults of one file's digests, one manifest after another.
use Rattle.bag_stages.proofs.Common.{arith, ◌≡◌, ◌≢◌, ◌≤◌, ℕ, Bool, true, false, cond, List, length, take, Option, None}
use Rattle.bag_stages.proofs.Common.{Some, refl, sym, ap, ◌∙◌, subst, bytes_eq, Contains, on, Less, bytes_eq-Decides}
use Rattle.bag_stages.proofs.Common.{encode_lower, algs, rank_cmp, IsListOf, IsOnly, text_cmp, Alg, nothing_listed}
use Rattle.bag_stages.proofs.Common.{same_members, IsEntry, Kind, ManifestEntry, entry_named, entry_of_path_once, Bag}
use Rattle.bag_stages.proofs.Common.{file, digest, fault_cmp, of_path, Fault, rules_in, entry_paths, AreEntriesOf}
use Rattle.bag_stages.proofs.Common.{lines_in, lines_or_none, manifest_of, Names, IsSpelledBy, differing}
use Rattle.bag_stages.proofs.Common.{differing_code, sum_differs, kind_of, expected_and_found, IsEntryIn, IsFaultOfFile}
use Rattle.bag_stages.proofs.Common.{Expected, ◌<◌, ◌+◌, ◌++◌, ◌∷◌, ◌⊎◌, ◌↔◌, [], map, get_or, filter_map, cons_option}
use Rattle.bag_stages.proofs.Common.{option_to_list, append-nil, map-append, filter_map-append, one_listed, only_listed}
use Rattle.bag_stages.proofs.Common.{AreNaming, IsGivenBy, faults_of_bytes}
use Rattle.bag_facts.proofs.AlgsOf.{all_algs, no_alg_yet, one_alg_more, one_alg_other, AreThose}
use Rattle.bag_stages.proofs.ByItem.{OfSome, all_algs_listed, next_alg_listed, no_items}
use Rattle.bag_stages.proofs.InFile.{less_by_alg}
use Rattle.bag_stages.proofs.NamesByKind.{entry_kind}
use Rattle.bag_stages.proofs.ReadManifest.{has_path}
use Rattle.bag_stages.proofs.ValidityFaults.{entry_of_validity, fault_of_sum, validity_of_entry}
use Rattle.bag_stages.proofs.Sorted.{either_listed}

-- the fault of a file that is there, by its entry in one manifest
abbrev pub IsOfAlg : Bag → List ℕ → Kind → Alg → Fault → Type 0
IsOfAlg bag path kind alg f =
    (entry : ManifestEntry) × (content : List ℕ) × IsEntryIn bag kind alg entry × (entry.path ≡ path)
    × (file bag path ≡ Some content)
    × (entry.digest ≢ digest alg content) × (f ≡ fault_of_sum kind alg entry (digest alg content))

entries_by : (bag : Bag) (kind : Kind) (alg : Alg) (content : Option (List ℕ)) (entries : List ManifestEntry)
    → AreEntriesOf (rules_in bag) kind alg content entries
    → IsListOf (on (λ e. e.path) text_cmp) (IsEntry (rules_in bag) kind alg (lines_or_none content)) entries
entries_by bag kind alg None entries none =
    rw none (nothing_listed _ _ (λ e h. let clash : None ≡ Some h.0 = h.1.1 in cc))
entries_by bag kind alg (Some bytes) entries list = list

-- one manifest
module _ (bag : Bag) (path : List ℕ) (kind : Kind) (alg : Alg) where
  module _ (entries : List ManifestEntry)
      (are : AreEntriesOf (rules_in bag) kind alg (file bag (manifest_of kind alg)) entries) where
    pub listed : IsListOf (on (λ e. e.path) text_cmp) (IsEntryIn bag kind alg) entries
    listed = entries_by bag kind alg (file bag (manifest_of kind alg)) entries are

    -- it doesn't name a path that no entry has
    pub not_named : ¬ (Contains (entry_paths entries) path) → ¬ (Names bag kind alg path)
    not_named lacks named = lacks (has_path bag kind alg entries listed path named)

  -- one that doesn't name the file has no fault of it
  pub none_by_alg : ¬ (Names bag kind alg path) → IsOnly (IsOfAlg bag path kind alg) None
  none_by_alg lacks f h =
      lacks (subst (Names bag kind alg) h.3
      (entry_named (rules_in bag) kind alg (lines_in bag (manifest_of kind alg)) h.0 h.2))

-- a manifest that gives a digest for a path names it
pub spelled_is_named : (bag : Bag) (path : List ℕ) (kind : Kind) (one : Expected) → IsSpelledBy bag path kind one
    → Names bag kind one.alg path
spelled_is_named bag path kind one given =
    grind (
      arith,
      entry_named (rules_in bag) kind one.alg (lines_in bag (manifest_of kind one.alg)) given.entry
          given.listed,
    )

-- its fault of a file that is there
module _ (bag : Bag) (path content : List ℕ) (there : file bag path ≡ Some content) (kind : Kind)
    (right : kind ≡ kind_of path) (one : Expected) (given : IsSpelledBy bag path kind one) where
  abbrev found : List ℕ
  found = digest one.alg content

  same_entry : (f : Fault) (h : IsOfAlg bag path kind one.alg f) → h.0 ≡ given.entry
  same_entry f h =
      entry_of_path_once (rules_in bag) kind one.alg (lines_in bag (manifest_of kind one.alg)) h.0 given.entry h.2
      given.listed (h.3 ∙ sym given.path_is)

  same_content : (f : Fault) (h : IsOfAlg bag path kind one.alg f) → h.1 ≡ content
  same_content f h = let both : Some h.1 ≡ Some content = sym h.4 ∙ there in cc

  same_fault : sum_differs path one found ≡ fault_of_sum kind one.alg given.entry found
  same_fault = λ i.
      of_path (differing_code (sym right i)) (sym given.path_is i) (Some one.alg)
      (expected_and_found (sym given.digest_is i) found)

  differing_by : (same : Bool) → bytes_eq (encode_lower one.digest) found ≡ same
      → IsOnly (IsOfAlg bag path kind one.alg) (cond same None (Some (sum_differs path one found)))
  differing_by true e = λ f h.
      grind (arith, same_entry f h, same_content f h, bytes_eq-Decides (encode_lower one.digest) found)
  differing_by false e =
      let differ : given.entry.digest ≢ found = λ is.
      let clash : false ≡ true =
      sym e ∙ (bytes_eq-Decides (encode_lower one.digest) found).1 (sym given.digest_is ∙ is) in cc in (
        (given.entry, content, given.listed, given.path_is, there, differ, same_fault),
        λ f h.
            grind (arith, same_entry f h, same_content f h, same_fault),
      )

  pub only_differing : IsOnly (IsOfAlg bag path kind one.alg) (differing path content one)
  only_differing = differing_by (bytes_eq (encode_lower one.digest) found) refl

module _ (bag : Bag) (path : List ℕ) (kind : Kind) where
  less_of_alg : (a b : Alg) (x y : Fault) → IsOfAlg bag path kind a x → IsOfAlg bag path kind b y → rank_cmp a b ≡ Less
      → fault_cmp x y ≡ Less
  less_of_alg a b x y h k before = grind (arith, less_by_alg)

  to_file : (f : Fault) → (alg : Alg) × IsOfAlg bag path kind alg f → IsFaultOfFile bag path f
  to_file f (alg, (entry, content, listed, at, there, differ, is)) = grind (arith, entry_of_validity, listed)

  from_file : kind ≡ kind_of path → (f : Fault) → IsFaultOfFile bag path f → (alg : Alg) × IsOfAlg bag path kind alg f
  from_file right f (valid, of_path) =
      let some = validity_of_entry bag f valid in
      let at : some.1.1.0.path ≡ path = sym (ap (λ (f : Fault). f.path) some.1.1.2.3) ∙ of_path in
      let same : some.0 ≡ kind =
      entry_kind bag some.0 some.1.0 (lines_in bag (manifest_of some.0 some.1.0)) some.1.1.0 some.1.1.1
      ∙ ap kind_of at ∙ sym right in (
        some.1.0,
        subst (λ k. IsOfAlg bag path k some.1.0 f) same (
          some.1.1.0,
          some.1.1.2.0,
          some.1.1.1,
          at,
          sym (ap (file bag) at)
              ∙ some.1.1.2.1,
          some.1.1.2.2,
          some.1.1.2.3,
        ),
      )

-- what manifests give for a file
abbrev pub algs_of : List Expected → List Alg
algs_of expected = map (λ one. one.alg) expected

pub pushed : (h : Expected → Option Fault) (before : List Expected) (one : Expected)
    → filter_map h before ++ option_to_list (h one) ≡ filter_map h (before ++ one ∷ [])
pushed h before one = grind (arith, filter_map, filter_map-append, option_to_list, cons_option)

-- the first of those that are left was looked at
pub looked_at : (h : Expected → Option Fault) (x : Expected) (left rest : List Expected) (before all : List Fault)
    (o : Option Fault) → left ≡ x ∷ rest → before ++ filter_map h left ≡ all → o ≡ h x
    → before ++ cons_option o (filter_map h rest) ≡ all
looked_at h x left rest before all o first so_far is =
    ap (λ p. before ++ cons_option p (filter_map h rest)) is ∙ ap (λ l. before ++ filter_map h l) (sym first) ∙ so_far

with_one : (before : List Expected) (one : Expected) (alg : Alg)
    → Contains (algs_of (before ++ one ∷ [])) alg ↔ (Contains (algs_of before) alg ⊎ (alg ≡ one.alg))
with_one before one alg =
    rw (map-append (λ (e : Expected). e.alg) before (one ∷ []))
    (either_listed (Contains (algs_of before)) (λ a. a ≡ one.alg) (algs_of before) (one.alg ∷ []) (λ a.
    (λ c. c, λ c. c))
    (one_listed (λ x y. Less) (λ a. a ≡ one.alg) one.alg refl (λ y e. e)).members alg)

module _ (bag : Bag) (path : List ℕ) (kind : Kind) where
  -- this is what the manifests of these algorithms give
  pub record AreGivenBy (among : List Alg) (expected : List Expected) : Type 0 where
    pub naming : AreThose (λ alg. Names bag kind alg path) among (algs_of expected)
    pub faults : (content : List ℕ) → file bag path ≡ Some content
        → IsListOf fault_cmp (OfSome (IsOfAlg bag path kind) among) (faults_of_bytes path content expected)

  pub none_yet : AreGivenBy [] []
  none_yet =
      record {
        naming = no_alg_yet (λ alg. Names bag kind alg path);
        faults = λ content there.
            no_items (IsOfAlg bag path kind);
      }

  -- one more gives nothing
  pub no_more : (i : ℕ) (any : Alg) (expected : List Expected) → i < length algs → AreGivenBy (take i algs) expected
      → IsGivenBy bag path kind (get_or algs i any) None → AreGivenBy (take (i + 1) algs) expected
  no_more i any expected lt so_far none = record {
    naming = one_alg_other (λ alg. Names bag kind alg path) i any (algs_of expected) lt so_far.naming none;
    faults = λ content there.
        rw (sym (append-nil (faults_of_bytes path content expected)))
        (next_alg_listed (IsOfAlg bag path kind) (less_of_alg bag path kind) i any _ [] lt (so_far.faults content there)
        (nothing_listed fault_cmp _ (none_by_alg bag path kind (get_or algs i any) none)));
  }

  -- or gives a digest
  pub one_more : kind ≡ kind_of path → (i : ℕ) (any : Alg) (expected : List Expected) (one : Expected) → i < length algs
      → AreGivenBy (take i algs) expected
      → IsGivenBy bag path kind (get_or algs i any) (Some one) → AreGivenBy (take (i + 1) algs) (expected ++ one ∷ [])
  one_more right i any expected one lt so_far (at, given) = record {
    naming =
        one_alg_more (λ alg. Names bag kind alg path) i any (algs_of expected) lt so_far.naming
        (algs_of (expected ++ one ∷ []))
        (subst (λ a. Names bag kind a path) at (spelled_is_named bag path kind one given))
        (λ alg. subst (λ a. Contains (algs_of (expected ++ one ∷ [])) alg
        ↔ (Contains (algs_of expected) alg ⊎ (alg ≡ a))) at (with_one expected one alg));
    faults = λ content there.
        subst (IsListOf fault_cmp (OfSome (IsOfAlg bag path kind) (take (i + 1) algs)))
        (pushed (differing path content) expected one)
        (next_alg_listed (IsOfAlg bag path kind) (less_of_alg bag path kind) i any
        (faults_of_bytes path content expected)
        (option_to_list (differing path content one)) lt (so_far.faults content there)
        (only_listed fault_cmp _ (differing path content one)
        (subst (λ a. IsOnly (IsOfAlg bag path kind a) (differing path content one)) at
        (only_differing bag path content there kind right one given))));
  }

  -- all of them
  module _ (right : kind ≡ kind_of path) (i : ℕ) (expected : List Expected) (le : length algs ≤ i)
      (given : AreGivenBy (take i algs) expected) where
    pub all_naming : AreNaming bag path (algs_of expected)
    all_naming = subst (λ k. (alg : Alg) → Contains (algs_of expected) alg ↔ Names bag k alg path) right
        (all_algs (λ alg. Names bag kind alg path) i (algs_of expected) le given.naming)

    pub all_faults : (content : List ℕ) → file bag path ≡ Some content
        → IsListOf fault_cmp (IsFaultOfFile bag path) (faults_of_bytes path content expected)
    all_faults content there =
        same_members fault_cmp _ _ (faults_of_bytes path content expected) (to_file bag path kind)
        (from_file bag path kind right)
        (all_algs_listed (IsOfAlg bag path kind) (less_of_alg bag path kind) i (faults_of_bytes path content expected)
        le (given.faults content there))
