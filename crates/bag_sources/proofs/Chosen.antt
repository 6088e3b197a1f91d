-- The files whose digests are to be compared, and their faults.
use Rattle.bag_sources.proofs.Common.{arith, ◌≡◌, ◌≢◌, ◌<◌, ◌++◌, ◌∷◌, ◌⊎◌, inl, inr, ℕ, true, false, List, []}
use Rattle.bag_sources.proofs.Common.{length, map, take, get_or, Option, None, Some, Contains, refl, sym, ap, ◌∙◌, subst}
use Rattle.bag_sources.proofs.Common.{is_some, nat_cmp_is, Ordering, Less, length-map, map-append, take-map, eqb-true}
use Rattle.bag_sources.proofs.Common.{ltb-true, stage, IsListOf, text_cmp, contains_behind, contains_cases, contains_first}
use Rattle.bag_sources.proofs.Common.{contains_front, contains_nothing, joined, member_has, nothing_listed, one_listed}
use Rattle.bag_sources.proofs.Common.{same_members, Bag, file, HasFile, FileEntry, fault_cmp, Fault, not_both}
use Rattle.bag_sources.proofs.Common.{fault_cmp_total, paths_of, Depth, Declaration, Full}
use Rattle.bag_sources.proofs.Common.{before_next, less_by_path, faults_of_bytes, IsNamed, IsFaultOfFile}
use Rattle.bag_sources.proofs.Common.{IsOfValidity, Expected, validity_of_stage_seven, above, is_above, filtered_list}
use Rattle.bag_sources.proofs.Common.{AreToSum, IsNamedAhead, HasItsFaults, faults_at, faults_in, faults_of_files}
use Rattle.bag_sources.proofs.Common.{paths_to_sum, is_passed, ToSum, is_lt, false_from_ne_true}
use Rattle.bag_sources.proofs.Common.{Contains-push_cases, Contains-push, nil_from_length}
use Rattle.std.specs.List.Sorted.{IsStrictlySortedBy}
use Rattle.std.proofs.Math.ListN.{get_or-map}
use Rattle.bag_stages.specs.Given.{AreNaming}
use Rattle.bag_stages.proofs.SummedFiles.{faulty_is_summed, named_some, some_named}

-- no file was gone through yet
module _ (bag : Bag) (after : Option Fault) where
  pub none_chosen : AreToSum bag after [] []
  none_chosen = record {
    paths = nothing_listed text_cmp _ (λ path h. contains_nothing path h.0);
    listed = λ to_sum c. absurd (contains_nothing to_sum c);
    faults = λ to_sum c. absurd (contains_nothing to_sum c);
  }

  -- one file more, after all of them
  module _ (before : List FileEntry) (file : FileEntry) (chosen : List ToSum)
      (so_far : AreToSum bag after before chosen) where
    abbrev IsBefore : List ℕ → Type 0
    IsBefore path = Contains (paths_of before) path × IsNamedAhead bag after path

    abbrev IsNow : List ℕ → Type 0
    IsNow path = Contains (paths_of (before ++ file ∷ [])) path × IsNamedAhead bag after path

    paths_now : paths_of (before ++ file ∷ []) ≡ paths_of before ++ file.path ∷ []
    paths_now = map-append (λ (entry : FileEntry). entry.path) before (file ∷ [])

    from_before : (path : List ℕ) → IsBefore path → IsNow path
    from_before path h =
        (subst (λ l. Contains l path) (sym paths_now) (contains_front (paths_of before) (file.path ∷ []) path h.0), h.1)

    to_cases : (path : List ℕ) → IsNow path → IsBefore path ⊎ ((path ≡ file.path) × IsNamedAhead bag after path)
    to_cases path h =
        elim (Contains-push_cases (paths_of before) file.path path (rw (← paths_now) h.0))
        [ inl a ↦ inl (a, h.1) | inr same ↦ inr (sym same, h.1) ]

    pub passed_over : ¬ (IsNamedAhead bag after file.path) → AreToSum bag after (before ++ file ∷ []) chosen
    passed_over lacks = record {
      paths = same_members text_cmp IsBefore IsNow (paths_to_sum chosen) from_before
          (λ path h. elim (to_cases path h)
          [ inl a ↦ a | inr b ↦ absurd (lacks (subst (IsNamedAhead bag after) b.0 b.1)) ]) so_far.paths;
      listed = λ t c. contains_front before (file ∷ []) t.file (so_far.listed t c);
      faults = so_far.faults;
    }

    module _ (to_sum : ToSum) (is : to_sum.file ≡ file) (ahead : IsNamedAhead bag after file.path)
        (tells : HasItsFaults bag to_sum)
        (less : (path : List ℕ) → Contains (paths_of before) path → text_cmp path file.path ≡ Less) where
      pub added : AreToSum bag after (before ++ file ∷ []) (chosen ++ to_sum ∷ [])
      added = record {
        paths =
            rw (map-append (λ (t : ToSum). t.file.path) chosen (to_sum ∷ []), is)
            (same_members text_cmp (λ path. IsBefore path ⊎ (path ≡ file.path)) IsNow
            (paths_to_sum chosen ++ file.path ∷ [])
            (λ path h. elim h [
              | inl a ↦ from_before path a
              | inr e ↦ rw e (rw paths_now (Contains-push (paths_of before) file.path), ahead)
            ])
            (λ path h. elim (to_cases path h) [ inl a ↦ inl a | inr b ↦ inr b.0 ])
            (joined text_cmp IsBefore (λ path. path ≡ file.path) (paths_to_sum chosen) (file.path ∷ []) so_far.paths
            (one_listed text_cmp _ file.path refl (λ y e. e)) (λ x y a e. rw e (less x a.0))));
        listed = λ t c. elim (Contains-push_cases chosen to_sum t c) [
          | inl a ↦ contains_front before (file ∷ []) t.file (so_far.listed t a)
          | inr e ↦ rw (← e, is) (Contains-push before file)
        ];
        faults =
            λ t c. elim (Contains-push_cases chosen to_sum t c)
            [ inl a ↦ so_far.faults t a | inr e ↦ subst (HasItsFaults bag) e tells ];
      }

-- the first files of a list stand before the next
module _ (files : List FileEntry) (i : ℕ) (file : FileEntry) (lt : i < length files)
    (at : file ≡ get_or files i file) where
  pub behind_all : IsStrictlySortedBy text_cmp (paths_of files) → (path : List ℕ)
      → Contains (paths_of (take i files)) path → text_cmp path file.path ≡ Less
  behind_all ordered path c =
      let path_of : FileEntry → List ℕ = λ entry. entry.path in
      let within : i < length (paths_of files) = rw (length-map files path_of) lt in
      let next : file.path ≡ get_or (paths_of files) i file.path =
      ap path_of at ∙ sym (get_or-map path_of files i file) in
      before_next text_cmp (paths_of files) i file.path path ordered within next
      (subst (λ l. Contains l path) (sym (take-map path_of i files)) c)

pub full_or_not : (d : Depth) → (d ≡ Full) ⊎ (d ≢ Full)
full_or_not d = grind arith

pub not_declaration : (depth : Depth) → depth ≡ Full → depth ≢ Declaration
not_declaration depth full is = let clash : Full ≡ Declaration = sym full ∙ is in cc

-- what gives the faults of each content gives those of the file
tells_by : (bag : Bag) (to_sum : ToSum) (content : Option (List ℕ)) → file bag to_sum.file.path ≡ content
    → ((bytes : List ℕ) → file bag to_sum.file.path ≡ Some bytes
    → IsListOf fault_cmp (IsFaultOfFile bag to_sum.file.path)
    (faults_of_bytes to_sum.file.path bytes to_sum.expected))
    → IsListOf fault_cmp (IsFaultOfFile bag to_sum.file.path) (faults_at to_sum content)
tells_by bag to_sum None none each = nothing_listed fault_cmp (IsFaultOfFile bag to_sum.file.path) (λ f h.
    let there : HasFile bag to_sum.file.path = subst (HasFile bag) h.1 (faulty_is_summed bag f h.0).0 in
    let clash : false ≡ true = sym (ap is_some none) ∙ there in cc)
tells_by bag to_sum (Some bytes) there each = each bytes there

pub tells : (bag : Bag) (to_sum : ToSum)
    → ((bytes : List ℕ) → file bag to_sum.file.path ≡ Some bytes
    → IsListOf fault_cmp (IsFaultOfFile bag to_sum.file.path)
    (faults_of_bytes to_sum.file.path bytes to_sum.expected))
    → HasItsFaults bag to_sum
tells bag to_sum each = tells_by bag to_sum (file bag to_sum.file.path) refl each

-- there is a digest exactly where a manifest names the file
pub named_by : (bag : Bag) (path : List ℕ) (expected : List Expected)
    → AreNaming bag path (map (λ one. one.alg) expected) → expected ≢ [] → IsNamed bag path
named_by bag path expected are some =
    some_named bag path (map (λ one. one.alg) expected) are
    (λ none. some (nil_from_length expected (sym (length-map expected (λ (one : Expected). one.alg)) ∙ ap length none)))

pub unnamed_by : (bag : Bag) (path : List ℕ) (expected : List Expected)
    → AreNaming bag path (map (λ one. one.alg) expected) → expected ≡ [] → ¬ (IsNamed bag path)
unnamed_by bag path expected are none named =
    named_some bag path (map (λ one. one.alg) expected) are named (ap (map (λ (one : Expected). one.alg)) none)

-- a fault of an earlier stage is less
pub less_by_stage : (x y : Fault) → stage x.code < stage y.code → fault_cmp x y ≡ Less
less_by_stage x y less = rw (sym (nat_cmp_is (stage x.code) (stage y.code) Less less)) refl

-- a fault above a cursor is of a file that the cursor hasn't passed
pub less_is : (o : Ordering) → is_lt o ≡ true → o ≡ Less
less_is o h = grind arith

passed_is_less : (cursor f : Fault) → stage f.code ≡ 7 → is_passed (Some cursor) f.path ≡ true
    → fault_cmp f cursor ≡ Less
passed_is_less cursor f seven = grind (arith, less_by_stage, stage, ltb-true, less_by_path, eqb-true, less_is)

pub ahead_of : (bag : Bag) (after : Option Fault) (f : Fault) → IsOfValidity bag f → is_above after f ≡ true
    → is_passed after f.path ≡ false
ahead_of bag after f valid above =
    grind (arith, false_from_ne_true, not_both fault_cmp_total, passed_is_less, validity_of_stage_seven, less_is)

-- the faults of files that have them, one file after another
module _ (bag : Bag) (after : Option Fault) where
  abbrev IsAbove : Fault → Type 0
  IsAbove f = IsOfValidity bag f × (is_above after f ≡ true)

  abbrev pub Among : List (List ℕ) → Fault → Type 0
  Among paths f = Contains paths f.path × IsAbove f

  pub listed_faults : (files : List ToSum) → IsStrictlySortedBy text_cmp (paths_to_sum files)
      → ((to_sum : ToSum) → Contains files to_sum → HasItsFaults bag to_sum)
      → IsListOf fault_cmp (Among (paths_to_sum files)) (faults_of_files bag after files)
  unfolding IsStrictlySortedBy
  listed_faults [] s tell = nothing_listed fault_cmp (Among []) (λ f h. contains_nothing f.path h.0)
  listed_faults (t ∷ ts) s tell =
      let path : List ℕ = t.file.path in
      let paths : List (List ℕ) = paths_to_sum ts in
      let first =
      filtered_list fault_cmp (IsFaultOfFile bag path) (is_above after) (faults_in bag t)
      (tell t (contains_first t ts)) in
      same_members fault_cmp (λ f. (IsFaultOfFile bag path f × (is_above after f ≡ true)) ⊎ Among paths f)
      (Among (path ∷ paths)) (above after (faults_in bag t) ++ faults_of_files bag after ts)
      (λ f h. elim h [
        | inl a ↦ (rw a.0.1 (contains_first path paths), (a.0.0, a.1))
        | inr b ↦ (contains_behind path paths f.path b.0, b.1)
      ])
      (λ f h. elim (contains_cases path paths f.path h.0)
      [ inl e ↦ inl ((h.1.0, sym e), h.1.1) | inr c ↦ inr (c, h.1) ])
      (joined fault_cmp (λ f. IsFaultOfFile bag path f × (is_above after f ≡ true)) (Among paths)
      (above after (faults_in bag t)) (faults_of_files bag after ts)
      first (listed_faults ts s.1 (λ other c. tell other (contains_behind t ts other c)))
      (λ x y a b. less_by_path x y (validity_of_stage_seven bag x a.0.0 ∙ sym (validity_of_stage_seven bag y b.1.0))
      (rw a.0.1 (member_has _ paths y.path s.0 b.0))))
