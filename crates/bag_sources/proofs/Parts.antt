-- The parts of a report.
use Rattle.bag_sources.proofs.Common.{◌≡◌, ◌≢◌, ◌<◌, ◌≤◌, ◌+◌, ◌*◌, ◌++◌, ◌∷◌, ◌∙◌, ◌⊎◌, inl, inr, ◌==◌, ◌&&◌, ℕ, zero, suc}
use Rattle.bag_sources.proofs.Common.{Bool, true, false, not, true≢false, List, [], length, take, drop, get_or, filter}
use Rattle.bag_sources.proofs.Common.{Contains, refl, sym, ap, arith, nat_lt, nat_tests}
use Rattle.bag_sources.proofs.Common.{sum_by-cons, or_left, or_right, or_cases, and_parts, eq-eqb, eqb-true}
use Rattle.bag_sources.proofs.Common.{lt-ltb, ltb-true, cases_lt, cases_Bool, is_lt, Ordering, Less, Equal, Greater}
use Rattle.bag_sources.proofs.Common.{ordering_reverse, nat_list_cmp_total, text_cmp, stage, IsListOf, same_members}
use Rattle.bag_sources.proofs.Common.{one_list, joined, filtered_list, contains_behind, contains_first}
use Rattle.bag_sources.proofs.Common.{member_has, fault_cmp, fault_cmp_total, Fault, FileEntry, paths_of}
use Rattle.bag_sources.proofs.Common.{take_one_more, IsBeforeFile}
use Rattle.std.specs.List.Sorted.{IsStrictlySortedBy}
use Rattle.std.specs.Prelude.{◌/◌, ◌^◌}
use Rattle.std.proofs.Math.Numerals.{add-one}
use Rattle.std.proofs.lemmas.List.Sums.{sum_by-append}
use Rattle.bag_faults.proofs.Ordered.{fault_cmp_same}
use Rattle.bag_tree.proofs.SameText.{exact_texts}
use Rattle.bag_sources.proofs.Chosen.{less_is}
use Rattle.bag_sources.proofs.Passed.{no_earlier, not_above}
use Rattle.bag_sources.specs.Parts.{PartsJoin, begin_of, first_after, first_parts, is_before}
use Rattle.bag_sources.specs.Parts.{is_before_file, part_of, share, weight, weight_of}
use Rattle.bag_sources.specs.declared.part.Bound.{Bound}
use Rattle.bag_sources.specs.declared.part.Bound.TheVariants.{Start, File, End}

-- ---- what files cost

weight_more : (files : List FileEntry) (i : ℕ) (file : FileEntry) → i < length files → file ≡ get_or files i file
    → weight_of (take (i + 1) files) ≡ weight_of (take i files) + weight file
weight_more files i file lt at =
    ap weight_of (take_one_more files i file lt at) ∙ sum_by-append weight (take i files) (file ∷ [])
    ∙ ap (λ n. weight_of (take i files) + n) (grind (arith, sum_by-cons))

-- one file more
pub one_weighed : (files : List FileEntry) (i : ℕ) (file : FileEntry) (before : ℕ) → i < length files
    → file ≡ get_or files i file → before ≡ weight_of (take i files)
    → before + weight file ≡ weight_of (take (i + 1) files)
one_weighed files i file before lt at is =
    ap (λ n. n + weight file) is ∙ sym (weight_more files i file lt at)

-- ---- the first file by whose middle so much has come

-- none of the first i files is it, before which so much has come
pub record ComesTo (least : ℕ) (files : List FileEntry) (i before : ℕ) : Type 0 where
  pub weighed : before ≡ weight_of (take i files)
  pub small : before ≤ i * 2 ^ 65
  pub later : first_after least 0 files ≡ first_after least (weight_of (take i files)) (drop i files)

pub begins_at : (least before : ℕ) (file : FileEntry) (files : List FileEntry) → least ≤ before + weight file / 2
    → first_after least before (file ∷ files) ≡ File file.path
begins_at least before file files le = grind (arith, nat_tests)

pub passes_over : (least before : ℕ) (file : FileEntry) (files : List FileEntry) → before + weight file / 2 < least
    → first_after least before (file ∷ files) ≡ first_after least (before + weight file) files
passes_over least before file files lt = grind (arith, nat_tests)

-- ---- a fault before a file

from_before : (path : List ℕ) (f : Fault) → is_before_file path f ≡ true → IsBeforeFile f path
from_before path f h = grind (arith, or_cases, and_parts, eqb-true, ltb-true, less_is)

pub to_before : (path : List ℕ) (f : Fault) → IsBeforeFile f path → is_before_file path f ≡ true
to_before path f (inl low) =
    or_left (nat_lt (stage f.code) 7) (stage f.code == 7 && is_lt (text_cmp f.path path)) (lt-ltb (stage f.code) 7 low)
to_before path f (inr (seven, less)) = grind (arith, eq-eqb, or_right, nat_lt, is_lt)

not_greater_less : (x y path : List ℕ) → text_cmp x y ≢ Greater → text_cmp y path ≡ Less → text_cmp x path ≡ Less
not_greater_less x y path le less = grind (arith, nat_list_cmp_total.trans x y path, exact_texts x y)

-- a lesser fault stands before it too
lesser_before : (path : List ℕ) (f g : Fault) → fault_cmp f g ≡ Less → IsBeforeFile g path → IsBeforeFile f path
lesser_before path f g less (inl low) = inl (omega (arith, low, no_earlier f g less path))
lesser_before path f g less (inr (seven, at)) = elim (cases_lt (stage f.code) 7) [
  | inl low ↦ inl low
  | inr le ↦ (let same : stage f.code ≡ 7 = omega (arith, le, seven, no_earlier f g less path) in inr (
    same,
    not_greater_less f.path g.path path (not_above f g less path (seven ∙ sym same)) at,
  ))
]

-- and it stands before each later file
before_later : (path later : List ℕ) (f : Fault) → text_cmp path later ≡ Less → IsBeforeFile f path
    → IsBeforeFile f later
before_later path later f less (inl low) = inl low
before_later path later f less (inr (seven, at)) = inr (seven, nat_list_cmp_total.trans f.path path later at less)

lesser_too : (bound : Bound) (f g : Fault) → fault_cmp f g ≡ Less → is_before bound g ≡ true → is_before bound f ≡ true
lesser_too Start f g less h = h
lesser_too (File path) f g less h = to_before path f (lesser_before path f g less (from_before path g h))
lesser_too End f g less h = refl

-- ---- each part begins after those before it

-- it is one of the files, or none
pub ends_or_is : (least before : ℕ) (files : List FileEntry)
    → (first_after least before files ≡ End)
    ⊎ ((path : List ℕ) × Contains (paths_of files) path × (first_after least before files ≡ File path))
ends_or_is least before [] = inl refl
ends_or_is least before (file ∷ files) = elim (cases_lt (before + weight file / 2) least) [
  | inl lt ↦ elim (ends_or_is least (before + weight file) files) [
    | inl e ↦ inl (passes_over least before file files lt ∙ e)
    | inr (path, c, e) ↦ inr (
      path,
      contains_behind file.path (paths_of files) path c,
      passes_over least before file files lt ∙ e,
    )
  ]
  | inr le ↦ inr (file.path, contains_first file.path (paths_of files), begins_at least before file files le)
]

behind_first : (file : FileEntry) (files : List FileEntry) (f : Fault) (bound : Bound)
    → IsStrictlySortedBy text_cmp (paths_of (file ∷ files)) → is_before_file file.path f ≡ true
    → (bound ≡ End) ⊎ ((path : List ℕ) × Contains (paths_of files) path × (bound ≡ File path))
    → is_before bound f ≡ true
unfolding IsStrictlySortedBy
behind_first file files f bound s h (inl e) = rw e refl
behind_first file files f bound s h (inr (path, c, e)) =
    rw e (to_before path f
    (before_later file.path path f (member_has _ (paths_of files) path s.0 c) (from_before file.path f h)))

pub sorted_behind : (file : FileEntry) (files : List FileEntry) → IsStrictlySortedBy text_cmp (paths_of (file ∷ files))
    → IsStrictlySortedBy text_cmp (paths_of files)
unfolding IsStrictlySortedBy
sorted_behind file files s = s.1

later_file : (low high before : ℕ) (files : List FileEntry) (f : Fault) → low ≤ high
    → IsStrictlySortedBy text_cmp (paths_of files)
    → is_before (first_after low before files) f ≡ true → is_before (first_after high before files) f ≡ true
later_file low high before [] f le s h = h
later_file low high before (file ∷ files) f le s h = elim (cases_lt (before + weight file / 2) low) [
  | inl few ↦ rw (passes_over high before file files (omega (arith, few, le)))
      (later_file low high (before + weight file) files f le (sorted_behind file files s)
      (rw (passes_over low before file files few) at h))
  | inr enough ↦ (let first : is_before_file file.path f ≡ true = rw (begins_at low before file files enough) at h in
      elim (cases_lt (before + weight file / 2) high) [
        | inl few ↦ rw (passes_over high before file files few)
            (behind_first file files f (first_after high (before + weight file) files) s first
            (ends_or_is high (before + weight file) files))
        | inr all ↦ rw (begins_at high before file files all) first
      ])
]

more_shares : (one k : ℕ) → one * suc k ≤ one * suc (suc k)
more_shares one k = grind arith

pub ends_past : (files : List FileEntry) (parts k : ℕ) → parts ≤ suc k → begin_of files parts (suc k) ≡ End
ends_past files parts k le = grind (arith, nat_tests)

pub begins_within : (files : List FileEntry) (parts k : ℕ) → suc k < parts
    → begin_of files parts (suc k) ≡ first_after (share files parts * suc k) 0 files
begins_within files parts k lt = grind (arith, nat_tests)

-- what stands before a part stands before the next
pub before_next : (files : List FileEntry) (parts k : ℕ) (f : Fault) → IsStrictlySortedBy text_cmp (paths_of files)
    → is_before (begin_of files parts k) f ≡ true → is_before (begin_of files parts (suc k)) f ≡ true
before_next files parts zero f s h = absurd (true≢false (sym h))
before_next files parts (suc k) f s h = elim (cases_lt (suc (suc k)) parts) [
  | inl within ↦ rw (begins_within files parts (suc k) within)
      (later_file (share files parts * suc k) (share files parts * suc (suc k)) 0 files f
      (more_shares (share files parts) k) s
      (rw (begins_within files parts k (omega (arith, within))) at h))
  | inr past ↦ rw (ends_past files parts (suc k) past) refl
]

-- ---- the parts are the report

-- faults up to one place in their order, and those up to a later one
module _ (Early Late : Fault → Bool)
    (lesser : (f g : Fault) → fault_cmp f g ≡ Less → Early g ≡ true → Early f ≡ true)
    (wider : (f : Fault) → Early f ≡ true → Late f ≡ true) where
  below_by : (o : Ordering) (f g : Fault) → fault_cmp f g ≡ o → Early f ≡ true → Early g ≡ false → fault_cmp f g ≡ Less
  below_by Less f g is early late = is
  below_by Equal f g is early late =
      let clash : true ≡ false = sym early ∙ ap Early (fault_cmp_same f g is) ∙ late in cc
  below_by Greater f g is early late =
      let back : fault_cmp g f ≡ Less = fault_cmp_total.antisymm g f ∙ ap ordering_reverse is in
      let clash : true ≡ false = sym (lesser g f back early) ∙ late in cc

  abbrev between : Fault → Bool
  between f = not (Early f) && Late f

  both : (early late : Bool) → (not early && late) ≡ true → (early ≡ false) × (late ≡ true)
  both true late h = absurd (true≢false (sym h))
  both false late h = (refl, h)

  is_between : (early late : Bool) → early ≡ false → late ≡ true → (not early && late) ≡ true
  is_between early late e l = rw (e, l) refl

  one_part_more : (report : List Fault) → IsStrictlySortedBy fault_cmp report
      → filter Early report ++ filter between report ≡ filter Late report
  one_part_more report sorted =
      let list : IsListOf fault_cmp (Contains report) report =
      record { ascending = sorted; members = λ f. (λ c. c, λ c. c) } in
      one_list fault_cmp fault_cmp_total (λ f. Contains report f × (Late f ≡ true))
      (filter Early report ++ filter between report) (filter Late report)
      (same_members fault_cmp
      (λ f. (Contains report f × (Early f ≡ true)) ⊎ (Contains report f × (between f ≡ true)))
      (λ f. Contains report f × (Late f ≡ true)) (filter Early report ++ filter between report)
      (λ f h. elim h [
        | inl a ↦ (a.0, wider f a.1)
        | inr b ↦ (b.0, (both (Early f) (Late f) b.1).1)
      ])
      (λ f h. elim (cases_Bool (Early f)) [
        | inl e ↦ inl (h.0, e)
        | inr e ↦ inr (h.0, is_between (Early f) (Late f) e h.1)
      ])
      (joined fault_cmp (λ f. Contains report f × (Early f ≡ true)) (λ f. Contains report f × (between f ≡ true))
      (filter Early report) (filter between report)
      (filtered_list fault_cmp (Contains report) Early report list)
      (filtered_list fault_cmp (Contains report) between report list)
      (λ f g a b. below_by (fault_cmp f g) f g refl a.1 (both (Early g) (Late g) b.1).0)))
      (filtered_list fault_cmp (Contains report) Late report list)

none_before_start : (report : List Fault) → [] ≡ filter (is_before Start) report
none_before_start [] = refl
none_before_start (f ∷ report) = none_before_start report

all_before_end : (report : List Fault) → filter (is_before End) report ≡ report
all_before_end [] = refl
all_before_end (f ∷ report) = ap (λ rest. f ∷ rest) (all_before_end report)

-- the first parts are what stands before the next
first_are : (files : List FileEntry) (parts : ℕ) (report : List Fault) (k : ℕ)
    → IsStrictlySortedBy text_cmp (paths_of files) → IsStrictlySortedBy fault_cmp report
    → first_parts files parts report k ≡ filter (is_before (begin_of files parts k)) report
first_are files parts report zero s sorted = none_before_start report
first_are files parts report (suc k) s sorted =
    let early : Fault → Bool = is_before (begin_of files parts k) in
    let late : Fault → Bool = is_before (begin_of files parts (suc k)) in
    ap (λ l. l ++ part_of files (record { number = k; of = parts }) report)
    (first_are files parts report k s sorted)
    ∙ ap (λ n. filter early report
    ++ filter (λ f. not (early f) && is_before (begin_of files parts n) f) report) (add-one k)
    ∙ one_part_more early late (lesser_too (begin_of files parts k)) (λ f h. before_next files parts k f s h) report
    sorted

pub parts_join : PartsJoin
parts_join files zero report ordered some sorted = absurd (omega (arith, some))
parts_join files (suc k) report ordered some sorted =
    first_are files (suc k) report (suc k) ordered.ascending sorted
    ∙ ap (λ bound. filter (is_before bound) report) (ends_past files (suc k) k (omega arith))
    ∙ all_before_end report
