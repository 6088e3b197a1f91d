-- What a part of a report costs.
use Rattle.bag_walk.proofs.Common.{◌≡◌, ◌≢◌, ◌<◌, ◌≤◌, ◌+◌, ◌-◌, ◌*◌, ◌∷◌, ◌∙◌, ◌&&◌, ◌⊎◌, inl, inr, ℕ, zero, suc, Bool}
use Rattle.bag_walk.proofs.Common.{true, false, not, List, [], Contains, refl, sym, ap, subst, arith, filter}
use Rattle.bag_walk.proofs.Common.{cases_lt, is_lt, Ordering, Less, Equal, Greater, text_cmp, nat_list_cmp_total}
use Rattle.bag_walk.proofs.Common.{sum_by-cons, member_has, contains_cases, contains_first, contains_behind}
use Rattle.bag_walk.proofs.Common.{mapped_contains, FileEntry, paths_of, not_both, not_less_than_itself, true≢false}
use Rattle.std.specs.Prelude.{◌/◌, ◌%◌}
use Rattle.std.specs.List.Sorted.{IsStrictlySortedBy}
use Rattle.std.proofs.Math.Numerals.{add-one}
use Rattle.std.proofs.Math.Nat.{div-add-mod, mod-lt}
use Rattle.bag_sources.proofs.Parts.{begins_at, begins_within, ends_or_is, ends_past, passes_over, sorted_behind}
use Rattle.bag_sources.specs.Parts.{PartsAreEven, begin_of, first_after}
use Rattle.bag_sources.specs.Parts.{is_file_before, share, weight, weight_of}
use Rattle.bag_sources.specs.declared.part.Bound.{Bound}
use Rattle.bag_sources.specs.declared.part.Bound.TheVariants.{File, End}

-- ---- what the files cost that pass a test

abbrev cost : (FileEntry → Bool) → List FileEntry → ℕ
cost test files = weight_of (filter test files)

cost_in : (test : FileEntry → Bool) (file : FileEntry) (files : List FileEntry) → test file ≡ true
    → cost test (file ∷ files) ≡ weight file + cost test files
cost_in test file files is = rw is (sum_by-cons weight file (filter test files))

cost_out : (test : FileEntry → Bool) (file : FileEntry) (files : List FileEntry) → test file ≡ false
    → cost test (file ∷ files) ≡ cost test files
cost_out test file files is = rw is refl

cost_none : (test : FileEntry → Bool) (files : List FileEntry)
    → ((file : FileEntry) → Contains files file → test file ≡ false) → cost test files ≡ 0
cost_none test [] none = refl
cost_none test (file ∷ files) none =
    cost_out test file files (none file (contains_first file files))
    ∙ cost_none test files (λ other c. none other (contains_behind file files other c))

same_by : (test other : FileEntry → Bool) (file : FileEntry) (files : List FileEntry) (b d : Bool) → test file ≡ b
    → other file ≡ d → b ≡ d → cost test files ≡ cost other files → cost test (file ∷ files) ≡ cost other (file ∷ files)
same_by test other file files true true p q e rest =
    cost_in test file files p ∙ ap (λ n. weight file + n) rest ∙ sym (cost_in other file files q)
same_by test other file files false false p q e rest =
    cost_out test file files p ∙ rest ∙ sym (cost_out other file files q)
same_by test other file files true false p q e rest = absurd (true≢false e)
same_by test other file files false true p q e rest = absurd (true≢false (sym e))

cost_same : (test other : FileEntry → Bool) (files : List FileEntry)
    → ((file : FileEntry) → Contains files file → test file ≡ other file) → cost test files ≡ cost other files
cost_same test other [] same = refl
cost_same test other (file ∷ files) same =
    same_by test other file files (test file) (other file) refl refl (same file (contains_first file files))
    (cost_same test other files (λ one c. same one (contains_behind file files one c)))

-- ---- the files before a bound

abbrev before : Bound → FileEntry → Bool
before bound file = is_file_before bound file.path

abbrev Ascend : List FileEntry → Type 0
Ascend files = IsStrictlySortedBy text_cmp (paths_of files)

no_less : (o : Ordering) → o ≢ Less → is_lt o ≡ false
no_less Less never = absurd (never refl)
no_less Equal never = refl
no_less Greater never = refl

later_path : (file : FileEntry) (files : List FileEntry) → Ascend (file ∷ files) → (path : List ℕ)
    → Contains (paths_of files) path → text_cmp file.path path ≡ Less
unfolding IsStrictlySortedBy
later_path file files s path c = member_has _ (paths_of files) path s.0 c

-- the first file stands before a bound that comes later
first_before : (file : FileEntry) (files : List FileEntry) (bound : Bound) → Ascend (file ∷ files)
    → (bound ≡ End) ⊎ ((path : List ℕ) × Contains (paths_of files) path × (bound ≡ File path))
    → before bound file ≡ true
first_before file files bound s (inl e) = rw e refl
first_before file files bound s (inr (path, c, e)) = rw (e, later_path file files s path c) refl

-- and no file stands before the first
none_before : (file : FileEntry) (files : List FileEntry) → Ascend (file ∷ files) → (other : FileEntry)
    → Contains (file ∷ files) other → before (File file.path) other ≡ false
none_before file files s other c = no_less (text_cmp other.path file.path) (λ less. elim (contains_cases file files other c) [
  | inl e ↦ not_less_than_itself nat_list_cmp_total other.path file.path (ap (λ (x : FileEntry). x.path) (sym e)) less
  | inr d ↦ not_both nat_list_cmp_total other.path file.path less
      (later_path file files s other.path (mapped_contains (λ (x : FileEntry). x.path) files other d))
])

module _ (most : ℕ) where
  abbrev Light : List FileEntry → Type 0
  Light files = (file : FileEntry) → Contains files file → weight file ≤ most

  light_behind : (file : FileEntry) (files : List FileEntry) → Light (file ∷ files) → Light files
  light_behind file files light other c = light other (contains_behind file files other c)

  none_until : (high gone : ℕ) (files : List FileEntry) → Ascend files → high ≤ gone
      → cost (before (first_after high gone files)) files ≡ 0
  none_until high gone [] s le = refl
  none_until high gone (file ∷ files) s le =
      subst (λ bound. cost (before bound) (file ∷ files) ≡ 0)
      (sym (begins_at high gone file files (omega (arith, le))))
      (cost_none (before (File file.path)) (file ∷ files) (none_before file files s))

  -- what stands before the first file by whose middle so much has come
  until : (high gone : ℕ) (files : List FileEntry) → Ascend files → Light files
      → cost (before (first_after high gone files)) files ≤ (high - gone) + (most - most / 2)
  until high gone [] s light = omega arith
  until high gone (file ∷ files) s light = elim (cases_lt (gone + weight file / 2) high) [
    | inl few ↦ (let next : ℕ = gone + weight file in
        let bound : Bound = first_after high next files in
        let first : before bound file ≡ true = first_before file files bound s (ends_or_is high next files) in
        let small : weight file ≤ most = light file (contains_first file files) in
        let costs : cost (before bound) (file ∷ files) ≡ weight file + cost (before bound) files =
        cost_in (before bound) file files first in
        subst (λ to. cost (before to) (file ∷ files) ≤ (high - gone) + (most - most / 2))
        (sym (passes_over high gone file files few))
        (elim (cases_lt next high) [
          | inl more ↦ omega (
            arith,
            costs,
            until high next files (sorted_behind file files s) (light_behind file files light),
            more,
          )
          | inr all ↦ omega (arith, costs, none_until high next files (sorted_behind file files s) all, small, few)
        ]))
    | inr enough ↦ subst (λ bound. cost (before bound) (file ∷ files) ≤ (high - gone) + (most - most / 2))
        (sym (begins_at high gone file files enough))
        (omega (arith, cost_none (before (File file.path)) (file ∷ files) (none_before file files s)))
  ]

  abbrev between : Bound → Bound → FileEntry → Bool
  between from to file = not (before from file) && before to file

  -- what stands between two such files
  within : (low high gone : ℕ) (files : List FileEntry) → Ascend files → Light files → low ≤ high
      → cost (between (first_after low gone files) (first_after high gone files)) files ≤ (high - low) + most
  within low high gone [] s light le = omega arith
  within low high gone (file ∷ files) s light le = elim (cases_lt (gone + weight file / 2) low) [
    | inl few ↦ (let next : ℕ = gone + weight file in
        let from : Bound = first_after low next files in
        let to : Bound = first_after high next files in
        let first : before from file ≡ true = first_before file files from s (ends_or_is low next files) in
        let out : between from to file ≡ false = rw first refl in
        let costs : cost (between from to) (file ∷ files) ≡ cost (between from to) files =
        cost_out (between from to) file files out in
        subst
        (λ b. cost (between b (first_after high gone (file ∷ files))) (file ∷ files) ≤ (high - low) + most)
        (sym (passes_over low gone file files few))
        (subst (λ b. cost (between from b) (file ∷ files) ≤ (high - low) + most)
        (sym (passes_over high gone file files (omega (arith, few, le))))
        (omega (
          arith,
          costs,
          within low high next files (sorted_behind file files s) (light_behind file files light) le,
        ))))
    | inr enough ↦ (let to : Bound = first_after high gone (file ∷ files) in
        let small : weight file ≤ most = light file (contains_first file files) in
        let same : cost (between (File file.path) to) (file ∷ files) ≡ cost (before to) (file ∷ files) =
        cost_same (between (File file.path) to) (before to) (file ∷ files) (λ other c.
        ap (λ b. not b && before to other) (none_before file files s other c)) in
        subst (λ b. cost (between b to) (file ∷ files) ≤ (high - low) + most)
        (sym (begins_at low gone file files enough))
        (omega (arith, same, until high gone (file ∷ files) s light, enough, small)))
  ]

-- ---- a part

some_weight : (file : FileEntry) → 0 < weight file
some_weight file = omega arith

-- nothing comes after all files
ends_all : (high gone : ℕ) (files : List FileEntry) → gone + weight_of files ≤ high → first_after high gone files ≡ End
ends_all high gone [] le = refl
ends_all high gone (file ∷ files) le =
    let costs : weight_of (file ∷ files) ≡ weight file + weight_of files = sum_by-cons weight file files in
    passes_over high gone file files (omega (arith, costs, some_weight file, le))
    ∙ ends_all high (gone + weight file) files (omega (arith, costs, le))

one_more_share : (one k : ℕ) → one * suc k ≡ one * k + one
one_more_share one k = grind arith

so_many_shares : (one k : ℕ) → suc k * one ≡ one * k + one
so_many_shares one k = grind arith

-- where the part after this one begins
record EndsAt (files : List FileEntry) (parts k : ℕ) : Type 0 where
  high : ℕ
  after : share files parts * k ≤ high
  near : high ≤ share files parts * k + share files parts + parts
  is : begin_of files parts (suc k) ≡ first_after high 0 files

module _ (files : List FileEntry) (parts k : ℕ) (within_parts : k < parts) where
  whole : parts * share files parts + weight_of files % parts ≡ weight_of files
  whole = div-add-mod (weight_of files) parts

  ends_at : EndsAt files parts k
  ends_at = elim (cases_lt (suc k) parts) [
    | inl more ↦ record {
      high = share files parts * suc k;
      after = omega (arith, one_more_share (share files parts) k);
      near = omega (arith, one_more_share (share files parts) k);
      is = begins_within files parts k more;
    }
    | inr past ↦ (let last : parts ≡ suc k = omega (arith, past, within_parts) in
        let shares : parts * share files parts ≡ share files parts * k + share files parts =
        ap (λ n. n * share files parts) last ∙ so_many_shares (share files parts) k in
        let left : weight_of files % parts < parts = mod-lt (weight_of files) (omega (arith, within_parts)) in
        record {
          high = weight_of files;
          after = omega (arith, whole, shares);
          near = omega (arith, whole, shares, left);
          is = ends_past files parts k past ∙ sym (ends_all (weight_of files) 0 files (omega arith));
        })
  ]

part_costs : (files : List FileEntry) (parts k most : ℕ) → Ascend files → Light most files → EndsAt files parts k
    → k < parts
    → cost (between most (begin_of files parts k) (begin_of files parts (suc k))) files
    ≤ share files parts + parts + most
part_costs files parts zero most s light ends lt =
    rw ends.is (omega (arith, until most ends.high 0 files s light, ends.near))
part_costs files parts (suc k) most s light ends lt =
    rw (ends.is, begins_within files parts k lt)
    (omega (
      arith,
      within most (share files parts * suc k) ends.high 0 files s light ends.after,
      ends.near,
      ends.after,
    ))

pub parts_are_even : PartsAreEven
parts_are_even files part most ordered lt light =
    subst
    (λ n. cost (between most (begin_of files part.of part.number) (begin_of files part.of n)) files
    ≤ share files part.of + part.of + most)
    (sym (add-one part.number))
    (part_costs files part.of part.number most ordered.ascending light
    (ends_at files part.of part.number lt) lt)
