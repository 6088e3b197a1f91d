-- The faults of the elements that tell the payload's size are those of the bag.
use Rattle.bag_stages.proofs.Common.{◌≤◌, ◌≡◌, ◌≢◌, ◌<◌, ◌⊎◌, inl, inr, ◌++◌, ℕ, List, [], ◌∷◌, map, Option, None, Some}
use Rattle.bag_stages.proofs.Common.{Bool, true, false, cond, refl, sym, subst, arith, nat_tests, Contains, nat_cmp, on}
use Rattle.bag_stages.proofs.Common.{Ordering, Less, IsStrictlySortedBy-filter, stage, IsListOf, Code, OxumMalformed}
use Rattle.bag_stages.proofs.Common.{OxumAgain, OxumDiffers, contains_cases, contains_first, contains_behind}
use Rattle.bag_stages.proofs.Common.{contains_nothing, member_has, nothing_listed, one_listed, joined, same_members}
use Rattle.bag_stages.proofs.Common.{IsElement, line_fault, Element, Oxum, lower, Bag, Fault, fault_cmp, rules_in}
use Rattle.bag_stages.proofs.Common.{mapped_contains, contains_mapped, kept, passed, bag_info_txt, HasElement, HasFirst}
use Rattle.bag_stages.proofs.Common.{HasLater, oxum_label, same_oxum, of_element, again, no_oxum, is_oxum, oxums}
use Rattle.bag_stages.proofs.Common.{differs, reported_faults, first_faults, oxum_faults, oxum, lines_in}
use Rattle.std.specs.List.Sorted.{IsStrictlySortedBy}
use Rattle.bag_read.specs.Oxum.{oxum_of}
use Rattle.bag_stages.proofs.InFile.{less_in_file, mapped_ascend}

abbrev pub by_line : Element → Element → Ordering
by_line = on (λ e. e.line) nat_cmp

other_size : (a b : Oxum) → same_oxum a b ≡ false → a ≢ b
other_size a b e same = grind (arith, same_oxum)

same_size : (a b : Oxum) → same_oxum a b ≡ true → a ≡ b
same_size a b e = grind (arith, same_oxum, nat_tests)

-- faults of two elements stand in the order of these
less_of_elements : (c d : Code) (x y : Element) (s t : List ℕ) → nat_cmp x.line y.line ≡ Less → stage c ≡ stage d
    → fault_cmp (of_element bag_info_txt c x s) (of_element bag_info_txt d y t) ≡ Less
less_of_elements c d x y s t low same =
    less_in_file bag_info_txt None (line_fault x.line c s) (line_fault y.line d t) same (rw low refl)

-- the faults of elements
module _ (bag : Bag) where
  -- the first doesn't read, or tells another size
  abbrev pub OfFirst : Element → Fault → Type 0
  OfFirst e f =
      ((oxum_of e.value ≡ None) × (f ≡ of_element bag_info_txt OxumMalformed e e.value))
      ⊎ ((told : Oxum) × (oxum_of e.value ≡ Some told) × (told ≢ oxum bag) × (f ≡ differs bag_info_txt (oxum bag) e))

  abbrev pub IsOfOxum : Fault → Type 0
  IsOfOxum f =
      ((e : Element) × HasFirst bag oxum_label e × OfFirst e f)
      ⊎ (((e : Element) × HasLater bag oxum_label e × (f ≡ again bag_info_txt e))
      ⊎ (((e : Element) → ¬ (HasElement bag oxum_label e)) × (f ≡ no_oxum bag_info_txt)))

  differs_listed : (e : Element) (told : Oxum) (same : Bool) → oxum_of e.value ≡ Some told
      → same_oxum told (oxum bag) ≡ same
      → IsListOf fault_cmp (OfFirst e) (cond same [] (differs bag_info_txt (oxum bag) e ∷ []))
  differs_listed e told true is same =
      nothing_listed fault_cmp (OfFirst e) (λ f h. grind (arith, same_size told (oxum bag) same))
  differs_listed e told false is same =
      one_listed fault_cmp (OfFirst e) (differs bag_info_txt (oxum bag) e)
      (inr (told, is, other_size told (oxum bag) same, refl)) (λ f h. grind arith)

  told_listed : (e : Element) (o : Option Oxum) → oxum_of e.value ≡ o
      → IsListOf fault_cmp (OfFirst e) (reported_faults bag_info_txt (oxum bag) e o)
  told_listed e None is =
      one_listed fault_cmp (OfFirst e) (of_element bag_info_txt OxumMalformed e e.value) (inl (is, refl)) (λ f h.
      grind arith)
  told_listed e (Some told) is = differs_listed e told (same_oxum told (oxum bag)) is refl

  abbrev OfLater : List Element → Fault → Type 0
  OfLater later f = (e : Element) × Contains later e × (f ≡ again bag_info_txt e)

  again_listed : (later : List Element) → IsStrictlySortedBy by_line later
      → IsListOf fault_cmp (OfLater later) (map (again bag_info_txt) later)
  again_listed later s = record {
    ascending =
        mapped_ascend by_line fault_cmp (again bag_info_txt) later s (λ x y c d low.
        less_of_elements OxumAgain OxumAgain x y x.value y.value low refl);
    members = λ f. (
      λ c. let at = contains_mapped (again bag_info_txt) later f c in (at.0, at.1, sym at.2),
      λ h. subst (Contains (map (again bag_info_txt) later)) (sym h.2)
          (mapped_contains (again bag_info_txt) later h.0 h.1),
    );
  }

  -- the first element and the later ones
  module _ (first : Element) (later : List Element)
      (list : IsListOf by_line (HasElement bag oxum_label) (first ∷ later)) where
    low : (e : Element) → Contains later e → nat_cmp first.line e.line ≡ Less
    unfolding IsStrictlySortedBy
    low e c = member_has _ later e list.ascending.0 c

    below : (e : Element) → Contains later e → first.line < e.line
    below e c = lower first.line e.line (low e c)

    there : HasElement bag oxum_label first
    there = (list.members first).0 (contains_first first later)

    first_lowest : (d : Element) → HasElement bag oxum_label d → first.line ≤ d.line
    first_lowest d h = grind (arith, contains_cases first later d ((list.members d).1 h), below d)

    first_is : HasFirst bag oxum_label first
    first_is = (there, first_lowest)

    only_first : (e : Element) → HasFirst bag oxum_label e → e ≡ first
    only_first e (h, least) =
        grind (arith, contains_cases first later e ((list.members e).1 h), below e, least first there)

    behind_first : (e : Element) → HasLater bag oxum_label e → Contains later e
    behind_first e (h, (d, k, low)) = grind (arith, contains_cases first later e ((list.members e).1 h), first_is.1 d k)

    rest_ascends : IsStrictlySortedBy by_line later
    unfolding IsStrictlySortedBy
    rest_ascends = list.ascending.1

    some_listed : IsListOf fault_cmp IsOfOxum
        (first_faults bag_info_txt (oxum bag) first ++ map (again bag_info_txt) later)
    some_listed =
        same_members fault_cmp _ IsOfOxum (first_faults bag_info_txt (oxum bag) first ++ map (again bag_info_txt) later)
        (λ f h. elim h [
          | inl a ↦ inl (first, first_is, a)
          | inr b ↦ inr (inl (
            b.0,
            ((list.members b.0).0 (contains_behind first later b.0 b.1), (first, there, below b.0 b.1)),
            b.2,
          ))
        ])
        (λ f h. elim h [
          | inl a ↦ inl (subst (λ e. OfFirst e f) (only_first a.0 a.1) a.2)
          | inr b ↦ elim b [ inl c ↦ inr (c.0, behind_first c.0 c.1, c.2) | inr none ↦ absurd (none.0 first there) ]
        ])
        (joined fault_cmp (OfFirst first) (OfLater later) _ _ (told_listed first (oxum_of first.value) refl)
        (again_listed later rest_ascends)
        (λ x y a b. elim a [
          | inl c ↦ rw (c.1, b.2)
              (less_of_elements OxumMalformed OxumAgain first b.0 first.value b.0.value (low b.0 b.1) refl)
          | inr d ↦ rw (d.3, b.2) (less_of_elements OxumDiffers OxumAgain first b.0 _ b.0.value (low b.0 b.1) refl)
        ]))

  labelled_listed : (xs : List Element) → IsListOf by_line (HasElement bag oxum_label) xs
      → IsListOf fault_cmp IsOfOxum (oxum_faults bag_info_txt (oxum bag) xs)
  labelled_listed [] list =
      let lacks : (e : Element) → ¬ (HasElement bag oxum_label e) = λ e h. contains_nothing e ((list.members e).1 h) in
      one_listed fault_cmp IsOfOxum (no_oxum bag_info_txt) (inr (inr (lacks, refl)))
      (λ f h. elim h [
        | inl a ↦ absurd (lacks a.0 a.1.0)
        | inr b ↦ elim b [ inl c ↦ absurd (lacks c.0 c.1.0) | inr none ↦ none.1 ]
      ])
  labelled_listed (first ∷ later) list = some_listed first later list

  -- the faults of the elements that have the label
  pub oxum_listed : (elements : List Element)
      → IsListOf by_line (IsElement (rules_in bag) (lines_in bag bag_info_txt)) elements
      → IsListOf fault_cmp IsOfOxum (oxum_faults bag_info_txt (oxum bag) (oxums elements))
  oxum_listed elements list =
      labelled_listed (oxums elements)
      (record {
        ascending = IsStrictlySortedBy-filter by_line is_oxum elements list.ascending;
        members = λ e.
            grind (arith, kept is_oxum elements e, passed is_oxum elements e, list.members e);
      })
