-- The names that clash and the least names of their classes are all names, none twice.
use Rattle.bag_stages.proofs.Common.{arith, ◌≡◌, ◌≢◌, ◌++◌, ℕ, List, [], ◌∷◌, map, Bool, true, false, not, refl, sym}
use Rattle.bag_stages.proofs.Common.{ap, ◌∙◌, subst, Contains, eq_by_cmp_equiv, nat_list_cmp_total, filter, list_any}
use Rattle.bag_stages.proofs.Common.{IsPermutation, eq_by_cmp, ordering_reverse, Ordering, Less, Equal, Greater}
use Rattle.bag_stages.proofs.Common.{IsStrictlySortedBy-filter, IsPermutation-filter_both, IsPermutation-sym}
use Rattle.bag_stages.proofs.Common.{Contains-from_any, list_any-from_Contains, stage, IsListOf, text_cmp, bytes_eq}
use Rattle.bag_stages.proofs.Common.{bytes_eq-Decides, contains_nothing, same_lists, Bag, exact_texts, one_text}
use Rattle.bag_stages.proofs.Common.{fault_cmp, Fault, not_both, not_less_than_itself, fault_cmp_total, contains_mapped}
use Rattle.bag_stages.proofs.Common.{kept, mapped_contains, passed, name_clash, IsClashAmong, IsClashFault, nfc_of}
use Rattle.bag_stages.proofs.Common.{IsLeast, IsLeastAlike, IsPayloadName}
use Rattle.std.specs.List.Sorted.{IsStrictlySortedBy}
use Rattle.bag_stages.proofs.HasLists.{false_unless}
use Rattle.bag_stages.proofs.InFile.{less_by_path, mapped_ascend}
use Rattle.bag_stages.proofs.ClashFaults.{clash_is_fault, fault_is_clash}
use Rattle.bag_stages.proofs.LeastNames.{first_is_least, of_form, one_least, same_least}

-- a name of an ascending list has a least one alike
module _ (names : List (List ℕ)) (name : List ℕ) (there : Contains names name)
    (sorted : IsStrictlySortedBy text_cmp names) where
  least_by : (some : List (List ℕ)) → of_form (nfc_of name) names ≡ some
      → (least : List ℕ) × IsLeastAlike (Contains names) name least
  least_by [] e =
      let own =
      passed (λ n. bytes_eq (nfc_of n) (nfc_of name)) names name
      ((bytes_eq-Decides (nfc_of name) (nfc_of name)).1 refl) there in
      absurd (contains_nothing name (subst (λ ns. Contains ns name) e own))
  least_by (least ∷ some) e = (least, first_is_least names name least some sorted e)

  has_least : (least : List ℕ) × IsLeastAlike (Contains names) name least
  has_least = least_by (of_form (nfc_of name) names) refl

-- faults of names that clash are ordered as these
module _ (IsName : List ℕ → Type 0) where
  same_fault : (x y : Fault) → IsClashAmong IsName x → IsClashAmong IsName y → x.path ≡ y.path → x ≡ y
  same_fault x y (name, (least, is, clash)) (other, (lower, made, too)) at =
      grind (arith, one_least IsName other least lower)

  path_by : (o : Ordering) (x y : Fault) → text_cmp x.path y.path ≡ o → IsClashAmong IsName x → IsClashAmong IsName y
      → fault_cmp x y ≡ Less → o ≡ Less
  path_by Less x y is h k less = refl
  path_by Equal x y is h k less =
      absurd (not_less_than_itself fault_cmp_total x y (same_fault x y h k (exact_texts x.path y.path is)) less)
  path_by Greater x y is h k less =
      let back : text_cmp y.path x.path ≡ Less = nat_list_cmp_total.antisymm y.path x.path ∙ ap ordering_reverse is in
      grind (arith, not_both fault_cmp_total x y less, less_by_path y x)

  paths_ascend : (faults : List Fault) → ((f : Fault) → Contains faults f → IsClashAmong IsName f)
      → IsStrictlySortedBy fault_cmp faults → IsStrictlySortedBy text_cmp (map (λ f. f.path) faults)
  paths_ascend faults are s =
      mapped_ascend fault_cmp text_cmp (λ f. f.path) faults s (λ x y c d less.
      path_by (text_cmp x.path y.path) x y refl (are x c) (are y d) less)

not_twice : (b : Bool) → b ≡ not (not b)
not_twice true = refl
not_twice false = refl

module _ (bag : Bag) (names leasts : List (List ℕ)) (faults : List Fault)
    (are_names : IsListOf text_cmp (IsPayloadName bag) names)
    (are_leasts : IsListOf text_cmp (IsLeast (IsPayloadName bag)) leasts)
    (are_faults : IsListOf fault_cmp (IsClashFault bag) faults) where
  abbrev IsName : List ℕ → Type 0
  IsName = IsPayloadName bag

  abbrev is_least : List ℕ → Bool
  is_least name = list_any (eq_by_cmp text_cmp name) leasts

  abbrev clashing : List ℕ → Bool
  clashing name = not (is_least name)

  abbrev paths : List (List ℕ)
  paths = map (λ (f : Fault). f.path) faults

  found : (name : List ℕ) → Contains leasts name → is_least name ≡ true
  found name c = list_any-from_Contains (eq_by_cmp_equiv nat_list_cmp_total) name leasts c

  is_found : (name : List ℕ) → is_least name ≡ true → Contains leasts name
  is_found name h = Contains-from_any one_text name leasts h

  leasts_are : filter is_least names ≡ leasts
  leasts_are =
      same_lists text_cmp nat_list_cmp_total (filter is_least names) leasts
      (IsStrictlySortedBy-filter text_cmp is_least names are_names.ascending) are_leasts.ascending
      (λ name c. is_found name (kept is_least names name c).0)
      (λ name c. passed is_least names name (found name c)
      ((are_names.members name).1 ((are_leasts.members name).0 c).name))

  clash_at : (name : List ℕ) → Contains names name → clashing name ≡ true → Contains paths name
  clash_at name c lacks =
      let some = has_least names name c are_names.ascending in
      let least : IsLeastAlike IsName name some.0 =
      same_least (Contains names) IsName name some.0 (λ p. (are_names.members p).0) (λ p. (are_names.members p).1)
      some.1 in
      let other : some.0 ≢ name = λ same. grind (arith, found name, are_leasts.members name) in
      mapped_contains (λ (f : Fault). f.path) faults (name_clash name some.0)
      ((are_faults.members (name_clash name some.0)).1
      (clash_is_fault bag (name_clash name some.0)
      (name, (some.0, refl, ((are_names.members name).0 c, least, other)))))

  at_clash : (f : Fault) → IsClashAmong IsName f → (clashing f.path ≡ true) × Contains names f.path
  at_clash f (name, (least, made, (is, alike, other))) =
      rw made (
        ap not (false_unless (is_least name)
            (λ e. other (one_least IsName name least name alike ((are_leasts.members name).0 (is_found name e))))),
        (are_names.members name).1 is,
      )

  clashes_are : filter clashing names ≡ paths
  clashes_are =
      same_lists text_cmp nat_list_cmp_total (filter clashing names) paths
      (IsStrictlySortedBy-filter text_cmp clashing names are_names.ascending)
      (paths_ascend IsName faults (λ f c. fault_is_clash bag f ((are_faults.members f).0 c)) are_faults.ascending)
      (λ name c. let h = kept clashing names name c in clash_at name h.1 h.0)
      (λ name c. let some = contains_mapped (λ (f : Fault). f.path) faults name c in
      let h =
      at_clash some.0 (fault_is_clash bag some.0 ((are_faults.members some.0).0 some.1))
      in rw (sym some.2) (passed clashing names some.0.path h.0 h.1))

  pub both_are_all : IsPermutation (paths ++ leasts) names
  both_are_all =
      IsPermutation-sym names (paths ++ leasts)
      (subst (λ xs. IsPermutation names (xs ++ leasts)) clashes_are
      (subst (λ xs. IsPermutation names (filter clashing names ++ xs)) leasts_are
      (IsPermutation-filter_both clashing is_least (λ name. not_twice (is_least name)) names)))
