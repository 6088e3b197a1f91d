-- Each list has an ascending one with the same members, where elements that tie are one.
use Rattle.bag_report.proofs.Common.{arith, ◌≡◌, refl, Bool, true, List, [], ◌∷◌, map, ap, sym, ◌∙◌, is_some, Contains}
use Rattle.bag_report.proofs.Common.{Ordering, and_parts, IsListOf}
use Rattle.std.specs.Cmp.{IsTotalOrder, Equal-is, eq_by_cmp_equiv}
use Rattle.std.specs.FinMap.{FinMap, IsAntisymmetric, is_sorted, entries, entries_sorted, keys, from_entries}
use Rattle.std.specs.FinMap.{contains_key-keys, get-from_entries}
use Rattle.std.specs.FinMap.Entries.{below_all, is_some-find}
use Rattle.std.specs.List.{AllByRecursion, list_any}
use Rattle.std.specs.List.Sorted.{IsStrictlySortedBy}
use Rattle.std.specs.Ordering.{eq_by_cmp, is_lt}
use Rattle.std.specs.declared.cmp.Ordering.TheVariants.{Less}
use Rattle.std.proofs.Math.Dec.{T}
use Rattle.std.proofs.lemmas.Map.Views.{Contains-from_any, list_any-from_Contains}

t_true : (b : Bool) → T b → b ≡ true
t_true b h = grind arith

is_less : (o : Ordering) → is_lt o ≡ true → o ≡ Less
is_less o e = grind arith

module _ {A B : Type 0} (cmp : A → A → Ordering) where
  above_first : (x : A) (es : List (A × B)) → below_all cmp x es ≡ true
      → AllByRecursion (λ y. cmp x y ≡ Less) (map (λ e. e.0) es)
  above_first x [] h = tt
  above_first x (e ∷ es) h = let two = and_parts _ _ h in (is_less (cmp x e.0) two.0, above_first x es two.1)

  rising : (es : List (A × B)) → is_sorted cmp es ≡ true → IsStrictlySortedBy cmp (map (λ e. e.0) es)
  unfolding IsStrictlySortedBy
  rising [] h = tt
  rising (e ∷ es) h = let two = and_parts _ _ h in (above_first e.0 es two.0, rising es two.1)

  -- the keys of a map ascend
  pub keys_rise : (m : FinMap cmp B) → IsStrictlySortedBy cmp (map (λ e. e.0) (entries m))
  keys_rise m = rising (entries m) (t_true _ (entries_sorted m))

module _ {A : Type 0} (cmp : A → A → Ordering) where
  abbrev as_keys : List A → List (A × Unit {0})
  as_keys xs = map (λ x. (x, tt)) xs

  keys_are : (xs : List A) → map (λ e. e.0) (as_keys xs) ≡ xs
  keys_are [] = refl
  keys_are (x ∷ xs) = ap (λ ys. x ∷ ys) (keys_are xs)

  module _ (total : IsTotalOrder cmp) (exact : IsAntisymmetric cmp) where
    one_key : (x y : A) → eq_by_cmp cmp x y ≡ true → x ≡ y
    one_key x y e = exact x y ((Equal-is (cmp x y)).0 e)

    moved : (xs ys : List A) (x : A) → list_any (eq_by_cmp cmp x) xs ≡ list_any (eq_by_cmp cmp x) ys → Contains xs x
        → Contains ys x
    moved xs ys x e c = Contains-from_any one_key x ys (sym e ∙ list_any-from_Contains (eq_by_cmp_equiv total) x xs c)

    pub ascending_list : (xs : List A) → (ys : List A) × IsListOf cmp (Contains xs) ys
    ascending_list xs =
        let m : FinMap cmp (Unit {0}) = from_entries (as_keys xs) in
        let same : (x : A) → list_any (eq_by_cmp cmp x) (keys m) ≡ list_any (eq_by_cmp cmp x) xs =
        λ x. sym (contains_key-keys m x) ∙ ap is_some (get-from_entries total (as_keys xs) x)
        ∙ is_some-find cmp x (as_keys xs) ∙ ap (list_any (eq_by_cmp cmp x)) (keys_are xs) in (
          keys m,
          record {
            ascending = keys_rise cmp m;
            members = λ x.
                (moved (keys m) xs x (same x), moved xs (keys m) x (sym (same x)));
          },
        )
