-- Lists that have each of a set once: two that share nothing, one for each algorithm, and sorted, which is the
-- ascending list.
use Rattle.bag_stages.proofs.Common.{◌≡◌, ◌<◌, ◌≤◌, ◌⊎◌, ◌↔◌, inl, inr, ◌+◌, ◌++◌, ℕ, List, [], ◌∷◌, length, take}
use Rattle.bag_stages.proofs.Common.{get_or, Bool, None, Some, false, is_lt, subst, arith, sym, ap, ◌∙◌, Contains}
use Rattle.bag_stages.proofs.Common.{nat_cmp_total, tied_itself, IsPermutation, IsSortedBy, is_eq, eq_by_cmp, Less}
use Rattle.bag_stages.proofs.Common.{Equal, get_or_default, IsPermutation-sym, Contains-permutation}
use Rattle.bag_stages.proofs.Common.{IsDistinct-from_sorted, IsDistinct-IsPermutation, apart_from_distinct}
use Rattle.bag_stages.proofs.Common.{sorted_from_all_adjacent, algs, rank, rank_cmp, IsListOf, Alg, NotUtf8}
use Rattle.bag_stages.proofs.Common.{each_is_listed, list_ascends, contains_first, contains_behind, contains_front}
use Rattle.bag_stages.proofs.Common.{contains_back, contains_either, contains_nothing, nothing_listed}
use Rattle.bag_stages.proofs.Common.{each_from_members, member_has, tie_case, reversed, less_case, of_path, fault_cmp}
use Rattle.bag_stages.proofs.Common.{Fault, fault_cmp_total, fault_cmp_same, take_all, take_one_more, HasEachOnce}
use Rattle.std.specs.List.{IsDistinct}
use Rattle.bag_stages.proofs.ByItem.{OfSome, before_next, of_last_or_before, of_one_more}

-- two lists of which no member of one is the same as one of the other
distinct_joined : {A : Type 0} (same : A → A → Bool) (xs ys : List A) → IsDistinct same xs → IsDistinct same ys
    → ((x y : A) → Contains xs x → Contains ys y → same x y ≡ false) → IsDistinct same (xs ++ ys)
unfolding IsDistinct
distinct_joined same [] ys p q other = q
distinct_joined same (x ∷ xs) ys p q other = (
  each_from_members _ (xs ++ ys)
      (λ y c. elim (contains_either xs ys y c)
      [ inl a ↦ member_has _ xs y p.0 a | inr b ↦ other x y (contains_first x xs) b ]),
  distinct_joined same xs ys p.1 q (λ y z c d. other y z (contains_behind x xs y c) d),
)

-- the members of two sets, listed one after the other
pub either_listed : {A : Type 0} (P Q : A → Type 0) (xs ys : List A) → ((x : A) → Contains xs x ↔ P x)
    → ((x : A) → Contains ys x ↔ Q x) → (x : A) → Contains (xs ++ ys) x ↔ (P x ⊎ Q x)
either_listed P Q xs ys p q x =
    grind (arith, p x, q x, contains_either xs ys x, contains_front xs ys x, contains_back xs ys x)

-- an ascending list
pub once_listed : (P : Fault → Type 0) (faults : List Fault) → IsListOf fault_cmp P faults → HasEachOnce P faults
once_listed P faults list =
    record { once = IsDistinct-from_sorted fault_cmp faults list.ascending; members = list.members }

-- the same members in other words
pub same_once : (P Q : Fault → Type 0) (faults : List Fault) → ((f : Fault) → P f → Q f) → ((f : Fault) → Q f → P f)
    → HasEachOnce P faults → HasEachOnce Q faults
same_once P Q faults to from p =
    record { once = p.once; members = λ f. (λ c. to f ((p.members f).0 c), λ q. (p.members f).1 (from f q)) }

-- two sets that share no member
pub both_once : (P Q : Fault → Type 0) (xs ys : List Fault) → ((f : Fault) → P f → Q f → ⊥) → HasEachOnce P xs
    → HasEachOnce Q ys → HasEachOnce (λ f. P f ⊎ Q f) (xs ++ ys)
both_once P Q xs ys apart p q = record {
  once = distinct_joined (eq_by_cmp fault_cmp) xs ys p.once q.once
      (λ x y a b. tie_case (fault_cmp x y) (λ tied.
      apart x ((p.members x).0 a) (subst Q (sym (fault_cmp_same x y tied)) ((q.members y).0 b))));
  members = either_listed P Q xs ys p.members q.members;
}

any : Fault
any = of_path NotUtf8 [] None []

flips : (x y : Fault) → eq_by_cmp fault_cmp x y ≡ eq_by_cmp fault_cmp y x
flips x y = ap is_eq (fault_cmp_total.antisymm x y) ∙ reversed (fault_cmp y x)

-- once sorted it is the ascending list
pub sorted_once : (P : Fault → Type 0) (xs ys : List Fault) → HasEachOnce P xs → IsPermutation xs ys
    → IsSortedBy (λ x y. is_lt (fault_cmp x y)) ys → IsListOf fault_cmp P ys
sorted_once P xs ys p perm sorted =
    let distinct : IsDistinct (eq_by_cmp fault_cmp) ys =
    IsDistinct-IsPermutation (eq_by_cmp fault_cmp) flips xs ys perm p.once in
    record {
      ascending = sorted_from_all_adjacent fault_cmp_total ys any
          (λ k h.
          let x : Fault = get_or ys k any in
          let y : Fault = get_or ys (k + 1) any in
          less_case (fault_cmp x y) (sym (ap is_lt (fault_cmp_total.antisymm y x)) ∙ sorted k any (omega arith) h)
          (apart_from_distinct (eq_by_cmp fault_cmp) ys k (k + 1) any distinct (omega arith) h));
      members =
          λ f. grind (
            arith,
            p.members f,
            Contains-permutation ys xs f (IsPermutation-sym xs ys perm),
            Contains-permutation xs ys f perm,
          );
    }

-- two ascending lists that share no member, sorted together
pub sorted_together : (P Q : Fault → Type 0) (xs ys zs : List Fault) → ((f : Fault) → P f → Q f → ⊥)
    → IsListOf fault_cmp P xs → IsListOf fault_cmp Q ys
    → IsPermutation (xs ++ ys) zs → IsSortedBy (λ x y. is_lt (fault_cmp x y)) zs
    → IsListOf fault_cmp (λ f. P f ⊎ Q f) zs
sorted_together P Q xs ys zs apart p q perm sorted =
    sorted_once (λ f. P f ⊎ Q f) (xs ++ ys) zs (both_once P Q xs ys apart (once_listed P xs p) (once_listed Q ys q))
    perm sorted

not_below : (a b : Alg) → a ≡ b → rank_cmp a b ≡ Less → ⊥
not_below a b e less =
    let clash : Less ≡ Equal =
    sym (subst (λ x. rank_cmp a x ≡ Less) (sym e) less) ∙ tied_itself nat_cmp_total (rank a) in cc

-- faults that tell their algorithm
module _ (IsOf : Alg → Fault → Type 0) where
  pub no_alg_yet : HasEachOnce (OfSome IsOf []) []
  no_alg_yet =
      once_listed (OfSome IsOf []) [] (nothing_listed fault_cmp (OfSome IsOf []) (λ f h. contains_nothing h.0 h.1))

  -- those of the first algorithms, and of the next
  pub one_alg_more : ((alg : Alg) (f : Fault) → IsOf alg f → f.alg ≡ Some alg)
      → (i : ℕ) (any : Alg) (faults of_alg : List Fault) → i < length algs
      → HasEachOnce (OfSome IsOf (take i algs)) faults
      → HasEachOnce (IsOf (get_or algs i any)) of_alg → HasEachOnce (OfSome IsOf (take (i + 1) algs)) (faults ++ of_alg)
  one_alg_more told i any faults of_alg lt first next =
      let alg : Alg = get_or algs i any in
      let before : List Alg = take i algs in
      let at : alg ≡ get_or algs i alg = sym (get_or_default algs i alg any lt) in
      subst (λ some. HasEachOnce (OfSome IsOf some) (faults ++ of_alg)) (sym (take_one_more algs i alg lt at))
      (same_once _ _ (faults ++ of_alg) (of_one_more IsOf before alg) (of_last_or_before IsOf before alg)
      (both_once (OfSome IsOf before) (IsOf alg) faults of_alg
      (λ f h k. let e : Some h.0 ≡ Some alg = sym (told h.0 f h.2) ∙ told alg f k in let same : h.0 ≡ alg = cc
      in not_below h.0 alg same
      (before_next rank_cmp algs i alg h.0 list_ascends lt at h.1))
      first next))

  -- which are all
  pub all_algs : (i : ℕ) (faults : List Fault) → length algs ≤ i → HasEachOnce (OfSome IsOf (take i algs)) faults
      → HasEachOnce (λ f. (alg : Alg) × IsOf alg f) faults
  all_algs i faults le p =
      same_once (OfSome IsOf algs) _ faults (λ f h. (h.0, h.2)) (λ f h. (h.0, each_is_listed h.0, h.1))
      (subst (λ some. HasEachOnce (OfSome IsOf some) faults) (take_all i algs le) p)
