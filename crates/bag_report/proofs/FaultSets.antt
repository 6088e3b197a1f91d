-- Sets of faults that a list has: in other words, one after the other, of one fault at most, and item by item.
use Rattle.bag_report.proofs.Conforming.{arith, ◌≡◌, ◌<◌, ◌≤◌, ◌⊎◌, inl, inr, ◌+◌, ◌++◌, ℕ, None, List, [], ◌∷◌}
use Rattle.bag_report.proofs.Conforming.{length, flat_map, map, refl, take, get_or, Contains, ap, sym, ◌∙◌, subst}
use Rattle.bag_report.proofs.Conforming.{IsPermutation, IsPermutation-sym, Contains-permutation, Code, contains_behind}
use Rattle.bag_report.proofs.Conforming.{contains_cases, contains_first, contains_front, contains_mapped}
use Rattle.bag_report.proofs.Conforming.{contains_nothing, mapped_contains, of_path, Fault, take_one_more, taken_cases}
use Rattle.bag_report.proofs.Conforming.{At, take_whole, AreAll}
use Rattle.std.proofs.lemmas.List.Elements.{Contains-push, Contains-push_cases}
use Rattle.bag_stages.proofs.Sorted.{either_listed}

-- a set in other words
pub same_all : (P Q : Fault → Type 0) (faults : List Fault) → ((f : Fault) → P f → Q f) → ((f : Fault) → Q f → P f)
    → AreAll P faults → AreAll Q faults
same_all P Q faults to from all f = (λ c. to f ((all f).0 c), λ q. (all f).1 (from f q))

-- two sets, one after the other
pub both_all : (P Q : Fault → Type 0) (xs ys both : List Fault) → both ≡ xs ++ ys → AreAll P xs → AreAll Q ys
    → AreAll (λ f. P f ⊎ Q f) both
both_all P Q xs ys both made p q = rw made (either_listed P Q xs ys p q)

-- a set in another order
pub permuted_all : (P : Fault → Type 0) (xs ys : List Fault) → IsPermutation xs ys → AreAll P xs → AreAll P ys
permuted_all P xs ys perm all f = (
  λ c. (all f).0 (Contains-permutation ys xs f (IsPermutation-sym xs ys perm) c),
  λ p.
      Contains-permutation xs ys f perm ((all f).1 p),
)

-- a set of none
pub none_all : (P : Fault → Type 0) (faults : List Fault) → faults ≡ [] → ((f : Fault) → ¬ (P f)) → AreAll P faults
none_all P faults made none f = rw made (λ c. absurd (contains_nothing f c), λ p. absurd (none f p))

-- a set of one
pub one_all : (P : Fault → Type 0) (faults : List Fault) (x : Fault) → faults ≡ x ∷ [] → P x
    → ((f : Fault) → P f → f ≡ x) → AreAll P faults
one_all P faults x made is only f = grind (arith, contains_cases, contains_nothing, contains_first)

-- three sets, one after the other
pub three_all : (P Q R : Fault → Type 0) (xs ys zs two three : List Fault) → two ≡ xs ++ ys → three ≡ two ++ zs
    → AreAll P xs → AreAll Q ys → AreAll R zs
    → AreAll (λ f. P f ⊎ Q f ⊎ R f) three
three_all P Q R xs ys zs two three make_two make_three p q r =
    same_all (λ f. (P f ⊎ Q f) ⊎ R f) (λ f. P f ⊎ Q f ⊎ R f) three
    (λ f h. elim h [ inl (inl a) ↦ inl a | inl (inr b) ↦ inr (inl b) | inr c ↦ inr (inr c) ])
    (λ f h. elim h [ inl a ↦ inl (inl a) | inr (inl b) ↦ inl (inr b) | inr (inr c) ↦ inr c ])
    (both_all (λ f. P f ⊎ Q f) R two zs three make_three (both_all P Q xs ys two make_two p q) r)

-- a fault for each item
pub mapped_all : {I : Type 0} (P : Fault → Type 0) (g : I → Fault) (xs : List I) → ((x : I) → Contains xs x → P (g x))
    → ((f : Fault) → P f → (x : I) × Contains xs x × (f ≡ g x)) → AreAll P (map g xs)
mapped_all P g xs is only f = (
  λ c. let at = contains_mapped g xs f c in subst P at.2 (is at.0 at.1),
  λ p. let at = only f p in subst (Contains (map g xs)) (sym at.2) (mapped_contains g xs at.0 at.1),
)

-- a set for each item, one after the other
pub each_all : {I : Type 0} (P : I → Fault → Type 0) (g : I → List Fault) → ((i : I) → AreAll (P i) (g i))
    → (items : List I)
    → AreAll (λ f. (i : I) × Contains items i × P i f) (flat_map g items)
each_all P g each [] = none_all _ [] refl (λ f h. contains_nothing h.0 h.1)
each_all {I} P g each (i ∷ items) =
    same_all (λ f. P i f ⊎ ((j : I) × Contains items j × P j f)) _ (g i ++ flat_map g items)
    (λ f h. elim h [
      | inl here ↦ (i, contains_first i items, here)
      | inr more ↦ (more.0, contains_behind i items more.0 more.1, more.2)
    ])
    (λ f h. elim (contains_cases i items h.0 h.1)
    [ inl same ↦ inl (subst (λ j. P j f) (sym same) h.2) | inr d ↦ inr (h.0, d, h.2) ])
    (both_all (P i) _ (g i) (flat_map g items) (g i ++ flat_map g items) refl (each i) (each_all P g each items))

-- a fault of a path has these fields
pub whole_at : (f : Fault) (code : Code) (path : List ℕ) → f ≡ of_path code path None [] → At f path None 0 []
whole_at f code path e = grind arith

pub code_at : (f : Fault) (code : Code) (path : List ℕ) → f ≡ of_path code path None [] → f.code ≡ code
code_at f code path e = ap (λ (x : Fault). x.code) e

module _ {I : Type 0} (fault_of : I → Fault) (Holds : I → Type 0) where
  -- the faults of those of these items of which it holds
  abbrev pub FaultsOf : List I → Fault → Type 0
  FaultsOf items f = (item : I) × Contains items item × (f ≡ fault_of item) × Holds item

  module _ (items : List I) (i : ℕ) (item : I) (faults : List Fault) (lt : i < length items)
      (is : item ≡ get_or items i item) (so_far : AreAll (FaultsOf (take i items)) faults) where
    earlier : (f : Fault) → FaultsOf (take i items) f → FaultsOf (take (i + 1) items) f
    earlier f h = grind (arith, take_one_more items i item lt is, contains_front (take i items) (item ∷ []) h.0 h.1)

    here : Contains (take (i + 1) items) item
    here =
        subst (λ some. Contains some item) (sym (take_one_more items i item lt is)) (Contains-push (take i items) item)

    -- whether it holds of the next
    pub one_next : (now : List Fault)
        → ((x : Fault) × (now ≡ faults ++ x ∷ []) × (x ≡ fault_of item) × Holds item)
        ⊎ ((now ≡ faults) × ¬ (Holds item))
        → AreAll (FaultsOf (take (i + 1) items)) now
    one_next now (inl (x, made, e, holds)) f =
        rw made (
          (λ c. elim (Contains-push_cases faults x f c)
              [ inl a ↦ earlier f ((so_far f).0 a) | inr same ↦ (item, here, sym same ∙ e, holds) ]),
          (λ h. elim (taken_cases items i item h.0 lt is h.1) [
            | inl a ↦ contains_front faults (x ∷ []) f ((so_far f).1 (h.0, a, h.2, h.3))
            | inr same ↦ subst (Contains (faults ++ x ∷ [])) (e ∙ ap fault_of same ∙ sym h.2) (Contains-push faults x)
          ]),
        )
    one_next now (inr (made, fails)) f =
        rw made (
          (λ c. earlier f ((so_far f).0 c)),
          (λ h. elim (taken_cases items i item h.0 lt is h.1) [
            | inl a ↦ (so_far f).1 (h.0, a, h.2, h.3)
            | inr same ↦ absurd (fails (subst Holds (sym same) h.3))
          ]),
        )

  -- which are all
  pub all_items : (items : List I) (i : ℕ) (faults : List Fault) → length items ≤ i
      → AreAll (FaultsOf (take i items)) faults → AreAll (FaultsOf items) faults
  all_items items i faults le so_far = subst (λ some. AreAll (FaultsOf some) faults) (take_whole items i le) so_far
