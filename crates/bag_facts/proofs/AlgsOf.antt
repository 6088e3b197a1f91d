-- Sets of algorithms that are made one algorithm after another.
use Rattle.bag_facts.proofs.Common.{arith, ◌≡◌, ◌<◌, ◌≤◌, ◌↔◌, ◌⊎◌, inl, inr, ◌+◌, ℕ, List, [], ◌∷◌, length, take}
use Rattle.bag_facts.proofs.Common.{get_or, sym, subst, Contains, get_or_default, take_all, algs, Alg, each_is_listed}
use Rattle.bag_facts.proofs.Common.{contains_first, contains_front, contains_back, contains_nothing}
use Rattle.bag_facts.proofs.Mapped.{take_one_more, taken_cases}

module _ (P : Alg → Type 0) where
  -- the set of those among these of which it holds
  abbrev pub AreThose : List Alg → List Alg → Type 0
  AreThose among set = (alg : Alg) → Contains set alg ↔ (Contains among alg × P alg)

  pub no_alg_yet : AreThose [] []
  no_alg_yet alg = (λ c. absurd (contains_nothing alg c), λ h. h.0)

  module _ (i : ℕ) (any : Alg) (set : List Alg) (lt : i < length algs) (so_far : AreThose (take i algs) set) where
    is_next : get_or algs i any ≡ get_or algs i (get_or algs i any)
    is_next = sym (get_or_default algs i (get_or algs i any) any lt)

    -- one of which it holds
    pub one_alg_more : (more : List Alg) → P (get_or algs i any)
        → ((alg : Alg) → Contains more alg ↔ (Contains set alg ⊎ (alg ≡ get_or algs i any)))
        → AreThose (take (i + 1) algs) more
    one_alg_more more holds with_it alg = (
      λ c. elim ((with_it alg).0 c) [
        | inl old ↦ (
          rw (take_one_more algs i (get_or algs i any) lt is_next)
              (contains_front (take i algs) (get_or algs i any ∷ []) alg ((so_far alg).0 old).0),
          ((so_far alg).0 old).1,
        )
        | inr same ↦ rw (same, take_one_more algs i (get_or algs i any) lt is_next) (
          contains_back (take i algs) (get_or algs i any ∷ []) (get_or algs i any)
              (contains_first (get_or algs i any) []),
          holds,
        )
      ],
      λ h. (with_it alg).1
          (elim (taken_cases algs i (get_or algs i any) alg lt is_next h.0)
          [ inl old ↦ inl ((so_far alg).1 (old, h.1)) | inr same ↦ inr (sym same) ]),
    )

    -- one of which it doesn't hold
    pub one_alg_other : ¬ (P (get_or algs i any)) → AreThose (take (i + 1) algs) set
    one_alg_other fails alg = (
      λ c. (
        rw (take_one_more algs i (get_or algs i any) lt is_next)
            (contains_front (take i algs) (get_or algs i any ∷ []) alg ((so_far alg).0 c).0),
        ((so_far alg).0 c).1,
      ),
      λ h. elim (taken_cases algs i (get_or algs i any) alg lt is_next h.0)
          [ inl old ↦ (so_far alg).1 (old, h.1) | inr same ↦ absurd (fails (subst P (sym same) h.1)) ],
    )

  -- all of them
  pub all_algs : (i : ℕ) (set : List Alg) → length algs ≤ i → AreThose (take i algs) set → (alg : Alg)
      → Contains set alg ↔ P alg
  all_algs i set le so_far alg = grind (arith, take_all i algs le, each_is_listed alg)
