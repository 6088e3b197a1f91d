-- The first fault of two lists, and what is left without it.
use Rattle.std.proofs.Common.{◌≡◌, ◌≢◌, ◌⊎◌, inl, inr, ◌++◌, ◌∷◌, Bool, true, false, List, []}
use Rattle.std.proofs.Common.{Option, None, Some, Contains, refl, ap, sym, ◌∙◌, subst}
use Rattle.std.specs.Prelude.{if◌then◌else◌}
use Rattle.std.specs.List.Sorted.{IsStrictlySortedBy}
use Rattle.std.specs.Ordering.{is_gt, ordering_reverse}
use Rattle.std.specs.declared.cmp.Ordering.{Ordering}
use Rattle.std.specs.declared.cmp.Ordering.TheVariants.{Less, Equal, Greater}
use Rattle.bag_text.specs.Order.{IsListOf}
use Rattle.bag_text.proofs.ListOf.{contains_behind, contains_cases, contains_either, contains_first}
use Rattle.bag_text.proofs.ListOf.{contains_front, contains_back, contains_nothing, member_has}
use Rattle.bag_text.proofs.ListOf.{one_list}
use Rattle.bag_faults.specs.FaultOrder.{fault_cmp}
use Rattle.bag_faults.specs.declared.fault.Fault.{Fault}
use Rattle.bag_faults.proofs.Ascending.{not_both, not_less_than_itself}
use Rattle.bag_faults.proofs.Ordered.{fault_cmp_same, fault_cmp_total}
use Rattle.bag_sources.specs.Merge.{least_of, union, union_is}
use Rattle.bag_sources.specs.Source.{rest_of}
use Rattle.bag_sources.specs.Filling.{first_of, Where}

-- a fault is another, or less than it
abbrev IsUpTo : Fault → Fault → Type 0
IsUpTo f g = (f ≡ g) ⊎ (fault_cmp f g ≡ Less)

less_up_to : (f g h : Fault) → fault_cmp f g ≡ Less → IsUpTo g h → fault_cmp f h ≡ Less
less_up_to f g h less (inl e) = subst (λ x. fault_cmp f x ≡ Less) e less
less_up_to f g h less (inr more) = fault_cmp_total.trans f g h less more

-- the first of an ascending list is its least
least_is_first : (x : Fault) (u : List Fault) → IsStrictlySortedBy fault_cmp u → Contains u x
    → ((y : Fault) → Contains u y → IsUpTo x y) → first_of u ≡ Some x
unfolding IsStrictlySortedBy
least_is_first x [] s c least = absurd (contains_nothing x c)
least_is_first x (y ∷ u) s c least = elim (contains_cases y u x c) [
  | inl e ↦ ap Some e
  | inr behind ↦ (let less : fault_cmp y x
      ≡ Less = member_has (λ z. fault_cmp y z ≡ Less) u x s.0 behind in
      elim (least y (contains_first y u)) [
        | inl e ↦ ap Some (sym e)
        | inr more ↦ absurd (not_both fault_cmp_total x y more less)
      ])
]

up_to_each : (x : Fault) (xs : List Fault) → IsStrictlySortedBy fault_cmp (x ∷ xs) → (y : Fault)
    → Contains (x ∷ xs) y → IsUpTo x y
unfolding IsStrictlySortedBy
up_to_each x xs s y c =
    elim (contains_cases x xs y c) [
      | inl e ↦ inl e
      | inr d ↦ inr (member_has (λ z. fault_cmp x z ≡ Less) xs y s.0 d)
    ]

no_first : (u : List Fault) → ((y : Fault) → Contains u y → ⊥) → first_of u ≡ None
no_first [] none = refl
no_first (y ∷ u) none = absurd (none y (contains_first y u))

module _ (fs gs : List Fault) where
  abbrev both : List Fault
  both = union fs gs

  in_both : (y : Fault) → Contains fs y ⊎ Contains gs y → Contains both y
  in_both y (inl a) = ((union_is fs gs).members y).1 (contains_front fs gs y a)
  in_both y (inr b) = ((union_is fs gs).members y).1 (contains_back fs gs y b)

  of_both : (y : Fault) → Contains both y → Contains fs y ⊎ Contains gs y
  of_both y c = contains_either fs gs y (((union_is fs gs).members y).0 c)

  pub union_ascends : IsStrictlySortedBy fault_cmp (union fs gs)
  union_ascends = (union_is fs gs).ascending

  first_at : (x : Fault) → Contains fs x ⊎ Contains gs x
      → ((y : Fault) → Contains fs y → IsUpTo x y) → ((y : Fault) → Contains gs y → IsUpTo x y)
      → first_of (union fs gs) ≡ Some x
  first_at x c of_first of_second =
      least_is_first x (union fs gs) union_ascends (in_both x c) (λ y d. elim (of_both y d) [
        | inl a ↦ of_first y a
        | inr b ↦ of_second y b
      ])

-- of two lists
first_of_two : (x y : Fault) (xs ys : List Fault) (o : Ordering) → fault_cmp x y ≡ o
    → IsStrictlySortedBy fault_cmp (x ∷ xs) → IsStrictlySortedBy fault_cmp (y ∷ ys)
    → first_of (union (x ∷ xs) (y ∷ ys)) ≡ (if is_gt o then Some y else Some x)
first_of_two x y xs ys Less e p q =
    first_at (x ∷ xs) (y ∷ ys) x (inl (contains_first x xs)) (up_to_each x xs p)
    (λ z c. inr (less_up_to x y z e (up_to_each y ys q z c)))
first_of_two x y xs ys Equal e p q =
    let same : x ≡ y = fault_cmp_same x y e in
    first_at (x ∷ xs) (y ∷ ys) x (inl (contains_first x xs)) (up_to_each x xs p)
    (λ z c. subst (λ w. IsUpTo w z) (sym same) (up_to_each y ys q z c))
first_of_two x y xs ys Greater e p q =
    let less : fault_cmp y x ≡ Less = fault_cmp_total.antisymm y x ∙ ap ordering_reverse e in
    first_at (x ∷ xs) (y ∷ ys) y (inr (contains_first y ys))
    (λ z c. inr (less_up_to y x z less (up_to_each x xs p z c))) (up_to_each y ys q)

pub first_of_union : (fs gs : List Fault) → IsStrictlySortedBy fault_cmp fs
    → IsStrictlySortedBy fault_cmp gs
    → first_of (union fs gs) ≡ least_of (first_of fs) (first_of gs)
first_of_union [] [] p q =
    no_first (union [] [])
    (λ y c. elim (of_both [] [] y c) [
      | inl a ↦ contains_nothing y a
      | inr b ↦ contains_nothing y b
    ])
first_of_union (x ∷ xs) [] p q =
    first_at (x ∷ xs) [] x (inl (contains_first x xs)) (up_to_each x xs p)
    (λ y c. absurd (contains_nothing y c))
first_of_union [] (y ∷ ys) p q =
    first_at [] (y ∷ ys) y (inr (contains_first y ys)) (λ z c. absurd (contains_nothing z c))
    (up_to_each y ys q)
first_of_union (x ∷ xs) (y ∷ ys) p q = first_of_two x y xs ys (fault_cmp x y) refl p q

-- the list without its first
rest_listed : (x : Fault) (u : List Fault) → IsStrictlySortedBy fault_cmp u → first_of u ≡ Some x
    → IsListOf fault_cmp (λ z. Contains u z × (z ≢ x)) (rest_of u)
unfolding IsStrictlySortedBy
rest_listed x [] s e = cc
rest_listed x (y ∷ u) s e =
    let same : y ≡ x = cc in record {
      ascending = s.1;
      members = λ z. (
        λ c. (
          contains_behind y u z c,
          λ is. not_less_than_itself fault_cmp_total y z (same ∙ sym is)
              (member_has (λ w. fault_cmp y w ≡ Less) u z s.0 c),
        ),
        λ h. elim (contains_cases y u z h.0) [ inl is ↦ absurd (h.1 (sym is ∙ same)) | inr d ↦ d ],
      );
    }

-- the union of what two lists leave without their first fault is what their union leaves
module _ (fs gs more others : List Fault) (x : Fault) where
  rest_of_union : first_of (union fs gs) ≡ Some x
      → ((z : Fault)
      → Contains more z ⊎ Contains others z → (Contains fs z ⊎ Contains gs z) × (z ≢ x))
      → ((z : Fault) → Contains fs z ⊎ Contains gs z → z ≢ x → Contains more z ⊎ Contains others z)
      → union more others ≡ rest_of (union fs gs)
  rest_of_union e to from =
      let list = rest_listed x (union fs gs) (union_ascends fs gs) e in
      one_list fault_cmp fault_cmp_total (Contains (more ++ others)) (union more others)
      (rest_of (union fs gs)) (union_is more others)
      (record {
        ascending = list.ascending;
        members = λ z. (
          (λ c. let h = (list.members z).0 c in
              elim (from z (of_both fs gs z h.0) h.1) [
                | inl a ↦ contains_front more others z a
                | inr b ↦ contains_back more others z b
              ]),
          (λ c. let h = to z (contains_either more others z c) in
              (list.members z).1 (in_both fs gs z h.0, h.1)),
        );
      })

-- a list after its first
behind_is_other : (x : Fault) (xs : List Fault) → IsStrictlySortedBy fault_cmp (x ∷ xs)
    → (z : Fault) → Contains xs z → z ≢ x
unfolding IsStrictlySortedBy
behind_is_other x xs s z c is =
    not_less_than_itself fault_cmp_total x z (sym is)
    (member_has (λ w. fault_cmp x w ≡ Less) xs z s.0 c)

still_behind : (x : Fault) (xs : List Fault) (z : Fault) → Contains (x ∷ xs) z → z ≢ x
    → Contains xs z
still_behind x xs z c other =
    elim (contains_cases x xs z c) [ inl is ↦ absurd (other (sym is)) | inr d ↦ d ]

-- where a fault is less than each of a list, it is none of them
less_is_other : (x : Fault) (ys : List Fault) → ((y : Fault) → Contains ys y → fault_cmp x y ≡ Less)
    → (z : Fault) → Contains ys z → z ≢ x
less_is_other x ys less z c is = not_less_than_itself fault_cmp_total x z (sym is) (less z c)

module _ (x y : Fault) (xs ys : List Fault) (p : IsStrictlySortedBy fault_cmp (x ∷ xs))
    (q : IsStrictlySortedBy fault_cmp (y ∷ ys)) where
  pub rest_less : fault_cmp x y ≡ Less → union xs (y ∷ ys) ≡ rest_of (union (x ∷ xs) (y ∷ ys))
  rest_less e =
      rest_of_union (x ∷ xs) (y ∷ ys) xs (y ∷ ys) x (first_of_two x y xs ys Less e p q)
      (λ z c. elim c [
        | inl a ↦ (inl (contains_behind x xs z a), behind_is_other x xs p z a)
        | inr b ↦ (
          inr b,
          less_is_other x (y ∷ ys) (λ w d. less_up_to x y w e (up_to_each y ys q w d)) z b,
        )
      ])
      (λ z c other. elim c [ inl a ↦ inl (still_behind x xs z a other) | inr b ↦ inr b ])

  pub rest_greater : fault_cmp x y ≡ Greater → union (x ∷ xs) ys ≡ rest_of (union (x ∷ xs) (y ∷ ys))
  rest_greater e =
      let less : fault_cmp y x ≡ Less = fault_cmp_total.antisymm y x ∙ ap ordering_reverse e in
      rest_of_union (x ∷ xs) (y ∷ ys) (x ∷ xs) ys y (first_of_two x y xs ys Greater e p q)
      (λ z c. elim c [
        | inl a ↦ (
          inl a,
          less_is_other y (x ∷ xs) (λ w d. less_up_to y x w less (up_to_each x xs p w d)) z a,
        )
        | inr b ↦ (inr (contains_behind y ys z b), behind_is_other y ys q z b)
      ])
      (λ z c other. elim c [ inl a ↦ inl a | inr b ↦ inr (still_behind y ys z b other) ])

  pub rest_equal : fault_cmp x y ≡ Equal → union xs ys ≡ rest_of (union (x ∷ xs) (y ∷ ys))
  rest_equal e =
      let same : x ≡ y = fault_cmp_same x y e in
      rest_of_union (x ∷ xs) (y ∷ ys) xs ys x (first_of_two x y xs ys Equal e p q)
      (λ z c. elim c [
        | inl a ↦ (inl (contains_behind x xs z a), behind_is_other x xs p z a)
        | inr b ↦ (inr (contains_behind y ys z b), λ is. behind_is_other y ys q z b (is ∙ same))
      ])
      (λ z c other. elim c [
        | inl a ↦ inl (still_behind x xs z a other)
        | inr b ↦ inr (still_behind y ys z b (λ is. other (is ∙ sym same)))
      ])

-- where one list has none
pub rest_alone : (x : Fault) (xs : List Fault) → IsStrictlySortedBy fault_cmp (x ∷ xs)
    → union xs [] ≡ rest_of (union (x ∷ xs) [])
rest_alone x xs p =
    rest_of_union (x ∷ xs) [] xs [] x
    (first_at (x ∷ xs) [] x (inl (contains_first x xs)) (up_to_each x xs p)
    (λ y c. absurd (contains_nothing y c)))
    (λ z c. elim c [
      | inl a ↦ (inl (contains_behind x xs z a), behind_is_other x xs p z a)
      | inr b ↦ absurd (contains_nothing z b)
    ])
    (λ z c other. elim c [ inl a ↦ inl (still_behind x xs z a other) | inr b ↦ inr b ])

pub rest_other : (y : Fault) (ys : List Fault) → IsStrictlySortedBy fault_cmp (y ∷ ys)
    → union [] ys ≡ rest_of (union [] (y ∷ ys))
rest_other y ys q =
    rest_of_union [] (y ∷ ys) [] ys y
    (first_at [] (y ∷ ys) y (inr (contains_first y ys))
    (λ z c. absurd (contains_nothing z c)) (up_to_each y ys q))
    (λ z c. elim c [
      | inl a ↦ absurd (contains_nothing z a)
      | inr b ↦ (inr (contains_behind y ys z b), behind_is_other y ys q z b)
    ])
    (λ z c other. elim c [ inl a ↦ inl a | inr b ↦ inr (still_behind y ys z b other) ])

-- what is shown where both fronts are known
pub first_of_merged : (is_filled : Bool) (a b : Option Fault) (fs gs : List Fault) (f : Fault)
    → IsStrictlySortedBy fault_cmp fs → IsStrictlySortedBy fault_cmp gs
    → Where is_filled ((a ≡ first_of fs) × (b ≡ first_of gs))
    → (if is_filled then least_of a b else None) ≡ Some f → first_of (union fs gs) ≡ Some f
first_of_merged true a b fs gs f p q known e =
    first_of_union fs gs p q ∙ (λ i. least_of (sym known.0 i) (sym known.1 i)) ∙ e
first_of_merged false a b fs gs f p q known e = let clash : None ≡ Some f = e in cc
