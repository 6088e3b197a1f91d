-- Faults that are found item by item, of items in an order.
use Rattle.bag_stages.proofs.Common.{◌≡◌, ◌<◌, ◌≤◌, ◌⊎◌, inl, inr, ◌+◌, ◌++◌, ◌∷◌, ℕ, List, [], length, take, get_or}
use Rattle.bag_stages.proofs.Common.{Option, refl, sym, subst, arith, append-nil, take_all, get_or_default}
use Rattle.bag_stages.proofs.Common.{option_to_list, algs, rank_cmp, Alg, each_is_listed, list_ascends, Contains}
use Rattle.bag_stages.proofs.Common.{Ordering, Less, IsListOf, IsOnly, contains_cases, contains_first, contains_nothing}
use Rattle.bag_stages.proofs.Common.{contains_front, contains_back, contains_either, joined, nothing_listed, one_listed}
use Rattle.bag_stages.proofs.Common.{only_listed, same_members, Fault, fault_cmp, take_one_more}
use Rattle.std.specs.List.Sorted.{IsStrictlySortedBy}
use Rattle.std.proofs.lemmas.List.{get_or-take, length-take}
use Rattle.std.proofs.lemmas.Map.Keys.{Less-from_sorted}

module _ {I A : Type 0} (IsOf : I → A → Type 0) where
  -- of one of these
  abbrev pub OfSome : List I → A → Type 0
  OfSome items x = (item : I) × Contains items item × IsOf item x

  -- what is of one more of these is of one before it or of the last
  pub of_one_more : (before : List I) (item : I) (x : A) → OfSome before x ⊎ IsOf item x
      → OfSome (before ++ item ∷ []) x
  of_one_more before item x (inl a) = (a.0, contains_front before (item ∷ []) a.0 a.1, a.2)
  of_one_more before item x (inr b) = (item, contains_back before (item ∷ []) item (contains_first item []), b)

  pub of_last_or_before : (before : List I) (item : I) (x : A) → OfSome (before ++ item ∷ []) x
      → OfSome before x ⊎ IsOf item x
  of_last_or_before before item x h =
      grind (arith, contains_either before (item ∷ []) h.0 h.1, contains_cases item [], contains_nothing)

-- the faults of items
module _ {I : Type 0} (IsOf : I → Fault → Type 0) where
  pub no_items : IsListOf fault_cmp (OfSome IsOf []) []
  no_items = nothing_listed fault_cmp (OfSome IsOf []) (λ f h. contains_nothing h.0 h.1)

  -- of all of them
  pub all_items : (items : List I) (i : ℕ) (faults : List Fault) → length items ≤ i
      → IsListOf fault_cmp (OfSome IsOf (take i items)) faults → IsListOf fault_cmp (OfSome IsOf items) faults
  all_items items i faults le list =
      subst (λ some. IsListOf fault_cmp (OfSome IsOf some) faults) (take_all i items le) list

module _ {I : Type 0} (item_cmp : I → I → Ordering) where
  -- the first items are less than the next
  pub before_next : (items : List I) (i : ℕ) (item first : I) → IsStrictlySortedBy item_cmp items → i < length items
      → item ≡ get_or items i item
      → Contains (take i items) first → item_cmp first item ≡ Less
  before_next items i item first s lt e (k, inside, is) =
      grind (
        arith,
        Less-from_sorted item_cmp items k i first s,
        get_or-take i items k first,
        get_or_default items i item first lt,
        length-take,
      )

-- the faults of items are ordered as these
module _ {I : Type 0} (item_cmp : I → I → Ordering) (IsOf : I → Fault → Type 0)
    (less : (i j : I) (x y : Fault) → IsOf i x → IsOf j y → item_cmp i j ≡ Less → fault_cmp x y ≡ Less) where
  -- the faults of the first items, and those of the next
  pub one_item_more : (items : List I) (i : ℕ) (item : I) (faults of_item : List Fault)
      → IsStrictlySortedBy item_cmp items
      → i < length items → item ≡ get_or items i item → IsListOf fault_cmp (OfSome IsOf (take i items)) faults
      → IsListOf fault_cmp (IsOf item) of_item
      → IsListOf fault_cmp (OfSome IsOf (take (i + 1) items)) (faults ++ of_item)
  one_item_more items i item faults of_item s lt e list of_next =
      let before : List I = take i items in
      subst (λ some. IsListOf fault_cmp (OfSome IsOf some) (faults ++ of_item)) (sym (take_one_more items i item lt e))
      (same_members fault_cmp _ _ (faults ++ of_item) (of_one_more IsOf before item)
      (of_last_or_before IsOf before item)
      (joined fault_cmp (OfSome IsOf before) (IsOf item) faults of_item list of_next
      (λ x y a b. less a.0 item x y a.2 b (before_next item_cmp items i item a.0 s lt e a.1))))

  -- or the one fault of the next, if it has one
  pub one_fault_more : (items : List I) (i : ℕ) (item : I) (faults : List Fault) (o : Option Fault)
      → IsStrictlySortedBy item_cmp items
      → i < length items → item ≡ get_or items i item → IsListOf fault_cmp (OfSome IsOf (take i items)) faults
      → IsOnly (IsOf item) o → IsListOf fault_cmp (OfSome IsOf (take (i + 1) items)) (faults ++ option_to_list o)
  one_fault_more items i item faults o s lt e list only =
      one_item_more items i item faults (option_to_list o) s lt e list (only_listed fault_cmp (IsOf item) o only)

-- the fault that is made of an item, where this holds of the item
abbrev pub IsMade : {I : Type 0} → (I → Fault) → (I → Type 0) → I → Fault → Type 0
IsMade made IsWrong item f = (f ≡ made item) × IsWrong item

module _ {I : Type 0} (item_cmp : I → I → Ordering) (made : I → Fault) (IsWrong : I → Type 0)
    (less : (x y : I) → item_cmp x y ≡ Less → fault_cmp (made x) (made y) ≡ Less) where
  -- one item more, of which it holds or doesn't
  pub one_tested_more : (items : List I) (i : ℕ) (item : I) (faults more : List Fault)
      → IsStrictlySortedBy item_cmp items
      → i < length items → item ≡ get_or items i item
      → IsListOf fault_cmp (OfSome (IsMade made IsWrong) (take i items)) faults
      → (IsWrong item × (more ≡ faults ++ made item ∷ [])) ⊎ ((¬ (IsWrong item)) × (more ≡ faults))
      → IsListOf fault_cmp (OfSome (IsMade made IsWrong) (take (i + 1) items)) more
  one_tested_more items i item faults more s lt e list told =
      let next : (of_item : List Fault) → IsListOf fault_cmp (IsMade made IsWrong item) of_item
      → IsListOf fault_cmp (OfSome (IsMade made IsWrong) (take (i + 1) items)) (faults ++ of_item) =
      λ of_item. one_item_more item_cmp (IsMade made IsWrong) (λ x y f g h k before. rw (h.0, k.0) (less x y before))
      items i item faults of_item s lt e list in
      elim told [
        | inl wrong ↦ rw wrong.1
            (next (made item ∷ [])
            (one_listed fault_cmp (IsMade made IsWrong item) (made item) (refl, wrong.0) (λ f h. h.0)))
        | inr right ↦ rw (right.1, sym (append-nil faults))
            (next [] (nothing_listed fault_cmp (IsMade made IsWrong item) (λ f h. right.0 h.1)))
      ]

-- the faults of each algorithm, one after another
module _ (IsOf : Alg → Fault → Type 0)
    (less : (a b : Alg) (x y : Fault) → IsOf a x → IsOf b y → rank_cmp a b ≡ Less → fault_cmp x y ≡ Less) where
  pub next_alg_listed : (i : ℕ) (any : Alg) (faults of_alg : List Fault) → i < length algs
      → IsListOf fault_cmp (OfSome IsOf (take i algs)) faults
      → IsListOf fault_cmp (IsOf (get_or algs i any)) of_alg
      → IsListOf fault_cmp (OfSome IsOf (take (i + 1) algs)) (faults ++ of_alg)
  next_alg_listed i any faults of_alg lt list next =
      let alg : Alg = get_or algs i any in
      one_item_more rank_cmp IsOf less algs i alg faults of_alg list_ascends lt (sym (get_or_default algs i alg any lt))
      list next

  pub all_algs_listed : (i : ℕ) (faults : List Fault) → length algs ≤ i
      → IsListOf fault_cmp (OfSome IsOf (take i algs)) faults
      → IsListOf fault_cmp (λ f. (alg : Alg) × IsOf alg f) faults
  all_algs_listed i faults le list =
      same_members fault_cmp _ _ faults (λ f h. (h.0, h.2)) (λ f h. (h.0, each_is_listed h.0, h.1))
      (all_items IsOf algs i faults le list)
