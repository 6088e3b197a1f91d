-- Faults that are found item by item, of items in the order of their paths.
use Rattle.bag_stages.proofs.Common.{◌≡◌, ◌<◌, ◌≤◌, ◌+◌, ◌++◌, ℕ, List, length, take, get_or, map, Option, sym, subst}
use Rattle.bag_stages.proofs.Common.{Contains, take_all, items_ascend, on, option_to_list, IsStrictlySortedBy, Less}
use Rattle.bag_stages.proofs.Common.{text_cmp, IsListOf, IsOnly, same_members, Fault, fault_cmp, mapped_contains}
use Rattle.bag_stages.proofs.Common.{contains_mapped, arith, ◌⊎◌, ◌∷◌, [], refl, Alg, Code, of_path, IsOfPath}
use Rattle.bag_stages.proofs.Common.{IsOfPathAmong}
use Rattle.bag_stages.proofs.ByItem.{OfSome, all_items, one_fault_more, IsMade, one_tested_more}
use Rattle.bag_stages.proofs.InFile.{less_by_path}

pub take_whole : {I : Type 0} (items : List I) (i : ℕ) → length items ≤ i → take i items ≡ items
take_whole items i le = take_all i items le

-- `file_of` tells the item that a fault is found at, and the faults are ordered as their items
module _ {I : Type 0} (path_of : I → List ℕ) (file_of : Fault → List ℕ) (IsFound : Fault → Type 0) where
  abbrev pub FoundAt : I → Fault → Type 0
  FoundAt item f = (file_of f ≡ path_of item) × IsFound f

  -- one item more, which has one fault at most
  pub one_found_more : ((x y : Fault) → IsFound x → IsFound y → text_cmp (file_of x) (file_of y) ≡ Less
      → fault_cmp x y ≡ Less)
      → (items : List I) (i : ℕ) (item : I) (faults more : List Fault) (o : Option Fault)
      → IsStrictlySortedBy text_cmp (map path_of items) → i < length items → item ≡ get_or items i item
      → IsListOf fault_cmp (OfSome FoundAt (take i items)) faults → IsOnly (FoundAt item) o
      → more ≡ faults ++ option_to_list o
      → IsListOf fault_cmp (OfSome FoundAt (take (i + 1) items)) more
  one_found_more less items i item faults more o s lt e list only is =
      rw is (one_fault_more (on path_of text_cmp) FoundAt
      (λ a b x y h k before. less x y h.1 k.1 (rw (h.0, k.0) before)) items i item faults o
      (items_ascend path_of items s) lt e list only)

  -- the faults of all items
  pub all_paths : (items : List I) (i : ℕ) (faults : List Fault) → length items ≤ i
      → IsListOf fault_cmp (OfSome FoundAt (take i items)) faults
      → IsListOf fault_cmp (λ f. Contains (map path_of items) (file_of f) × IsFound f) faults
  all_paths items i faults le list =
      same_members fault_cmp _ _ faults
      (λ f h. (subst (Contains (map path_of items)) (sym h.2.0) (mapped_contains path_of items h.0 h.1), h.2.1))
      (λ f h. let some = contains_mapped path_of items (file_of f) h.0 in (some.0, some.1, (sym some.2, h.1)))
      (all_items FoundAt items i faults le list)

-- the faults of paths, by the manifest of one algorithm, or by all
module _ (code : Code) (alg : Option Alg) (IsWrong : List ℕ → Type 0) where
  module _ {I : Type 0} (path_of : I → List ℕ) where
    -- the fault of an item whose path is wrong
    abbrev pub WrongAt : I → Fault → Type 0
    WrongAt = IsMade (λ item. of_path code (path_of item) alg []) (λ item. IsWrong (path_of item))

    pub one_path_more : (items : List I) (i : ℕ) (item : I) (faults more : List Fault)
        → IsStrictlySortedBy (on path_of text_cmp) items
        → i < length items → item ≡ get_or items i item → IsListOf fault_cmp (OfSome WrongAt (take i items)) faults
        → (IsWrong (path_of item) × (more ≡ faults ++ of_path code (path_of item) alg [] ∷ []))
        ⊎ ((¬ (IsWrong (path_of item))) × (more ≡ faults))
        → IsListOf fault_cmp (OfSome WrongAt (take (i + 1) items)) more
    one_path_more =
        one_tested_more (on path_of text_cmp) (λ item. of_path code (path_of item) alg []) (λ item.
        IsWrong (path_of item))
        (λ x y less. less_by_path (of_path code (path_of x) alg []) (of_path code (path_of y) alg []) refl less)

    pub all_wrong_paths : (items : List I) (i : ℕ) (faults : List Fault) → length items ≤ i
        → IsListOf fault_cmp (OfSome WrongAt (take i items)) faults
        → IsListOf fault_cmp (IsOfPathAmong code alg IsWrong (map path_of items)) faults
    all_wrong_paths items i faults le list =
        same_members fault_cmp _ _ faults
        (λ f h. grind (arith, mapped_contains path_of items h.0 h.1))
        (λ f h. grind (arith, contains_mapped path_of items f.path h.0))
        (all_items WrongAt items i faults le list)

  -- the same in the words of the bag
  pub in_other_words : (paths : List (List ℕ)) (IsSo : List ℕ → Type 0) (faults : List Fault)
      → ((path : List ℕ) → Contains paths path → IsWrong path → IsSo path)
      → ((path : List ℕ) → IsSo path → Contains paths path × IsWrong path)
      → IsListOf fault_cmp (IsOfPathAmong code alg IsWrong paths) faults
      → IsListOf fault_cmp (IsOfPath code alg IsSo) faults
  in_other_words paths IsSo faults to from list =
      same_members fault_cmp _ _ faults (λ f h. (h.1.0, to f.path h.0 h.1.1))
      (λ f h. let w = from f.path h.1 in (w.0, (h.0, w.1))) list
