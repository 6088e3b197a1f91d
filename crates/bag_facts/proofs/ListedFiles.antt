-- The files of a listing.
use Rattle.bag_facts.proofs.Common.{arith, ◌≡◌, ◌∷◌, inl, inr, ℕ, List, [], Option, Some, Bool, true, false, cond, refl}
use Rattle.bag_facts.proofs.Common.{sym, ap, ◌∙◌, subst, is_some, map, Contains, bytes_eq, option_map, tied_itself}
use Rattle.bag_facts.proofs.Common.{nat_list_cmp_total, Less, Equal, bytes_eq-Decides, text_cmp, contains_cases}
use Rattle.bag_facts.proofs.Common.{contains_first, contains_behind, contains_nothing, member_has, Bag, file, HasFile}
use Rattle.bag_facts.proofs.Common.{entry_at, size_at, FileEntry, AreFilesOfBag, paths_of, IsStrictlySortedBy}
use Rattle.std.specs.List.{find}
use Rattle.bag_facts.proofs.Mapped.{mapped_contains}

not_itself : (p q : List ℕ) → text_cmp p q ≡ Less → p ≡ q → ⊥
not_itself p q less same =
    let clash : Less ≡ Equal = sym less ∙ sym (ap (text_cmp p) same) ∙ tied_itself nat_list_cmp_total p in cc

-- the first item with this text is the one that has it, where the texts of the items ascend
module _ {A : Type 0} (key : A → List ℕ) where
  abbrev pub item_at : List A → List ℕ → Option A
  item_at xs q = find (λ x. bytes_eq (key x) q) xs

  own_by : (x y : A) (xs : List A) (b : Bool) → bytes_eq (key x) (key y) ≡ b → text_cmp (key x) (key y) ≡ Less
      → item_at xs (key y) ≡ Some y → cond b (Some x) (item_at xs (key y)) ≡ Some y
  own_by x y xs true same less rest =
      absurd (not_itself (key x) (key y) less ((bytes_eq-Decides (key x) (key y)).0 same))
  own_by x y xs false same less rest = rest

  pub own_item : (xs : List A) (y : A) → IsStrictlySortedBy text_cmp (map key xs) → Contains xs y
      → item_at xs (key y) ≡ Some y
  unfolding IsStrictlySortedBy
  own_item [] y s c = absurd (contains_nothing y c)
  own_item (x ∷ xs) y s c = elim (contains_cases x xs y c) [
    | inl e ↦ subst (λ z. item_at (x ∷ xs) (key z) ≡ Some z) e
        (ap (λ b. cond b (Some x) (item_at xs (key x))) ((bytes_eq-Decides (key x) (key x)).1 refl))
    | inr d ↦ own_by x y xs (bytes_eq (key x) (key y)) refl
        (member_has _ (map key xs) (key y) s.0 (mapped_contains key xs y d)) (own_item xs y s.1 d)
  ]

  -- an item that is found is there, and has the text
  pub found_item : (xs : List A) (q : List ℕ) (y : A) → item_at xs q ≡ Some y → Contains xs y × (key y ≡ q)
  found_item [] q y is = cc
  found_item (x ∷ xs) q y is = grind (arith, contains_first, bytes_eq-Decides, contains_behind, found_item xs q y)

-- the size of a listed file
pub own_size : (files : List FileEntry) (entry : FileEntry) → IsStrictlySortedBy text_cmp (paths_of files)
    → Contains files entry → size_at files entry.path ≡ Some entry.size
own_size files entry s c =
    ap (option_map (λ (e : FileEntry). e.size)) (own_item (λ (e : FileEntry). e.path) files entry s c)

listed_path : (files : List FileEntry) (path : List ℕ) → is_some (entry_at files path) ≡ true
    → Contains (paths_of files) path
listed_path [] path h = cc
listed_path (e ∷ files) path h =
    grind (arith, bytes_eq-Decides, contains_first, contains_behind, listed_path files path)

path_listed : (files : List FileEntry) (path : List ℕ) → Contains (paths_of files) path
    → is_some (entry_at files path) ≡ true
path_listed [] path c = absurd (contains_nothing path c)
path_listed (e ∷ files) path c = grind (arith, contains_cases, bytes_eq-Decides, path_listed files path)

there : (bag : Bag) (files : List FileEntry) → AreFilesOfBag bag files → (path : List ℕ)
    → is_some (entry_at files path) ≡ is_some (file bag path)
there bag files listed path = grind arith

-- a file of the bag is listed
pub file_listed : (bag : Bag) (files : List FileEntry) (path : List ℕ) → AreFilesOfBag bag files → HasFile bag path
    → Contains (paths_of files) path
file_listed bag files path listed h = listed_path files path (there bag files listed path ∙ h)

-- and what is listed is a file of the bag
pub listed_file : (bag : Bag) (files : List FileEntry) (path : List ℕ) → AreFilesOfBag bag files
    → Contains (paths_of files) path → HasFile bag path
listed_file bag files path listed c = sym (there bag files listed path) ∙ path_listed files path c
