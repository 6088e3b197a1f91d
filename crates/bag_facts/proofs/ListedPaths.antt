-- A search among listed files, and the manifests that are listed.
use Rattle.bag_facts.proofs.Common.{◌≡◌, ◌↔◌, ℕ, List, [], Bool, length, bytes_eq, subst, sym, ◌∙◌, Contains, IsTrue}
use Rattle.bag_facts.proofs.Common.{Result, bytes_eq-Decides, list_any, is_ok, IsStrictlySortedBy, IsBinarySearchResult}
use Rattle.bag_facts.proofs.Common.{IsSearchInRange, text_cmp, Bag, HasFile, IsOrdered, FileEntry, IsFactsOf, paths_of}
use Rattle.bag_facts.proofs.Common.{Facts, any_from, from_any, true, false, refl}
use Rattle.bag_facts.proofs.ByPath.{found, items_ascend}
use Rattle.bag_facts.proofs.ListedFiles.{file_listed, listed_file}
use Rattle.bag_facts.proofs.Mapped.{contains_mapped, mapped_contains}

some_file : FileEntry
some_file = record { path = []; size = 0 }

-- two tests that hold alike give the same
pub same_truth : (a b : Bool) → (a ≡ true → b ≡ true) → (b ≡ true → a ≡ true) → a ≡ b
same_truth true b to from = sym (to refl)
same_truth false true to from = from refl
same_truth false false to from = refl

-- a search by path tells whether a file has it
pub path_found : (files : List FileEntry) (path : List ℕ) (r : Result ℕ ℕ) (b : Bool) → b ≡ is_ok r
    → IsStrictlySortedBy text_cmp (paths_of files) → IsSearchInRange r (length files)
    → IsBinarySearchResult (λ e. text_cmp e.path path) files r → IsTrue b ↔ Contains (paths_of files) path
path_found files path r b ok ascending within at =
    rw ok (found (λ e. e.path) files some_file path r (items_ascend (λ e. e.path) files ascending) within at)

-- so it tells whether a bag has the file
pub bag_has : (bag : Bag) (known : Facts) (files : List FileEntry) (path : List ℕ) (b : Bool) → IsFactsOf bag known
    → files ≡ known.listing.files
    → (IsOrdered files → IsTrue b ↔ Contains (paths_of files) path) → IsTrue b ↔ HasFile bag path
bag_has bag known files path b facts same tells =
    let told : IsTrue b ↔ Contains (paths_of known.listing.files) path =
    (subst (λ some. IsOrdered some → IsTrue b ↔ Contains (paths_of some) path) same tells) facts.ordered in (
      λ yes. listed_file bag known.listing.files path facts.listing.files (told.0 yes),
      λ has. told.1 (file_listed bag known.listing.files path facts.listing.files has),
    )

-- and so does a test of the path of each file
pub bag_has_one : (bag : Bag) (known : Facts) (files : List FileEntry) (path : List ℕ) (b : Bool) → IsFactsOf bag known
    → files ≡ known.listing.files
    → b ≡ list_any (λ file. bytes_eq file.path path) files → IsTrue b ↔ HasFile bag path
bag_has_one bag known files path b facts same told = bag_has bag known files path b facts same (λ _. (
  λ yes. let some = from_any (λ file. bytes_eq file.path path) files (sym told ∙ yes) in
      subst (Contains (paths_of files)) ((bytes_eq-Decides some.0.path path).0 some.2)
      (mapped_contains (λ file. file.path) files some.0 some.1),
  λ has. let some = contains_mapped (λ file. file.path) files path has in
      told ∙ any_from (λ file. bytes_eq file.path path) files some.0 some.1
      ((bytes_eq-Decides some.0.path path).1 some.2),
))
