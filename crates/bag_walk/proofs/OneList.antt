-- The files of a bag: there is a list of them, and only one.
use Rattle.bag_walk.proofs.Common.{◌≡◌, ◌∷◌, ◌∙◌, ℕ, List, [], Option, None, Some, Contains, refl, sym, subst}
use Rattle.bag_walk.proofs.Common.{Ordering, text_cmp, nat_list_cmp_total, same_lists, Bag, each_from_members}
use Rattle.bag_walk.proofs.Common.{member_has, mapped_contains, FileEntry, paths_of, option_map, IsTotalOrder, IsTrue}
use Rattle.bag_walk.proofs.Common.{IsBag, ap, all_along, arith, file, is_path, length, map}
use Rattle.std.specs.FinMap.{find, get-entries}
use Rattle.std.specs.List.Sorted.{IsStrictlySortedBy}
use Rattle.std.specs.Ordering.{on}
use Rattle.bag_facts.proofs.Common.{on_total}
use Rattle.bag_facts.proofs.ListedFiles.{found_item, listed_file, own_size}
use Rattle.bag_report.proofs.AscendingList.{keys_rise}
use Rattle.bag_tree.proofs.SameText.{same_test}
use Rattle.bag_tree.specs.Bag.{files_of}
use Rattle.bag_tree.specs.Listing.{entry_at, entry_of_file, size_at}
use Rattle.bag_sources.specs.Parts.{AreFilesIn, OneListOfFiles}

abbrev by_path : FileEntry → FileEntry → Ordering
by_path = on (λ (entry : FileEntry). entry.path) text_cmp

by_path_total : IsTotalOrder by_path
by_path_total = on_total (λ (entry : FileEntry). entry.path) nat_list_cmp_total

-- files whose paths ascend ascend by them
files_ascend : (files : List FileEntry) → IsStrictlySortedBy text_cmp (paths_of files)
    → IsStrictlySortedBy by_path files
unfolding IsStrictlySortedBy
files_ascend [] s = tt
files_ascend (entry ∷ files) s = (
  each_from_members _ files (λ other c. member_has _ (paths_of files) other.path s.0
      (mapped_contains (λ (e : FileEntry). e.path) files other c)),
  files_ascend files s.1,
)

-- an entry of a path with a size
entry_of : (files : List FileEntry) (path : List ℕ) (found : Option FileEntry) (size : ℕ)
    → entry_at files path ≡ found → option_map (λ (e : FileEntry). e.size) found ≡ Some size
    → (entry : FileEntry) × Contains files entry × (entry.path ≡ path) × (entry.size ≡ size)
entry_of files path None size at is = let none : None ≡ Some size = is in cc
entry_of files path (Some entry) size at is =
    let found = found_item (λ (e : FileEntry). e.path) files path entry at in
    let same : Some entry.size ≡ Some size = is in
    (entry, found.0, found.1, cc)

same_entry : (one other : FileEntry) → other.path ≡ one.path → other.size ≡ one.size → other ≡ one
same_entry one other p s = λ i. record { path = p i; size = s i }

module _ (bag : Bag) (files others : List FileEntry) (are : AreFilesIn bag files) (too : AreFilesIn bag others) where
  there_too : (entry : FileEntry) → Contains files entry → Contains others entry
  there_too entry c =
      let size : size_at others entry.path ≡ Some entry.size =
      too.sizes entry.path ∙ sym (are.sizes entry.path) ∙ own_size files entry are.ordered.ascending c in
      let found = entry_of others entry.path (entry_at others entry.path) entry.size refl size in
      subst (Contains others) (same_entry entry found.0 found.2 found.3) found.1

pub one_list_of_files : OneListOfFiles
one_list_of_files bag files others are too =
    same_lists by_path by_path_total files others (files_ascend files are.ordered.ascending)
    (files_ascend others too.ordered.ascending) (there_too bag files others are too) (there_too bag others files too are)

paths_listed : (es : List (List ℕ × List ℕ)) → paths_of (map entry_of_file es) ≡ map (λ e. e.0) es
paths_listed [] = refl
paths_listed (e ∷ es) = ap (λ paths. e.0 ∷ paths) (paths_listed es)

listed_size : (es : List (List ℕ × List ℕ)) (q : List ℕ)
    → size_at (map entry_of_file es) q ≡ option_map length (find text_cmp q es)
listed_size [] q = refl
listed_size (e ∷ es) q = grind (arith, same_test, listed_size es q)

module _ (bag : Bag) (is_bag : IsBag bag) where
  abbrev listed : List FileEntry
  listed = map entry_of_file (files_of bag)

  sizes : (path : List ℕ) → size_at listed path ≡ option_map length (file bag path)
  sizes path = listed_size (files_of bag) path ∙ sym (ap (option_map length) (get-entries bag.files path))

  pub bag_is_listed : (files : List FileEntry) × AreFilesIn bag files
  bag_is_listed = (
    listed,
    record {
      ordered = record {
        ascending = subst (IsStrictlySortedBy text_cmp) (sym (paths_listed (files_of bag))) (keys_rise text_cmp bag.files);
        paths = all_along (λ entry. IsTrue (is_path entry.path)) listed (each_from_members _ listed (λ entry c.
            (is_bag.paths entry.path
            (listed_file bag listed entry.path sizes (mapped_contains (λ (e : FileEntry). e.path) listed entry c))).0));
      };
      sizes = sizes;
    },
  )
