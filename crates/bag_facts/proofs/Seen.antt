-- A bag that has the listed files, with the bytes that were read of some.
use Rattle.bag_facts.proofs.Common.{arith, ◌≡◌, ℕ, List, [], ◌∷◌, length, map, replicate, Option, None, Some, refl, ap}
use Rattle.bag_facts.proofs.Common.{sym, ◌∙◌, Contains, option_map, IsStrictlySortedBy, find, from_entries}
use Rattle.bag_facts.proofs.Common.{get-from_entries, nat_list_cmp_total, length-replicate, text_cmp, Bag, file}
use Rattle.bag_facts.proofs.Common.{IsOrdered, HasItsFolder, IsListingOf, entry_at, size_at, FileEntry, Listing}
use Rattle.bag_facts.proofs.Common.{same_test, read_path, paths_of, TagBytes}
use Rattle.bag_facts.proofs.ListedFiles.{item_at, own_item, found_item, own_size}
use Rattle.bag_facts.proofs.SeenFolders.{folders_of, data_listed}

find-mapped : (f : FileEntry → List ℕ) (files : List FileEntry) (q : List ℕ)
    → find text_cmp q (map (λ e. (e.path, f e)) files) ≡ option_map f (entry_at files q)
find-mapped f [] q = refl
find-mapped f (e ∷ files) q = grind (arith, same_test, find-mapped f files q)

-- the bytes that were read, or as many as were listed
abbrev pub bytes_or : Option TagBytes → ℕ → List ℕ
bytes_or None size = replicate size 0
bytes_or (Some one) size = one.bytes.items

abbrev pub bytes_of : List TagBytes → FileEntry → List ℕ
bytes_of read e = bytes_or (item_at read_path read e.path) e.size

-- the bag of the listed files with these bytes, and of the folders that the listing tells of
abbrev pub seen_bag : List TagBytes → Listing → Bag
seen_bag read listing =
    record {
      files = from_entries {R = text_cmp} (map (λ e. (e.path, bytes_of read e)) listing.files);
      folders = folders_of listing;
    }

pub seen_file : (read : List TagBytes) (listing : Listing) (q : List ℕ)
    → file (seen_bag read listing) q ≡ option_map (bytes_of read) (entry_at listing.files q)
seen_file read listing q =
    get-from_entries nat_list_cmp_total (map (λ e. (e.path, bytes_of read e)) listing.files) q
    ∙ find-mapped (bytes_of read) listing.files q

module _ (read : List TagBytes) (listing : Listing) (s : IsStrictlySortedBy text_cmp (paths_of listing.files))
    (sizes : (one : TagBytes) → Contains read one
    → size_at listing.files (read_path one) ≡ Some (length one.bytes.items)) where
  length_by : (e : FileEntry) (o : Option TagBytes) → Contains listing.files e → item_at read_path read e.path ≡ o
      → length (bytes_or o e.size) ≡ e.size
  length_by e None c is = length-replicate e.size 0
  length_by e (Some one) c is =
      let found = found_item read_path read e.path one is in
      let same : Some (length one.bytes.items) ≡ Some e.size =
      sym (sizes one found.0) ∙ ap (size_at listing.files) found.1 ∙ own_size listing.files e s c in cc

  size_by : (q : List ℕ) (o : Option FileEntry) → entry_at listing.files q ≡ o
      → option_map (λ (e : FileEntry). e.size) o ≡ option_map length (option_map (bytes_of read) o)
  size_by q None is = refl
  size_by q (Some e) is =
      ap Some (sym (length_by e (item_at read_path read e.path)
      (found_item (λ (x : FileEntry). x.path) listing.files q e is).0 refl))

  pub listing_seen : IsOrdered listing.files → HasItsFolder listing → IsListingOf (seen_bag read listing) listing
  listing_seen ordered needs = grind (arith, size_by, seen_file, data_listed)

  read_by : (one : TagBytes) (o : Option FileEntry) → IsStrictlySortedBy text_cmp (map read_path read)
      → Contains read one → entry_at listing.files (read_path one) ≡ o
      → option_map (bytes_of read) o ≡ Some one.bytes.items
  read_by one None up c is =
      let none : None ≡ Some (length one.bytes.items) =
      sym (ap (option_map (λ (e : FileEntry). e.size)) is) ∙ sizes one c in cc
  read_by one (Some e) up c is =
      let at = (found_item (λ (x : FileEntry). x.path) listing.files (read_path one) e is).1 in
      ap Some (ap (λ path. bytes_or (item_at read_path read path) e.size) at
      ∙ ap (λ o. bytes_or o e.size) (own_item read_path read one up c))

  -- it has the bytes that were read
  pub read_seen : IsStrictlySortedBy text_cmp (map read_path read) → (one : TagBytes) → Contains read one
      → file (seen_bag read listing) (read_path one) ≡ Some one.bytes.items
  read_seen up one c =
      seen_file read listing (read_path one) ∙ read_by one (entry_at listing.files (read_path one)) up c refl
