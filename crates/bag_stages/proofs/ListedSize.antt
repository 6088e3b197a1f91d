-- The size of the payload among the files of a listing is that of the bag's.
use Rattle.bag_stages.proofs.Common.{arith, ◌≡◌, ℕ, List, [], ◌∷◌, length, map, sum_by, refl, ap, ◌∙◌, length-map}
use Rattle.bag_stages.proofs.Common.{is_payload_path, Bag, files_of, IsOrdered, IsListingOf, FileEntry, oxum}
use Rattle.bag_stages.proofs.Common.{oxum_of_files, payload_entries, listed_oxum}
use Rattle.std.proofs.Common.{filter}
use Rattle.std.proofs.lemmas.List.Sums.{sum_by-cons}
use Rattle.bag_tree.specs.declared.listing.Listing.{Listing}
use Rattle.bag_tree.proofs.ListingLaw.{listings_are_of_the_bag}

abbrev Held : Type 0
Held = List ℕ × List ℕ

abbrev entry_of : Held → FileEntry
entry_of e = record { path = e.0; size = length e.1 }

abbrev payload_of : List Held → List Held
payload_of files = filter (λ e. is_payload_path e.0) files

kept : (files : List Held) → payload_entries (map entry_of files) ≡ map entry_of (payload_of files)
kept [] = refl
kept (e ∷ files) = grind (arith, is_payload_path, kept files)

summed : (files : List Held)
    → sum_by (λ (entry : FileEntry). entry.size) (map entry_of files) ≡ sum_by (λ (e : Held). length e.1) files
summed [] = refl
summed (e ∷ files) =
    grind (
      arith,
      sum_by-cons (λ (entry : FileEntry). entry.size) (entry_of e) (map entry_of files),
      sum_by-cons (λ (e : Held). length e.1) e files,
      summed files,
    )

entries_size : (files : List Held) → listed_oxum (map entry_of files) ≡ oxum_of_files (payload_of files)
entries_size files = grind (arith, sum_by, kept, summed, length-map)

-- the files of a bag's listing have the payload's size
pub listed_size : (bag : Bag) (listing : Listing) → IsOrdered listing.files → IsListingOf bag listing
    → listed_oxum listing.files ≡ oxum bag
listed_size bag listing ordered of =
    ap listed_oxum (listings_are_of_the_bag bag listing ordered of) ∙ entries_size (files_of bag)
