-- The bag that is seen of a listing is a bag.
use Rattle.bag_facts.proofs.Common.{◌≡◌, ℕ, ◌<◌, List, Option, None, Some, refl, sym, ◌∙◌, subst, Contains, arith}
use Rattle.bag_facts.proofs.Common.{option_map, All-replicate, IsBag, IsOrdered, IsListingOf, entry_at, FileEntry}
use Rattle.bag_facts.proofs.Common.{Listing, AreBytes, PathsAreTexts, read_path, TagBytes}
use Rattle.bag_facts.proofs.ListedFiles.{item_at, found_item, file_listed}
use Rattle.bag_facts.proofs.Seen.{bytes_of, bytes_or, seen_bag, seen_file}
use Rattle.bag_facts.proofs.SeenFolders.{is_listed_path, is_listed_text, parent_listed, folder_is_name}

module _ (read : List TagBytes) (are : (one : TagBytes) → Contains read one → AreBytes one.bytes.items) where
  some_bytes : (e : FileEntry) (o : Option TagBytes) → item_at read_path read e.path ≡ o → AreBytes (bytes_or o e.size)
  some_bytes e None is = All-replicate (λ b. b < 256) e.size 0 (omega arith)
  some_bytes e (Some one) is = are one (found_item read_path read e.path one is).0

  content_bytes : (o : Option FileEntry) (content : List ℕ) → option_map (bytes_of read) o ≡ Some content
      → AreBytes content
  content_bytes None content is = cc
  content_bytes (Some e) content is =
      let same : bytes_of read e ≡ content =
      cc in subst AreBytes same (some_bytes e (item_at read_path read e.path) refl)

  pub seen_is_bag : (listing : Listing) → IsOrdered listing.files → PathsAreTexts listing.files
      → IsListingOf (seen_bag read listing) listing → IsBag (seen_bag read listing)
  seen_is_bag listing ordered texts listed =
      let bag = seen_bag read listing in
      let files = listing.files in record {
        paths = λ path has.
            let there = file_listed bag files path listed.files has in
            (is_listed_path files path ordered there, is_listed_text files path texts there);
        names = λ name has. folder_is_name listing name ordered texts has;
        parents = λ top rest is has. parent_listed listing top rest is (file_listed bag files _ listed.files has);
        bytes = λ path content is. content_bytes (entry_at files path) content (sym (seen_file read listing path) ∙ is);
      }
