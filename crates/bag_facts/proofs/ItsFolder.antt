-- The payload folder of a listing that names a payload file.
use Rattle.bag_facts.proofs.Common.{arith, ◌≡◌, ◌&&◌, ℕ, List, length, true, codes, refl, sym, ◌∙◌, subst, IsTrue}
use Rattle.bag_facts.proofs.Common.{and_parts, first_component, is_path, is_payload_path, under, one_text, same_test}
use Rattle.bag_facts.proofs.Common.{bytes_eq, Bag, HasFile, IsBag, IsListingOf, IsOrdered, HasItsFolder, FileEntry}
use Rattle.bag_facts.proofs.Common.{Listing, TreeState}
use Rattle.std.proofs.Common.{nat_lt}
use Rattle.std.proofs.lemmas.Bool.{eqb-true}
use Rattle.std.proofs.lemmas.List.Sums.{passes_at_first, split_at_first}
use Rattle.std.specs.List.{after_first}
use Rattle.bag_text.specs.Path.{components}
use Rattle.bag_tree.proofs.Parents.{is_slash, slash_within}
use Rattle.bag_facts.proofs.ListedFiles.{listed_file}
use Rattle.bag_facts.proofs.Mapped.{mapped_contains}

-- a payload file stands in the payload folder
payload_under : (path : List ℕ) → is_payload_path path ≡ true → path ≡ under (codes "data") (after_first is_slash path)
payload_under path is =
    let parts =
    and_parts (is_path path && bytes_eq (first_component path) (codes "data")) (nat_lt 1 (length (components path)))
    is in
    let place = slash_within path parts.1 in
    grind (
      arith,
      and_parts,
      one_text (codes "data") (first_component path),
      same_test (first_component path) (codes "data"),
      split_at_first is_slash path 0 place,
      eqb-true,
      passes_at_first is_slash path 0 place,
    )

-- the listing of a bag has it
listing_has_folder : (bag : Bag) (listing : Listing) → IsBag bag → IsListingOf bag listing → HasItsFolder listing
listing_has_folder bag listing is listed entry c payload =
    let has =
    listed_file bag listing.files entry.path listed.files
    (mapped_contains (λ (e : FileEntry). e.path) listing.files entry c) in
    listed.has_data ∙ is.parents (codes "data") (after_first is_slash entry.path) refl
    (subst (HasFile bag) (payload_under entry.path payload) has)

-- a listing that was given its folder is ordered as it was, and an honest tree's is that of its bag
module _ (listed listing : Listing) (files : listing.files ≡ listed.files) where
  pub ordered_with : IsOrdered listed.files → IsOrdered listing.files
  ordered_with ordered = subst IsOrdered (sym files) ordered

  pub honest_with : (old : TreeState) → IsBag old.bag → (HasItsFolder listed → listing ≡ listed)
      → (IsTrue old.honest → IsListingOf old.bag listed) → IsTrue old.honest
      → IsListingOf old.bag listing
  honest_with old is same told honest =
      subst (IsListingOf old.bag) (sym (same (listing_has_folder old.bag listed is (told honest)))) (told honest)
