-- What a listing says of a bag that it is of, and of the steps that are planned by it.
use Rattle.bag_make.proofs.Common.{arith, ◌≡◌, inl, inr, ◌||◌, ℕ, Bool, true, false, cond, List, [], ◌∷◌, ◌++◌, length}
use Rattle.bag_make.proofs.Common.{map, All, Contains, refl, ap, sym, ◌∙◌, subst, list_any, eq_by_cmp}
use Rattle.bag_make.proofs.Common.{false_from_ne_true, false≢true, get_or, All-contains, All-cons, All-append}
use Rattle.bag_make.proofs.Common.{is_base_name, is_path, first_component, text_cmp, contains_cases, contains_nothing}
use Rattle.bag_make.proofs.Common.{contains_either, any_from, Bag, files_of, has_folder, IsListingOf, IsOrdered}
use Rattle.bag_make.proofs.Common.{FileEntry, Listing, listings_are_of_the_bag, text_itself, contains_mapped, is_within}
use Rattle.bag_make.proofs.Common.{itself_within, under_within, tag_path, Payload, Tag, Declaration, Info, Manifest}
use Rattle.bag_make.proofs.Common.{in_base, Alg, NewElement, File, data_folder, manifest, named_tag_files, new_payload}
use Rattle.bag_make.proofs.Common.{new_tag_files, payload_manifests, tag_manifests, declaration_file, info_file}
use Rattle.bag_make.proofs.Common.{is_in_the_way, tops, listed_tops, has_new, steps_for, new_file, new_folder, IsStep}
use Rattle.bag_make.proofs.Common.{MakeFolder, MoveIn, Rename}
use Rattle.std.specs.Prelude.{IsTrue}
use Rattle.std.proofs.lemmas.List.Elements.{All-map, Contains-get_or}
use Rattle.std.proofs.lemmas.Simd.{map-map}
use Rattle.bag_make.proofs.FirstParts.{first_is_name, parts}
use Rattle.bag_make.proofs.Placed.{IsTop}
use Rattle.bag_make.proofs.TopsInOrder.{listed_in_order}

abbrev entry_of : File → FileEntry
entry_of e = record { path = e.0; size = length e.1 }

any_entry : (es : List File)
    → list_any (λ (entry : FileEntry). is_within new_folder entry.path) (map entry_of es)
    ≡ list_any (λ (e : File). is_within new_folder e.0) es
any_entry [] = refl
any_entry (e ∷ es) = ap (λ b. is_within new_folder e.0 || b) (any_entry es)

-- what stands in the way of it stands in the way of the bag
pub has_new_is : (bag : Bag) (listing : Listing) → IsOrdered listing.files → IsListingOf bag listing
    → has_new listing ≡ is_in_the_way bag
has_new_is bag listing ordered listed =
    ap (list_any (λ (entry : FileEntry). is_within new_folder entry.path))
    (listings_are_of_the_bag bag listing ordered listed) ∙ any_entry (files_of bag)

abbrev first_of : FileEntry → List ℕ
first_of entry = first_component entry.path

abbrev data_where : Bool → List (List ℕ)
data_where has_data = cond has_data (data_folder ∷ []) []

-- what is moved of it is moved of the bag
pub tops_are : (bag : Bag) (listing : Listing) → IsOrdered listing.files → IsListingOf bag listing
    → listed_tops listing ≡ tops (files_of bag) (has_folder bag data_folder)
tops_are bag listing ordered listed =
    grind (arith, listings_are_of_the_bag bag listing ordered listed, map-map first_of entry_of (files_of bag))

pub data_top : (b : Bool) (t : List ℕ) → Contains (data_where b) t → IsTop t
data_top true t has =
    grind (
      arith,
      contains_cases,
      data_folder,
      contains_nothing,
      eq_by_cmp,
      text_cmp,
      new_folder,
      text_itself,
      false≢true,
    )
data_top false t has = absurd (contains_nothing t has)

pub first_top : (path : List ℕ) → is_path path ≡ true → is_within new_folder path ≡ false → IsTop (first_component path)
first_top path is outside = grind (arith, first_is_name, false≢true, parts, itself_within, under_within)

pub top_is : (listing : Listing) → IsOrdered listing.files → has_new listing ≡ false → (t : List ℕ)
    → Contains (listed_tops listing) t → IsTop t
top_is listing ordered free t has =
    elim (contains_either (map first_of listing.files) (data_where listing.has_data) t
    (((listed_in_order (map first_of listing.files ++ data_where listing.has_data)).members t).0 has)) [
      | inl a ↦
          let entry = contains_mapped first_of listing.files t a in
          let is =
          All-contains (λ (e : FileEntry). IsTrue (is_path e.path)) listing.files entry.0 ordered.paths entry.1 in
          let within = λ (e : FileEntry). is_within new_folder e.path in
          subst IsTop entry.2 (first_top entry.0.path is
          (false_from_ne_true _ (λ at. false≢true (sym free ∙ any_from within listing.files entry.0 entry.1 at))))
      | inr b ↦ data_top listing.has_data t b
    ]

-- a tag file stands in the base folder
abbrev IsInBase : File → Type 0
IsInBase e = IsTrue (is_base_name e.0)

pub tag_files_in_base : (files : List File) (algs : List Alg) (info : List NewElement)
    → All IsInBase (new_tag_files files algs info)
tag_files_in_base files algs info =
    let of_payload = payload_manifests files algs info in
    let of_tags = tag_manifests files algs info in
    All-cons IsInBase (declaration_file files algs info) (info_file files algs info ∷ of_payload ++ of_tags)
    (in_base Declaration)
    (All-cons IsInBase (info_file files algs info) (of_payload ++ of_tags) (in_base Info)
    (All-append IsInBase of_payload of_tags
    (All-map IsInBase (λ alg. (tag_path (Manifest Payload alg), manifest alg (new_payload files))) algs
    (λ k alg lt. in_base (Manifest Payload (get_or algs k alg))))
    (All-map IsInBase (λ alg. (tag_path (Manifest Tag alg), manifest alg (named_tag_files files algs info))) algs
    (λ k alg lt. in_base (Manifest Tag (get_or algs k alg))))))

-- such steps can be taken
pub steps_fit : (tops : List (List ℕ)) (files : List File) → ((t : List ℕ) → Contains tops t → IsTop t)
    → All IsInBase files → All IsStep (steps_for tops files)
steps_fit tops files names file_names =
    All-cons IsStep MakeFolder (map MoveIn tops ++ Rename ∷ map new_file files) tt
    (All-append IsStep (map MoveIn tops) (Rename ∷ map new_file files)
    (All-map IsStep MoveIn tops (λ k t lt. names (get_or tops k t) (Contains-get_or tops k t lt)))
    (All-cons IsStep Rename (map new_file files) tt (All-map IsStep new_file files file_names)))
