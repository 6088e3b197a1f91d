-- What is composed of listed files and their digests is what is said of the bag.
use Rattle.bag_make.proofs.Common.{arith, ◌≡◌, ℕ, ◌++◌, ◌∷◌, List, [], map, sum_by, Contains, refl, sym, ap, ◌∙◌, subst}
use Rattle.bag_make.proofs.Common.{length-map, Alg, contains_first, contains_behind, tag_path, Kind, Payload, Tag}
use Rattle.bag_make.proofs.Common.{Manifest, FileEntry, NewElement, manifest_text, File, new_payload, entries_of}
use Rattle.bag_make.proofs.Common.{manifest, named_tag_files, new_tag_files, info_file, declaration_file}
use Rattle.bag_make.proofs.Common.{payload_manifests, tag_manifests, AreSummed, entry_of_file}
use Rattle.bag_make.proofs.Common.{summed_entry, info_of, manifests_of, SummedFile}
use Rattle.std.proofs.Common.{sum}
use Rattle.std.proofs.lemmas.List.Sums.{sum-map}
use Rattle.std.proofs.lemmas.Simd.{map-map}

module _ (algs : List Alg) where
  -- what a manifest says of files with their digests
  entries_are : (alg : Alg) → Contains algs alg → (files : List File) (summed : List SummedFile)
      → AreSummed algs files summed → map (summed_entry alg) summed ≡ entries_of alg files
  entries_are alg has [] [] h = refl
  entries_are alg has (e ∷ files) (one ∷ summed) ((path, sums), rest) =
      grind (arith, entries_are alg has files summed rest)
  entries_are alg has _ _ h = absurd h

  manifests_some : (kind : Kind) (files : List File) (summed : List SummedFile) → AreSummed algs files summed
      → (some : List Alg) → ((alg : Alg) → Contains some alg → Contains algs alg)
      → manifests_of kind some summed ≡ map (λ alg. (tag_path (Manifest kind alg), manifest alg files)) some
  manifests_some kind files summed are [] has = refl
  manifests_some kind files summed are (alg ∷ some) has =
      let entries = entries_are alg (has alg (contains_first alg some)) files summed are in
      let others =
      manifests_some kind files summed are some (λ other c. has other (contains_behind alg some other c)) in
      λ i. (tag_path (Manifest kind alg), manifest_text (entries i)) ∷ others i

  -- the manifests of files with their digests
  pub manifests_are : (kind : Kind) (files : List File) (summed : List SummedFile) → AreSummed algs files summed
      → manifests_of kind algs summed ≡ map (λ alg. (tag_path (Manifest kind alg), manifest alg files)) algs
  manifests_are kind files summed are = manifests_some kind files summed are algs (λ alg has. has)

pub sum_by-map : {A B : Type 0} (f : B → ℕ) (g : A → B) (xs : List A) → sum_by f (map g xs) ≡ sum_by (λ x. f (g x)) xs
sum_by-map f g xs = sym (sum-map f (map g xs)) ∙ ap sum (map-map f g xs) ∙ sum-map (λ x. f (g x)) xs

module _ (files : List File) (listed : List FileEntry) (payload : List SummedFile) (algs : List Alg)
    (info : List NewElement) (same : map entry_of_file files ≡ listed)
    (are : AreSummed algs (new_payload files) payload) where
  info_is : info_of listed info ≡ info_file files algs info
  info_is = grind (arith, length-map, sum_by-map)

  -- in the order in which they are written
  pub tag_files_are : (declared metadata : File) (manifests tags made : List File) (summed : List SummedFile)
      → declared ≡ declaration_file files algs info → metadata ≡ info_of listed info
      → manifests ≡ manifests_of Payload algs payload → AreSummed algs (metadata ∷ declared ∷ manifests) summed
      → tags ≡ manifests_of Tag algs summed → made ≡ declared ∷ metadata ∷ manifests ++ tags
      → made ≡ new_tag_files files algs info
  tag_files_are declared metadata manifests tags made summed is_declared is_metadata are_manifests named are_tags is =
      let metadata_is : metadata ≡ info_file files algs info = is_metadata ∙ info_is in
      let manifests_is : manifests ≡ payload_manifests files algs info =
      are_manifests ∙ manifests_are algs Payload (new_payload files) payload are in
      let named_is : metadata ∷ declared ∷ manifests ≡ named_tag_files files algs info =
      λ i. metadata_is i ∷ is_declared i ∷ manifests_is i in
      let tags_is : tags ≡ tag_manifests files algs info =
      are_tags ∙ manifests_are algs Tag (named_tag_files files algs info) summed
      (subst (λ xs. AreSummed algs xs summed) named_is named) in
      is ∙ (λ i. is_declared i ∷ metadata_is i ∷ manifests_is i ++ tags_is i)
