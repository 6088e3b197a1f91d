-- Stage 5: each line of the manifests of a made bag reads, none names a path twice, and tag manifests name the payload
-- manifests.
use Rattle.bag_make.proofs.Common.{List, ◌∷◌, sym, subst, Contains, V10, Alg, Code, PayloadManifestNotListed}
use Rattle.bag_make.proofs.Common.{contains_behind, IsManifestFault, manifest_name, tag_path, Payload, Tag, Manifest}
use Rattle.bag_make.proofs.Common.{Bag, files_of, Fault, in_line, Names, NewElement, ManifestIsReadAgain, File}
use Rattle.bag_make.proofs.Common.{new_payload, entries_of, manifest, named_tag_files, declaration_file, info_file}
use Rattle.bag_make.proofs.Common.{payload_manifests, made, mapped_contains}
use Rattle.bag_stages.specs.ManifestsStage.{InManifest, ManifestHolds, IsOfManifests}
use Rattle.bag_make.proofs.Entries.{AreWritable, holds_manifest, listed, listed_named}
use Rattle.bag_make.proofs.Held.{tag_held, manifest_is}
use Rattle.bag_make.proofs.MadeRules.{made_rules}

module _ (bag : Bag) (algs : List Alg) (info : List NewElement) where
  -- a payload manifest is one of the tag files that tag manifests name
  pub manifest_listed : (alg : Alg) → Contains algs alg
      → Contains (named_tag_files (files_of bag) algs info)
      (tag_path (Manifest Payload alg), manifest alg (new_payload (files_of bag)))
  manifest_listed alg h =
      let files = files_of bag in
      let manifests = payload_manifests files algs info in
      let one : File = (tag_path (Manifest Payload alg), manifest alg (new_payload files)) in
      contains_behind (info_file files algs info) (declaration_file files algs info ∷ manifests) one
      (contains_behind (declaration_file files algs info) manifests one
      (mapped_contains {B = File} (λ alg. (tag_path (Manifest Payload alg), manifest alg (new_payload files))) algs alg
      h))

  module _ (read : ManifestIsReadAgain) (writable : AreWritable bag algs info) (f : Fault) where
    reads_well : InManifest (made bag algs info) f → ⊥
    reads_well (kind, alg, (at, by, (bytes, held, wrong))) =
        let two = holds_manifest bag algs info kind alg bytes (tag_held bag algs info (Manifest kind alg) bytes held) in
        let written = writable kind alg in
        (read kind alg (entries_of alg (listed bag algs info kind)) written.0 written.1).1 (in_line f)
        (subst (λ b. IsManifestFault V10 kind alg b (in_line f)) two.1
        (subst (λ rules. IsManifestFault rules kind alg bytes (in_line f)) (made_rules bag algs info) wrong))

    by_code : (code : Code) → ManifestHolds (made bag algs info) f code → ⊥
    unfolding ManifestHolds
    by_code PayloadManifestNotListed (alg, other, at, ruled, has, there, unnamed) =
        let m = manifest_is bag algs info Payload other there.1 in
        let c = manifest m.0 (new_payload (files_of bag)) in
        unnamed (subst (λ text. Names (made bag algs info) Tag alg (manifest_name Payload text)) (sym m.1)
        (listed_named bag algs info read writable Tag alg (tag_path (Manifest Payload m.0)) c has
        (manifest_listed m.0 m.2)))
    by_code _ h = search reads_well

    pub no_manifest_fault : IsOfManifests (made bag algs info) f → ⊥
    unfolding IsOfManifests
    no_manifest_fault h = by_code f.code h
