-- Stage 2: the parts of a made bag are there, and its algorithms are supported.
use Rattle.bag_make.proofs.Common.{arith, ◌≡◌, ◌≢◌, ℕ, true, false, List, is_some, refl, sym, ap, ◌∙◌, subst}
use Rattle.bag_make.proofs.Common.{nat_list_cmp_total, contains-insert, eq_by_cmp, or_left, name, text_cmp}
use Rattle.bag_make.proofs.Common.{IsNoText, Alg, Code, NoPayloadFolder, NoPayloadManifest, AlgorithmUnsupported}
use Rattle.bag_make.proofs.Common.{NotUtf8, Payload, TagName, Declaration, Info, Fetch, Manifest}
use Rattle.bag_make.proofs.Common.{name_named, name_is_text, Bag, file, has_folder, text_itself, Fault, NewElement}
use Rattle.bag_make.proofs.Common.{InfoIsReadAgain, ManifestIsReadAgain, entries_of, data_folder, CanMake, IsNewText}
use Rattle.bag_stages.proofs.LeftOut.{some_member}
use Rattle.bag_stages.specs.PartsStage.{PartHolds, IsOfParts}
use Rattle.bag_read.specs.LineFault.{not_utf8}
use Rattle.bag_make.specs.Made.{made}
use Rattle.bag_make.proofs.Entries.{holds_manifest, listed}
use Rattle.bag_make.proofs.Held.{tag_held, tag_there, manifest_is}
use Rattle.bag_make.proofs.MetadataReads.{elements, elements_text, elements_good}
use Rattle.bag_make.proofs.Writable.{writable}

module _ (bag : Bag) (algs : List Alg) (info : List NewElement) where
  pub has_data : has_folder (made bag algs info) data_folder ≡ true
  unfolding made
  has_data = grind (arith, contains-insert, nat_list_cmp_total, data_folder, or_left, eq_by_cmp, text_cmp, text_itself)

  module _ (can : CanMake bag algs info) (info_read : InfoIsReadAgain) (manifest_read : ManifestIsReadAgain) where
    -- each tag file that is read as lines is a text
    is_text : (tag : TagName) (c : List ℕ) → tag ≢ Declaration → IsNewText bag algs info tag c → IsNoText c → ⊥
    is_text Declaration c other h bad = other refl
    is_text Info c other h bad =
        (info_read (elements bag algs info can) (elements_text bag algs info can) (elements_good bag algs info can)).1
        not_utf8 (refl, refl, subst IsNoText h bad)
    is_text Fetch c other h bad = h
    is_text (Manifest kind alg) c other h bad =
        let held = holds_manifest bag algs info kind alg c h in
        let written = writable bag algs info can kind alg in
        (manifest_read kind alg (entries_of alg (listed bag algs info kind)) written.0 written.1).1 not_utf8
        (refl, refl, subst IsNoText held.1 bad)

    module _ (f : Fault) where
      by_code : (code : Code) → PartHolds (made bag algs info) f code → ⊥
      unfolding PartHolds
      by_code NoPayloadFolder (at, lacks) = (let clash : true ≡ false = sym has_data ∙ lacks in cc)
      by_code NoPayloadManifest (at, none) =
          let m = some_member algs can.asked.0 in
          none (name m.0) (name_is_text m.0, ap is_some (tag_there bag algs info (Manifest Payload m.0) _ (m.1, refl)))
      by_code AlgorithmUnsupported (kind, alg, at, has, none) = grind (arith, manifest_is, name_named)
      by_code NotUtf8 (at, ((tag, other, same), (bytes, held, bad))) =
          is_text tag bytes other (tag_held bag algs info tag bytes (ap (file (made bag algs info)) same ∙ held)) bad
      by_code _ h = h

      pub no_part_fault : IsOfParts (made bag algs info) f → ⊥
      unfolding IsOfParts
      no_part_fault h = by_code f.code h
