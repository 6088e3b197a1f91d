-- Stage 6: the manifests of a made bag name its payload, and the tag files that are there.
use Rattle.bag_make.proofs.Common.{◌≡◌, inl, inr, ℕ, true, false, List, Some, is_some, nat_lt, sym, ap, ◌∙◌, subst}
use Rattle.bag_make.proofs.Common.{Contains, arith, and_parts, eqb-true, ltb-true, under, is_payload_path, Alg, Code}
use Rattle.bag_make.proofs.Common.{PayloadFileMissing, PayloadFileNotListed, NameClash, tag_path, Kind, Payload, Tag}
use Rattle.bag_make.proofs.Common.{TagName, in_base, Bag, HasFile, file, files_of, Fault, rules_in, NewElement}
use Rattle.bag_make.proofs.Common.{ManifestIsReadAgain, File, data_folder, new_payload, made, full, mapped_contains}
use Rattle.bag_stages.proofs.LeftOut.{left_out_by, not_both}
use Rattle.bag_stages.specs.CompletenessStage.{Missing, CompletenessHolds, IsOfCompleteness}
use Rattle.bag_report.specs.Report.{asks}
use Rattle.bag_make.proofs.Entries.{AreWritable, listed, listed_named, named_listed}
use Rattle.bag_make.proofs.MadeRules.{made_rules}
use Rattle.bag_facts.proofs.Found.{content_of}
use Rattle.bag_make.proofs.Held.{held_is, named_tag, payload_member, payload_there, tag_there}

-- a tag file stands in the base folder
pub no_payload_tag : (tag : TagName) → is_payload_path (tag_path tag) ≡ true → ⊥
no_payload_tag tag e = grind (arith, nat_lt, and_parts, in_base, ltb-true, eqb-true)

module _ (bag : Bag) (algs : List Alg) (info : List NewElement) where
  -- what the manifests are to name is there
  pub listed_at : (kind : Kind) (q c : List ℕ) → Contains (listed bag algs info kind) (q, c)
      → file (made bag algs info) q ≡ Some c
  listed_at Payload q c h =
      let m =
      payload_member bag algs info q c h in ap (file (made bag algs info)) m.1
      ∙ payload_there bag algs info m.0 c m.2
  listed_at Tag q c h =
      let m = named_tag bag algs info q c h in ap (file (made bag algs info)) m.1 ∙ tag_there bag algs info m.0 c m.2

  -- a file of the payload is one that the payload manifests are to name
  payload_listed : (q : List ℕ) → HasFile (made bag algs info) q → is_payload_path q ≡ true
      → (c : List ℕ) × Contains (new_payload (files_of bag)) (q, c)
  payload_listed q has is =
      let held = content_of (file (made bag algs info) q) has in
      elim (held_is bag algs info q held.0 held.1) [
        | inl (p, at, there) ↦
            let one =
            mapped_contains {B = File} (λ (e : File). (under data_folder e.0, e.1)) (files_of bag) (p, held.0) there
            in
            (held.0, subst (λ r. Contains (new_payload (files_of bag)) (r, held.0)) (sym at) one)
        | inr (tag, at, h) ↦ absurd (no_payload_tag tag (ap is_payload_path (sym at) ∙ is))
      ]

  module _ (read : ManifestIsReadAgain) (writable : AreWritable bag algs info) (f : Fault) where
    none_missing : (kind : Kind) → Missing (made bag algs info) f kind → ⊥
    none_missing kind (alg, at, names, lacks) =
        let l = named_listed bag algs info read writable kind alg f.path names in
        (let clash : true ≡ false = sym (ap is_some (listed_at kind f.path l.0 l.1)) ∙ lacks in cc)

    by_code : (code : Code) → CompletenessHolds (made bag algs info) f code → asks full code ≡ true → ⊥
    unfolding CompletenessHolds asks
    by_code PayloadFileMissing h asked = none_missing Payload h
    by_code PayloadFileNotListed (at, (there, is), out) asked =
        let l = payload_listed f.path there is in
        elim (left_out_by (made bag algs info) f.path (rules_in (made bag algs info)) f.alg out) [
          | inl one ↦ one.1.2.1 (listed_named bag algs info read writable Payload one.1.0 f.path l.0 one.1.2.0 l.1)
          | inr all ↦ not_both (rules_in (made bag algs info)) (made_rules bag algs info) all.0
        ]
    by_code NameClash h asked = cc
    by_code _ h asked = search none_missing

    pub no_completeness_fault : IsOfCompleteness (made bag algs info) f → asks full f.code ≡ true → ⊥
    unfolding IsOfCompleteness
    no_completeness_fault h asked = by_code f.code h asked
