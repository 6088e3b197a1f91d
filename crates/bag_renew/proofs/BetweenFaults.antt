-- A bag between two others, with files of the one and of the other, has no fault that neither has.
use Rattle.bag_renew.proofs.Common.{arith, ◌≡◌, ◌≢◌, ◌⊎◌, ◌∙◌, inl, inr, ℕ, true, false, List, [], None, Some}
use Rattle.bag_renew.proofs.Common.{is_some, get_or, refl, ap, sym, subst, codes, false≢true, false_from_ne_true}
use Rattle.bag_renew.proofs.Common.{is_manifest_name, manifest_name, Kind, Payload, Tag, Alg, name, Bag, HasFile, file}
use Rattle.bag_renew.proofs.Common.{begun_file}
use Rattle.std.specs.FinSet as set
use Rattle.bag_text.specs.declared.code.Code.{Code}
use Rattle.bag_text.specs.declared.code.Code.TheVariants.{AlgorithmUnsupported, DigestLength, FetchEscape, FetchLine}
use Rattle.bag_text.specs.declared.code.Code.TheVariants.{FetchNotInManifest, FetchOutsidePayload, FetchUnsafePath}
use Rattle.bag_text.specs.declared.code.Code.TheVariants.{ManifestEscape, ManifestLine, ManifestOutsidePayload}
use Rattle.bag_text.specs.declared.code.Code.TheVariants.{ManifestUnsafePath, NameClash, NamedAgain, NoPayloadFolder}
use Rattle.bag_text.specs.declared.code.Code.TheVariants.{NoPayloadManifest, NotUtf8, PayloadFileMissing}
use Rattle.bag_text.specs.declared.code.Code.TheVariants.{PayloadFileNotListed, PayloadManifestNotListed}
use Rattle.bag_text.specs.declared.code.Code.TheVariants.{PayloadSumDiffers, TagFileMissing, TagSumDiffers}
use Rattle.bag_text.specs.declared.code.Code.TheVariants.{TagmanifestNamesPayload, TagmanifestNamesTagmanifest}
use Rattle.bag_text.specs.declared.rules.Rules.TheVariants.{V10}
use Rattle.bag_read.proofs.ManifestEntries.{entry_named, named_has_entry}
use Rattle.bag_read.proofs.ManifestLineParts.{lines_read}
use Rattle.bag_renew.proofs.TagNames.{one_kind}
use Rattle.bag_read.proofs.ManifestName.{is_named, named_test}
use Rattle.bag_read.specs.ManifestLine.{MayName}
use Rattle.bag_entries.specs.declared.entry.ManifestEntry.{ManifestEntry}
use Rattle.bag_facts.specs.Facts.{IsByV10, rules_in}
use Rattle.bag_faults.specs.declared.fault.Fault.{Fault}
use Rattle.bag_report.specs.Report.{Is, asks}
use Rattle.bag_report.specs.Valid.{full}
use Rattle.bag_facts.specs.FactsOfBag.{IsByV097}
use Rattle.bag_stages.proofs.LeftOut.{by_all, by_one, left_out_by, not_both}
use Rattle.bag_stages.specs.CompletenessStage.{CompletenessHolds, IsOfCompleteness, IsPayloadFile, Missing}
use Rattle.bag_stages.specs.DeclarationStage.{IsOfDeclaration}
use Rattle.bag_stages.specs.FetchStage.{FetchHolds, IsOfFetch, fetch_txt}
use Rattle.bag_stages.specs.LeftOut.{IsLeftOut, IsLeftOutByAll, IsLeftOutByOne}
use Rattle.bag_stages.specs.ManifestsStage.{InManifest, IsOfManifests, ManifestHolds}
use Rattle.bag_stages.specs.MetadataStage.{IsOfMetadata, bag_info_txt}
use Rattle.bag_stages.specs.PartsStage.{IsOfParts, PartHolds}
use Rattle.bag_stages.specs.TagFiles.{HasManifest, HasSupported, Names, bagit_txt, lines_in, manifest_of}
use Rattle.bag_stages.specs.FaultFields.{At}
use Rattle.bag_stages.specs.ValidityStage.{Differs, IsEntryIn, IsOfValidity, ValidityHolds, expected_and_found}
use Rattle.bag_tree.specs.Bag.{LacksFile}
use Rattle.bag_tree.specs.Digest.{digest}
use Rattle.bag_renew.proofs.AlikeFaults.{AreAlike, declaration_was, differs_was, entry_was, fetch_was, has_list}
use Rattle.bag_renew.proofs.AlikeFaults.{left_out_was}
use Rattle.bag_renew.proofs.AlikeFaults.{manifest_was, metadata_was, missing_was, named_was, names_now}
use Rattle.bag_facts.proofs.Found.{content_of}
use Rattle.bag_changes.proofs.Staying.{no_begun}
use Rattle.bag_renew.proofs.Telling.{text_of_entry}

-- a tag manifest is that of a bag, and so are all files but tag manifests and one that is begun
pub record IsTagManifestOf (base mid : Bag) (alg : Alg) (text : List ℕ) : Type 0 where
  pub text_is : file base (manifest_of Tag alg) ≡ Some text
  pub files : (q : List ℕ) → is_manifest_name Tag q ≡ false → q ≢ begun_file → file mid q ≡ file base q

-- no tag manifest names the file that is begun
abbrev pub NoneNamesBegun : Bag → Type 0
NoneNamesBegun base = (alg : Alg) → Names base Tag alg begun_file → ⊥

abbrev pub HasNoPayloadManifest : Bag → Type 0
HasNoPayloadManifest bag = (alg : List ℕ) → ¬ (HasManifest bag Payload alg)

-- a file of the payload, or a path that a list of files to fetch may name
abbrev pub MayBeListed : Bag → List ℕ → Type 0
MayBeListed mid path = IsPayloadFile mid path ⊎ HasFile mid fetch_txt

-- a bag is of 0.97, and no payload manifest of it names the path
abbrev pub IsUnlistedByV097 : Bag → List ℕ → Type 0
IsUnlistedByV097 bag path = IsByV097 bag × IsLeftOutByAll bag path

-- A bag of 0.97, on its way from another: what its payload manifests leave out, those of the old one
-- did, or those of the new one do.
pub record IsBetweenByV097 (mid old new : Bag) : Type 0 where
  pub rules : IsByV097 mid
  pub left_out : (path : List ℕ) → MayBeListed mid path → IsLeftOutByAll mid path
      → IsUnlistedByV097 old path ⊎ IsUnlistedByV097 new path

-- each file is that of the one or the other bag, and each tag manifest stands beside what it was
-- written for
pub record IsBetween (mid old new : Bag) : Type 0 where
  pub rules : IsByV10 mid ⊎ IsBetweenByV097 mid old new
  pub as_old : AreAlike mid old
  pub as_new : AreAlike mid new
  pub folders : mid.folders ≡ old.folders
  pub declaration : file mid bagit_txt ≡ file old bagit_txt
  pub info : (file mid bag_info_txt ≡ file old bag_info_txt) ⊎ (file mid bag_info_txt ≡ file new bag_info_txt)
  pub either : (q c : List ℕ) → q ≢ begun_file → file mid q ≡ Some c → (file old q ≡ Some c) ⊎ (file new q ≡ Some c)
  pub no_manifest : HasNoPayloadManifest mid → HasNoPayloadManifest old ⊎ HasNoPayloadManifest new
  pub tags : (alg : Alg) (text : List ℕ) → file mid (manifest_of Tag alg) ≡ Some text
      → IsTagManifestOf old mid alg text ⊎ IsTagManifestOf new mid alg text
  pub old_begun : NoneNamesBegun old
  pub new_begun : NoneNamesBegun new

pub no_manifest_begun : (kind : Kind) (alg : List ℕ) → manifest_name kind alg ≢ begun_file
no_manifest_begun Payload alg = λ same. absurd (omega (arith, ap (λ t. get_or t 0 0) same))
no_manifest_begun Tag alg = λ same. absurd (omega (arith, ap (λ t. get_or t 0 0) same))

pub other_kind : (alg : List ℕ) → is_manifest_name Tag (manifest_name Payload alg) ≡ false
other_kind alg = false_from_ne_true _ (λ is.
    let n = is_named Tag (manifest_name Payload alg) is in one_kind alg n.0 n.2)

module _ (mid : Bag) (kind : Kind) (alg : Alg) where
  may_name : (e : ManifestEntry) → IsEntryIn mid kind alg e → MayName kind e.path
  may_name e is = ((lines_read (rules_in mid) kind alg is.0 e.digest e.path).0 is.2).may_name

  -- a path that a manifest names
  pub named_by : (path : List ℕ) → Names mid kind alg path
      → (text : List ℕ) × (file mid (manifest_of kind alg) ≡ Some text) × MayName kind path
  named_by path names =
      let n = named_has_entry (rules_in mid) kind alg (lines_in mid (manifest_of kind alg)) path names in
      let t = text_of_entry mid kind alg n.0 n.1 in (t.0, t.1, subst (MayName kind) n.2 (may_name n.0 n.1))

-- ---- by a tag manifest

pub names_begun : (mid base : Bag) → AreAlike mid base → NoneNamesBegun base → (alg : Alg) (text : List ℕ)
    → file mid (manifest_of Tag alg) ≡ Some text → IsTagManifestOf base mid alg text
    → Names mid Tag alg begun_file → ⊥
names_begun mid base alike none alg text at of_base names =
    none alg (named_was mid base alike Tag alg (at ∙ sym of_base.text_is) begun_file names)

module _ (mid base : Bag) (alike : AreAlike mid base) (begun : NoneNamesBegun base) (f : Fault) (alg : Alg)
    (text : List ℕ) (at : file mid (manifest_of Tag alg) ≡ Some text)
    (of_base : IsTagManifestOf base mid alg text) where
  same_text : file mid (manifest_of Tag alg) ≡ file base (manifest_of Tag alg)
  same_text = at ∙ sym of_base.text_is

  same_at : (path : List ℕ) → Names mid Tag alg path → file mid path ≡ file base path
  same_at path names =
      of_base.files path (named_test Tag path (is_manifest_name Tag path) refl (named_by mid Tag alg path names).2.1)
      (λ is. begun alg (subst (Names base Tag alg) is (named_was mid base alike Tag alg same_text path names)))

  -- a payload manifest that is there and that it doesn't name
  not_listed : (other : List ℕ) → At f (manifest_of Tag alg) (Some alg) 0 (manifest_name Payload other)
      → HasManifest mid Payload other → ¬ (Names mid Tag alg (manifest_name Payload other)) → IsByV10 mid
      → ManifestHolds base f PayloadManifestNotListed
  unfolding ManifestHolds
  not_listed other told has unnamed ruled =
      let path = manifest_name Payload other in
      let same = of_base.files path (other_kind other) (no_manifest_begun Payload other) in (
        alg,
        other,
        told,
        alike.v10 ruled,
        ap is_some of_base.text_is,
        (has.0, ap is_some (sym same) ∙ has.1),
        λ names. unnamed (names_now mid base alike Tag alg same_text path names),
      )

  tag_missing : At f f.path (Some alg) 0 [] → Names mid Tag alg f.path → LacksFile mid f.path → Missing base f Tag
  tag_missing told names lacks =
      missing_was mid base alike f Tag alg same_text (same_at f.path names) told names lacks

  tag_differs : (e : ManifestEntry) (content : List ℕ) → IsEntryIn mid Tag alg e → file mid e.path ≡ Some content
      → e.digest ≢ digest alg content → At f e.path (Some alg) 0 (expected_and_found e.digest (digest alg content))
      → Differs base f Tag
  tag_differs e content is held other told =
      let names = entry_named (rules_in mid) Tag alg (lines_in mid (manifest_of Tag alg)) e is in
      differs_was mid base alike f Tag alg same_text e content is (same_at e.path names) held other told

-- ---- all faults

module _ (mid old new : Bag) (between : IsBetween mid old new) (f : Fault) where
  abbrev as_old : AreAlike mid old
  as_old = between.as_old

  abbrev as_new : AreAlike mid new
  as_new = between.as_new

  -- of the one bag, or of the other
  abbrev OfEither : (Bag → Fault → Type 0) → Type 0
  OfEither IsOf = IsOf old f ⊎ IsOf new f

  abbrev IsManifestAs : Kind → Alg → Bag → Type 0
  IsManifestAs kind alg base = file mid (manifest_of kind alg) ≡ file base (manifest_of kind alg)

  manifest_as : (kind : Kind) (alg : Alg) → HasSupported mid kind alg
      → IsManifestAs kind alg old ⊎ IsManifestAs kind alg new
  manifest_as kind alg has =
      let c = content_of (file mid (manifest_of kind alg)) has in
      elim (between.either (manifest_of kind alg) c.0 (no_manifest_begun kind (name alg)) c.1) [
        | inl at ↦ inl (c.1 ∙ sym at)
        | inr at ↦ inr (c.1 ∙ sym at)
      ]

  -- ---- the declaration, the parts, the metadata

  declares : IsOfDeclaration mid f → OfEither IsOfDeclaration
  unfolding IsOfDeclaration
  declares h = inl (declaration_was mid old as_old f between.declaration f.code h)

  parts : (code : Code) → PartHolds mid f code → PartHolds old f code ⊎ PartHolds new f code
  unfolding PartHolds
  parts NoPayloadFolder (at, lacks) =
      inl (at, ap (λ s. set.contains s (codes "data")) (sym between.folders) ∙ lacks)
  parts NoPayloadManifest (at, none) =
      elim (between.no_manifest none) [ inl o ↦ inl (at, o) | inr n ↦ inr (at, n) ]
  parts AlgorithmUnsupported (kind, alg, at, has, no_alg) =
      let c = content_of (file mid (manifest_name kind alg)) has.1 in
      elim (between.either (manifest_name kind alg) c.0 (no_manifest_begun kind alg) c.1) [
        | inl there ↦ inl (kind, alg, at, (has.0, ap is_some there), no_alg)
        | inr there ↦ inr (kind, alg, at, (has.0, ap is_some there), no_alg)
      ]
  parts NotUtf8 (at, ((tag, other, same), (bytes, stands, bad))) =
      elim (between.either f.path bytes (λ is. no_begun tag (sym (same ∙ is))) stands) [
        | inl there ↦ inl (at, ((tag, other, same), (bytes, there, bad)))
        | inr there ↦ inr (at, ((tag, other, same), (bytes, there, bad)))
      ]
  parts _ h = inl h

  has_parts : IsOfParts mid f → OfEither IsOfParts
  unfolding IsOfParts
  has_parts h = parts f.code h

  informs : IsOfMetadata mid f → OfEither IsOfMetadata
  unfolding IsOfMetadata
  informs h = elim between.info [
    | inl same ↦ inl (metadata_was mid old as_old f same f.code h)
    | inr same ↦ inr (metadata_was mid new as_new f same f.code h)
  ]

  -- ---- what payload manifests leave out

  module _ (path : List ℕ) where
    by_told : (base : Bag) (alg : Alg) → rules_in base ≡ V10 → f.alg ≡ Some alg → IsLeftOutByOne base alg path
        → IsLeftOut (rules_in base) base f.alg path
    by_told base alg ruled told out =
        subst (λ t. IsLeftOut (rules_in base) base t path) (sym told) (by_one base path (rules_in base) alg ruled out)

    abbrev LeavesOut : Bag → Type 0
    LeavesOut base = IsLeftOut (rules_in base) base f.alg path

    by_manifest : (alg : Alg) → IsByV10 mid → f.alg ≡ Some alg → IsLeftOutByOne mid alg path
        → LeavesOut old ⊎ LeavesOut new
    by_manifest alg ruled told out = elim (manifest_as Payload alg out.0) [
      | inl same ↦ inl (by_told old alg (as_old.v10 ruled) told (left_out_was mid old as_old f alg path same out))
      | inr same ↦ inr (by_told new alg (as_new.v10 ruled) told (left_out_was mid new as_new f alg path same out))
    ]

    by_both : (base : Bag) → f.alg ≡ None → IsUnlistedByV097 base path → LeavesOut base
    by_both base told unlisted =
        subst (λ t. IsLeftOut (rules_in base) base t path) (sym told)
        (by_all base path (rules_in base) unlisted.0 unlisted.1)

    by_rules : IsByV097 mid → MayBeListed mid path → f.alg ≡ None → IsLeftOutByAll mid path
        → LeavesOut old ⊎ LeavesOut new
    by_rules ruled may told out = elim between.rules [
      | inl v10 ↦ absurd (not_both (rules_in mid) v10 ruled)
      | inr by_v097 ↦ elim (by_v097.left_out path may out) [
        | inl was ↦ inl (by_both old told was)
        | inr is ↦ inr (by_both new told is)
      ]
    ]

    left_out : MayBeListed mid path → LeavesOut mid → LeavesOut old ⊎ LeavesOut new
    left_out may out = elim (left_out_by mid path (rules_in mid) f.alg out) [
      | inl one ↦ by_manifest one.1.0 one.0 one.1.1 one.1.2
      | inr all ↦ by_rules all.0 may all.1 all.2
    ]

  -- ---- the list of files to fetch

  fetches : (code : Code) → FetchHolds mid f code → FetchHolds old f code ⊎ FetchHolds new f code
  unfolding FetchHolds
  fetches FetchNotInManifest (e, at, has, out) = elim (left_out e.path (inr (has_list mid e has)) out) [
    | inl o ↦ inl (e, at, entry_was mid old as_old f e has, o)
    | inr o ↦ inr (e, at, entry_was mid new as_new f e has, o)
  ]
  fetches FetchLine h = inl (fetch_was mid old as_old f h)
  fetches FetchEscape h = inl (fetch_was mid old as_old f h)
  fetches FetchUnsafePath h = inl (fetch_was mid old as_old f h)
  fetches FetchOutsidePayload h = inl (fetch_was mid old as_old f h)
  fetches _ h = inl h

  lists_fetches : IsOfFetch mid f → OfEither IsOfFetch
  unfolding IsOfFetch
  lists_fetches h = fetches f.code h

  -- ---- the manifests

  in_manifest : InManifest mid f → InManifest old f ⊎ InManifest new f
  in_manifest (kind, alg, (at, by, (bytes, held, wrong))) = elim (manifest_as kind alg (ap is_some held)) [
    | inl same ↦ inl (manifest_was mid old as_old f kind alg same (at, by, (bytes, held, wrong)))
    | inr same ↦ inr (manifest_was mid new as_new f kind alg same (at, by, (bytes, held, wrong)))
  ]

  manifests : (code : Code) → ManifestHolds mid f code → ManifestHolds old f code ⊎ ManifestHolds new f code
  unfolding ManifestHolds
  manifests PayloadManifestNotListed (alg, other, at, ruled, has, held, unnamed) =
      let t = content_of (file mid (manifest_of Tag alg)) has in
      elim (between.tags alg t.0 t.1) [
        | inl is ↦
            inl (not_listed mid old as_old between.old_begun f alg t.0 t.1 is other at held unnamed ruled)
        | inr is ↦
            inr (not_listed mid new as_new between.new_begun f alg t.0 t.1 is other at held unnamed ruled)
      ]
  manifests ManifestLine h = in_manifest h
  manifests DigestLength h = in_manifest h
  manifests ManifestEscape h = in_manifest h
  manifests ManifestUnsafePath h = in_manifest h
  manifests ManifestOutsidePayload h = in_manifest h
  manifests TagmanifestNamesPayload h = in_manifest h
  manifests TagmanifestNamesTagmanifest h = in_manifest h
  manifests NamedAgain h = in_manifest h
  manifests _ h = inl h

  manifests_read : IsOfManifests mid f → OfEither IsOfManifests
  unfolding IsOfManifests
  manifests_read h = manifests f.code h

  -- ---- whether it is complete

  payload_missing : Missing mid f Payload → Missing old f Payload ⊎ Missing new f Payload
  payload_missing (alg, at, names, lacks) =
      let n = named_by mid Payload alg f.path names in
      elim (manifest_as Payload alg (ap is_some n.1)) [
        | inl same ↦
            inl (missing_was mid old as_old f Payload alg same (as_old.payload_file f.path n.2) at names lacks)
        | inr same ↦
            inr (missing_was mid new as_new f Payload alg same (as_new.payload_file f.path n.2) at names lacks)
      ]

  tags_missing : Missing mid f Tag → Missing old f Tag ⊎ Missing new f Tag
  tags_missing (alg, at, names, lacks) =
      let n = named_by mid Tag alg f.path names in
      elim (between.tags alg n.0 n.1) [
        | inl is ↦ inl (tag_missing mid old as_old between.old_begun f alg n.0 n.1 is at names lacks)
        | inr is ↦ inr (tag_missing mid new as_new between.new_begun f alg n.0 n.1 is at names lacks)
      ]

  completes : (code : Code) → CompletenessHolds mid f code → asks full code ≡ true
      → CompletenessHolds old f code ⊎ CompletenessHolds new f code
  unfolding CompletenessHolds asks
  completes PayloadFileMissing h asked = payload_missing h
  completes TagFileMissing h asked = tags_missing h
  completes PayloadFileNotListed (at, (held, is), out) asked = elim (left_out f.path (inl (held, is)) out) [
    | inl o ↦ inl (at, (ap is_some (sym (as_old.payload_file f.path is)) ∙ held, is), o)
    | inr o ↦ inr (at, (ap is_some (sym (as_new.payload_file f.path is)) ∙ held, is), o)
  ]
  completes NameClash h asked = absurd (false≢true asked)
  completes _ h asked = inl h

  is_complete : IsOfCompleteness mid f → asks full f.code ≡ true → OfEither IsOfCompleteness
  unfolding IsOfCompleteness
  is_complete h asked = completes f.code h asked

  -- ---- whether it is valid

  payload_differs : Differs mid f Payload → Differs old f Payload ⊎ Differs new f Payload
  payload_differs (alg, e, content, at, is, held, other) =
      let t = text_of_entry mid Payload alg e is in
      let of_it = may_name mid Payload alg e is in
      elim (manifest_as Payload alg (ap is_some t.1)) [
        | inl same ↦
            inl (differs_was mid old as_old f Payload alg same e content is (as_old.payload_file e.path of_it) held
            other at)
        | inr same ↦
            inr (differs_was mid new as_new f Payload alg same e content is (as_new.payload_file e.path of_it) held
            other at)
      ]

  tags_differ : Differs mid f Tag → Differs old f Tag ⊎ Differs new f Tag
  tags_differ (alg, e, content, at, is, held, other) =
      let t = text_of_entry mid Tag alg e is in
      elim (between.tags alg t.0 t.1) [
        | inl of_old ↦
            inl (tag_differs mid old as_old between.old_begun f alg t.0 t.1 of_old e content is held other at)
        | inr of_new ↦
            inr (tag_differs mid new as_new between.new_begun f alg t.0 t.1 of_new e content is held other at)
      ]

  digests : (code : Code) → ValidityHolds mid f code → ValidityHolds old f code ⊎ ValidityHolds new f code
  unfolding ValidityHolds
  digests PayloadSumDiffers h = payload_differs h
  digests TagSumDiffers h = tags_differ h
  digests _ h = inl h

  is_valid : IsOfValidity mid f → OfEither IsOfValidity
  unfolding IsOfValidity
  is_valid h = digests f.code h

  -- ---- all of them

  pub of_either : Is mid None f → asks full f.code ≡ true → Is old None f ⊎ Is new None f
  unfolding Is
  of_either (inl h) asked = elim (declares h) [ inl o ↦ inl (inl o) | inr n ↦ inr (inl n) ]
  of_either (inr (inl h)) asked = elim (has_parts h) [ inl o ↦ inl (inr (inl o)) | inr n ↦ inr (inr (inl n)) ]
  of_either (inr (inr (inl h))) asked =
      elim (informs h) [ inl o ↦ inl (inr (inr (inl o))) | inr n ↦ inr (inr (inr (inl n))) ]
  of_either (inr (inr (inr (inl h)))) asked =
      elim (lists_fetches h) [ inl o ↦ inl (inr (inr (inr (inl o)))) | inr n ↦ inr (inr (inr (inr (inl n)))) ]
  of_either (inr (inr (inr (inr (inl h))))) asked = elim (manifests_read h) [
    | inl o ↦ inl (inr (inr (inr (inr (inl o)))))
    | inr n ↦ inr (inr (inr (inr (inr (inl n)))))
  ]
  of_either (inr (inr (inr (inr (inr (inl h)))))) asked = elim (is_complete h asked) [
    | inl o ↦ inl (inr (inr (inr (inr (inr (inl o))))))
    | inr n ↦ inr (inr (inr (inr (inr (inr (inl n))))))
  ]
  of_either (inr (inr (inr (inr (inr (inr (inl h))))))) asked = elim (is_valid h) [
    | inl o ↦ inl (inr (inr (inr (inr (inr (inr (inl o)))))))
    | inr n ↦ inr (inr (inr (inr (inr (inr (inr (inl n)))))))
  ]
  of_either (inr (inr (inr (inr (inr (inr (inr h))))))) asked = absurd h
