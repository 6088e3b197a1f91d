-- What a bag has that has no fault but damage of its payload.
use Rattle.bag_renew.proofs.Common.{◌≡◌, ◌≢◌, ◌∙◌, inl, inr, ℕ, Bool, true, false, List, [], Option, None, Some}
use Rattle.bag_renew.proofs.Common.{is_some, refl, ap, sym, subst, Contains, codes, false≢true, manifest_name, tag_path}
use Rattle.bag_renew.proofs.Common.{is_payload_path, Kind, Payload, TagName, Declaration, Manifest, Alg, name}
use Rattle.bag_renew.proofs.Common.{Bag, HasFile, file, has_file, has_folder, HasKnownManifests}
use Rattle.bag_text.specs.Alg.{alg_named}
use Rattle.bag_text.specs.Lines.{lines_of_file}
use Rattle.bag_text.specs.Text.{IsNoText}
use Rattle.bag_text.specs.declared.code.Code.{Code}
use Rattle.bag_text.specs.declared.code.Code.TheVariants.{AlgorithmUnsupported, DigestLength, FetchNotInManifest}
use Rattle.bag_text.specs.declared.code.Code.TheVariants.{ManifestEscape, ManifestLine, ManifestOutsidePayload}
use Rattle.bag_text.specs.declared.code.Code.TheVariants.{ManifestUnsafePath, NamedAgain, NoPayloadFolder}
use Rattle.bag_text.specs.declared.code.Code.TheVariants.{NoPayloadManifest, NotUtf8, PayloadFileMissing}
use Rattle.bag_text.specs.declared.code.Code.TheVariants.{PayloadFileNotListed}
use Rattle.bag_text.specs.declared.code.Code.TheVariants.{PayloadSumDiffers, TagmanifestNamesPayload}
use Rattle.bag_text.specs.declared.code.Code.TheVariants.{TagmanifestNamesTagmanifest}
use Rattle.bag_text.specs.declared.rules.Rules.{Rules}
use Rattle.bag_text.specs.declared.rules.Rules.TheVariants.{V10, V097}
use Rattle.bag_read.proofs.ManifestCodes.{IsManifestCode, manifest_fault_code}
use Rattle.bag_read.proofs.ManifestEntries.{named_has_entry}
use Rattle.bag_read.proofs.ManifestLineParts.{lines_read}
use Rattle.bag_read.proofs.TagPaths.{alg_named_is}
use Rattle.bag_read.specs.Manifest.{IsManifestFault, ManifestFault, named}
use Rattle.bag_read.specs.declared.fetch.FetchEntry.{FetchEntry}
use Rattle.bag_read.specs.declared.line_fault.LineFault.{LineFault}
use Rattle.bag_facts.specs.Facts.{IsByV10, rules_in}
use Rattle.bag_facts.specs.FactsOfBag.{IsByV097}
use Rattle.bag_faults.specs.declared.fault.Fault.{Fault}
use Rattle.bag_report.specs.Report.{Is, asks}
use Rattle.bag_report.specs.Valid.{IsFaultOf, full}
use Rattle.bag_stages.proofs.BagLists.{some_alg, there_or_not}
use Rattle.bag_stages.proofs.HasLists.{Decided}
use Rattle.bag_stages.proofs.LeftOut.{by_all, by_one}
use Rattle.bag_stages.specs.CompletenessStage.{CompletenessHolds, IsOfCompleteness}
use Rattle.bag_stages.specs.DeclarationStage.{DeclarationHolds, IsOfDeclaration}
use Rattle.bag_stages.specs.FetchStage.{FetchHolds, HasFetch, IsOfFetch, fetch_txt}
use Rattle.bag_stages.specs.LeftOut.{IsLeftOut, IsNamedBySome}
use Rattle.bag_stages.specs.ManifestsStage.{InManifest, IsOfManifests, ManifestHolds}
use Rattle.bag_stages.specs.MetadataStage.{IsOfMetadata, MetadataHolds}
use Rattle.bag_stages.specs.PartsStage.{IsOfParts, PartHolds}
use Rattle.bag_stages.specs.TagFiles.{HasManifest, HasSupported, Names, lines_or_none, manifest_of, named_in}
use Rattle.bag_changes.specs.Telling.{IsToBeNamed, NamesAll, NamesFiles, NamesItsPayload, paths_named}
use Rattle.bag_checked.specs.FirstFaults.{IsDamage}

-- ---- the codes of the faults of a manifest's lines

other_code : (c : Code) → IsManifestCode c → c ≢ PayloadSumDiffers
other_code c is same = subst IsManifestCode same is

asked : (c : Code) → IsManifestCode c → asks full c ≡ true
unfolding asks
asked ManifestLine is = refl
asked DigestLength is = refl
asked ManifestEscape is = refl
asked ManifestUnsafePath is = refl
asked ManifestOutsidePayload is = refl
asked TagmanifestNamesPayload is = refl
asked TagmanifestNamesTagmanifest is = refl
asked NamedAgain is = refl
asked _ is = absurd is

of_manifests : (bag : Bag) (f : Fault) (c : Code) → IsManifestCode c → InManifest bag f → ManifestHolds bag f c
unfolding ManifestHolds
of_manifests bag f ManifestLine is h = h
of_manifests bag f DigestLength is h = h
of_manifests bag f ManifestEscape is h = h
of_manifests bag f ManifestUnsafePath is h = h
of_manifests bag f ManifestOutsidePayload is h = h
of_manifests bag f TagmanifestNamesPayload is h = h
of_manifests bag f TagmanifestNamesTagmanifest is h = h
of_manifests bag f NamedAgain is h = h
of_manifests bag f _ is h = absurd is

module _ (bag : Bag) (damaged : (f : Fault) → IsFaultOf bag f → IsDamage f) where
  -- there is no fault of another code
  pub none : (f : Fault) → Is bag None f → asks full f.code ≡ true → f.code ≢ PayloadSumDiffers → ⊥
  none f is asked_for other = other (damaged f (is, asked_for))

  -- nor one of an earlier stage
  pub no_declaration_fault : (f : Fault) → IsOfDeclaration bag f → asks full f.code ≡ true → ⊥
  unfolding Is IsOfDeclaration DeclarationHolds
  no_declaration_fault f h asked_for = subst (DeclarationHolds bag f) (damaged f (inl h, asked_for)) h

  pub no_metadata_fault : (f : Fault) → IsOfMetadata bag f → asks full f.code ≡ true → ⊥
  unfolding Is IsOfMetadata MetadataHolds
  no_metadata_fault f h asked_for = subst (MetadataHolds bag f) (damaged f (inr (inr (inl h)), asked_for)) h

  pub no_fetch_fault : (f : Fault) → IsOfFetch bag f → asks full f.code ≡ true → ⊥
  unfolding Is IsOfFetch FetchHolds
  no_fetch_fault f h asked_for = subst (FetchHolds bag f) (damaged f (inr (inr (inr (inl h))), asked_for)) h

  -- ---- its parts

  no_folder : has_folder bag (codes "data") ≡ false → ⊥
  unfolding Is IsOfParts PartHolds asks
  no_folder lacks =
      none (record { code = NoPayloadFolder; path = []; alg = None; line = 0; detail = [] })
      (inr (inl (record { path_is = refl; alg_is = refl; line_is = refl; detail_is = refl }, lacks))) refl (λ same. cc)

  data_by : (b : Bool) → has_folder bag (codes "data") ≡ b → has_folder bag (codes "data") ≡ true
  data_by true there = there
  data_by false lacks = absurd (no_folder lacks)

  pub has_data : has_folder bag (codes "data") ≡ true
  has_data = data_by (has_folder bag (codes "data")) refl

  unsupported : (kind : Kind) (alg : List ℕ) → HasManifest bag kind alg → alg_named alg ≡ None → ⊥
  unfolding Is IsOfParts PartHolds asks
  unsupported kind alg has no_alg =
      none (record { code = AlgorithmUnsupported; path = manifest_name kind alg; alg = None; line = 0; detail = alg })
      (inr (inl (kind, alg, record { path_is = refl; alg_is = refl; line_is = refl; detail_is = refl }, has, no_alg)))
      refl (λ same. cc)

  known_by : (kind : Kind) (alg : List ℕ) → HasManifest bag kind alg → (o : Option Alg) → alg_named alg ≡ o
      → (a : Alg) × (alg ≡ name a)
  known_by kind alg has (Some a) at = (a, alg_named_is alg a at)
  known_by kind alg has None at = absurd (unsupported kind alg has at)

  pub known : HasKnownManifests bag
  known kind alg has = known_by kind alg has (alg_named alg) refl

  -- each tag file that is read as lines is a text
  pub old_text : (tag : TagName) (c : List ℕ) → tag ≢ Declaration → file bag (tag_path tag) ≡ Some c → IsNoText c → ⊥
  unfolding Is IsOfParts PartHolds asks
  old_text tag c other at bad =
      none (record { code = NotUtf8; path = tag_path tag; alg = None; line = 0; detail = [] })
      (inr (inl (
        record { path_is = refl; alg_is = refl; line_is = refl; detail_is = refl },
        ((tag, other, refl), (c, at, bad)),
      ))) refl (λ same. cc)

  -- a payload manifest is there
  has_or_not : (alg : Alg) → Decided (HasSupported bag Payload alg)
  has_or_not alg = by_test (has_file bag (manifest_of Payload alg)) refl
    where
      by_test : (b : Bool) → has_file bag (manifest_of Payload alg) ≡ b → Decided (HasSupported bag Payload alg)
      by_test true there = inl there
      by_test false lacks = inr (λ there. false≢true (sym lacks ∙ there))

  no_manifest_there : ((alg : Alg) → ¬ (HasSupported bag Payload alg)) → ⊥
  unfolding Is IsOfParts PartHolds asks
  no_manifest_there lacks =
      none (record { code = NoPayloadManifest; path = []; alg = None; line = 0; detail = [] })
      (inr (inl (
        record { path_is = refl; alg_is = refl; line_is = refl; detail_is = refl },
        λ alg has.
            let a = known Payload alg has in lacks a.0 (subst (λ t. HasFile bag (manifest_name Payload t)) a.1 has.1),
      ))) refl (λ same. cc)

  pub some_manifest : (alg : Alg) × HasSupported bag Payload alg
  some_manifest = elim (some_alg (λ alg. HasSupported bag Payload alg) has_or_not) [
    | inl there ↦ there
    | inr lacks ↦ absurd (no_manifest_there (λ alg has. lacks (alg, has)))
  ]

  -- ---- what its payload manifests name

  module _ (alg : Alg) (path : List ℕ) where
    not_missing : Names bag Payload alg path → has_file bag path ≡ false → ⊥
    unfolding Is IsOfCompleteness CompletenessHolds asks
    not_missing names lacks =
        none (record { code = PayloadFileMissing; path = path; alg = Some alg; line = 0; detail = [] })
        (inr (inr (inr (inr (inr (inl (
          alg,
          record { path_is = refl; alg_is = refl; line_is = refl; detail_is = refl },
          names,
          lacks,
        ))))))) refl (λ same. cc)

    there_by : (b : Bool) → has_file bag path ≡ b → Names bag Payload alg path → HasFile bag path
    there_by true there names = there
    there_by false lacks names = absurd (not_missing names lacks)

    -- it is there
    named_there : Names bag Payload alg path → HasFile bag path
    named_there names = there_by (has_file bag path) refl names

    -- and by the rules of 1.0 all of the payload is named
    module _ (v10 : IsByV10 bag) (has : HasSupported bag Payload alg) (is : IsToBeNamed bag Payload path) where
      not_left_out : ¬ (Names bag Payload alg path) → ⊥
      unfolding Is IsOfCompleteness CompletenessHolds asks
      not_left_out unnamed =
          none (record { code = PayloadFileNotListed; path = path; alg = Some alg; line = 0; detail = [] })
          (inr (inr (inr (inr (inr (inl (
            record { path_is = refl; alg_is = refl; line_is = refl; detail_is = refl },
            is,
            by_one bag path (rules_in bag) alg v10 (has, unnamed),
          ))))))) refl (λ same. cc)

      pub all_named : Names bag Payload alg path
      all_named = elim (there_or_not (named_in bag Payload alg) path) [
        | inl names ↦ names
        | inr unnamed ↦ absurd (not_left_out unnamed)
      ]

  -- some payload manifest names it, or none does
  named_or_not : (path : List ℕ) → Decided (IsNamedBySome bag path)
  named_or_not path =
      some_alg (λ alg. Names bag Payload alg path) (λ alg. there_or_not (named_in bag Payload alg) path)

  -- by those of 0.97 some manifest names each file of the payload
  module _ (v097 : IsByV097 bag) (path : List ℕ) (is : IsToBeNamed bag Payload path) where
    not_unnamed : ¬ (IsNamedBySome bag path) → ⊥
    unfolding Is IsOfCompleteness CompletenessHolds asks
    not_unnamed unnamed =
        none (record { code = PayloadFileNotListed; path = path; alg = None; line = 0; detail = [] })
        (inr (inr (inr (inr (inr (inl (
          record { path_is = refl; alg_is = refl; line_is = refl; detail_is = refl },
          is,
          by_all bag path (rules_in bag) v097 (some_manifest, unnamed),
        ))))))) refl (λ same. cc)

    pub some_names : IsNamedBySome bag path
    some_names = elim (named_or_not path) [ inl names ↦ names | inr unnamed ↦ absurd (not_unnamed unnamed) ]

  module _ (alg : Alg) (text : List ℕ) (at : file bag (tag_path (Manifest Payload alg)) ≡ Some text) where
    abbrev fault_of : LineFault → Fault
    fault_of f =
        record { code = f.code; path = manifest_of Payload alg; alg = Some alg; line = f.line; detail = f.detail }

    in_manifest : (f : LineFault) → IsManifestFault (rules_in bag) Payload alg text f → InManifest bag (fault_of f)
    in_manifest f wrong = (Payload, alg, (refl, refl, (text, at, wrong)))

    no_line_fault : (f : LineFault) → ¬ (IsManifestFault (rules_in bag) Payload alg text f)
    unfolding Is IsOfManifests
    no_line_fault f wrong = elim (manifest_fault_code (rules_in bag) Payload alg text f wrong) [
      | inl of_file ↦ old_text (Manifest Payload alg) text (λ same. cc) at
          (subst (λ c. ManifestFault c (rules_in bag) Payload alg text f) of_file.0 wrong).2
      | inr of_line ↦ none (fault_of f)
          (inr (inr (inr (inr (inl (of_manifests bag (fault_of f) f.code of_line.0 (in_manifest f wrong)))))))
          (asked f.code of_line.0) (other_code f.code of_line.0)
    ]

    is_payload : (path : List ℕ) → Contains (paths_named (rules_in bag) Payload alg text) path
        → is_payload_path path ≡ true
    is_payload path names =
        let n = named_has_entry (rules_in bag) Payload alg (lines_of_file text) path names in
        let line = ((lines_read (rules_in bag) Payload alg n.1.0 n.0.digest n.0.path).0 n.1.2).may_name in
        ap is_payload_path (sym n.2) ∙ line

    same_names : named_in bag Payload alg ≡ paths_named (rules_in bag) Payload alg text
    same_names = ap (λ o. named (rules_in bag) Payload alg (lines_or_none o)) at

    to_be_named : (path : List ℕ) → Contains (paths_named (rules_in bag) Payload alg text) path
        → IsToBeNamed bag Payload path
    to_be_named path names = (
      named_there alg path (subst (λ ps. Contains ps path) (sym same_names) names),
      is_payload path names,
    )

    names_files : NamesFiles (rules_in bag) bag Payload alg text
    names_files = record { no_fault = no_line_fault; there = to_be_named }

    names_all : IsByV10 bag → NamesAll (rules_in bag) bag Payload alg text
    names_all v10 = record {
      no_fault = no_line_fault;
      paths = λ path. (
        to_be_named path,
        λ is. subst (λ ps. Contains ps path) same_names (all_named alg path v10 (ap is_some at) is),
      );
    }

  -- each payload manifest of such a bag names files of its payload alone, and by the rules of 1.0 them all
  pub names_its_payload : NamesItsPayload bag
  names_its_payload = record {
    told = names_files;
    all_by_v10 = λ v10 alg text at.
        subst (λ rules. NamesAll rules bag Payload alg text) v10 (names_all alg text at v10);
  }

  -- ---- what it has to fetch is there

  module _ (e : FetchEntry) (has : HasFetch bag e) where
    not_unfetched : (told : Option Alg) → IsLeftOut (rules_in bag) bag told e.path → ⊥
    unfolding Is IsOfFetch FetchHolds asks
    not_unfetched told out =
        none (record { code = FetchNotInManifest; path = fetch_txt; alg = told; line = e.line; detail = e.path })
        (inr (inr (inr (inl (
          e,
          record { path_is = refl; alg_is = refl; line_is = refl; detail_is = refl },
          has,
          out,
        ))))) refl (λ same. cc)

    fetched_by_v10 : IsByV10 bag → HasFile bag e.path
    fetched_by_v10 v10 =
        let some = some_manifest in
        elim (there_or_not (named_in bag Payload some.0) e.path) [
          | inl names ↦ named_there some.0 e.path names
          | inr unnamed ↦ absurd (not_unfetched (Some some.0)
              (by_one bag e.path (rules_in bag) some.0 v10 (some.1, unnamed)))
        ]

    fetched_by_v097 : IsByV097 bag → HasFile bag e.path
    fetched_by_v097 v097 = elim (named_or_not e.path) [
      | inl names ↦ named_there names.0 e.path names.1
      | inr unnamed ↦ absurd (not_unfetched None (by_all bag e.path (rules_in bag) v097 (some_manifest, unnamed)))
    ]

    by_rules : (rules : Rules) → rules_in bag ≡ rules → HasFile bag e.path
    by_rules V10 is = fetched_by_v10 is
    by_rules V097 is = fetched_by_v097 is

    pub fetched : HasFile bag e.path
    fetched = by_rules (rules_in bag) refl
