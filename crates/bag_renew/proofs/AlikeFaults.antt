-- Where two bags have the same file each has the faults of it that the other has.
use Rattle.bag_renew.proofs.Common.{◌≡◌, ◌≢◌, ◌∙◌, ℕ, true, false, List, None, Some, is_some, ap, sym, [], subst}
use Rattle.bag_renew.proofs.Common.{Contains, Option, refl, is_payload_path, Kind, Payload, Alg, Bag, HasFile, file}
use Rattle.bag_renew.proofs.Common.{has_file}
use Rattle.std.proofs.Common.{◌-◌}
use Rattle.bag_text.specs.declared.code.Code.{Code}
use Rattle.bag_text.specs.declared.code.Code.TheVariants.{DeclarationLine, DeclarationLineCount, DeclarationNotUtf8}
use Rattle.bag_text.specs.declared.code.Code.TheVariants.{EncodingUnsupported, InfoLine, NoDeclaration, NoOxum}
use Rattle.bag_text.specs.declared.code.Code.TheVariants.{OxumAgain, OxumDiffers, OxumMalformed, VersionUnsupported}
use Rattle.bag_read.specs.Fetch.{IsFetch, IsFetchFault}
use Rattle.bag_read.specs.Info.{IsElement, split}
use Rattle.bag_read.specs.Manifest.{IsEntry, IsManifestFault, manifest_line, named}
use Rattle.bag_read.specs.declared.fetch.FetchEntry.{FetchEntry}
use Rattle.bag_read.specs.declared.info.Element.{Element}
use Rattle.bag_entries.specs.declared.entry.ManifestEntry.{ManifestEntry}
use Rattle.bag_facts.specs.Facts.{IsByV10, rules_in}
use Rattle.bag_faults.specs.declared.fault.Fault.{Fault}
use Rattle.bag_stages.specs.CompletenessStage.{Missing}
use Rattle.bag_stages.specs.DeclarationStage.{DeclarationHolds, InDeclaration}
use Rattle.bag_stages.specs.FaultFields.{At, InFile, in_line}
use Rattle.bag_stages.specs.FetchStage.{HasFetch, InFetch, fetch_txt}
use Rattle.bag_stages.specs.LeftOut.{IsLeftOutByOne}
use Rattle.bag_stages.specs.ManifestsStage.{InManifest}
use Rattle.bag_stages.specs.MetadataStage.{HasElement, HasFirst, HasLater, MetadataHolds, bag_info_txt, oxum_label}
use Rattle.bag_stages.specs.MetadataStage.{pair}
use Rattle.bag_read.specs.Oxum.{oxum_text}
use Rattle.bag_stages.specs.Payload.{oxum, oxum_of_files}
use Rattle.bag_stages.specs.TagFiles.{Names, bagit_txt, lines_in, lines_or_none, manifest_of, named_in}
use Rattle.bag_stages.specs.ValidityStage.{Differs, IsEntryIn, expected_and_found}
use Rattle.bag_tree.specs.Digest.{digest}
use Rattle.bag_renew.proofs.PayloadFiles.{payload_alike}
use Rattle.bag_renew.proofs.ReadAlike.{ReadAlike, SplitAlike, element_alike, entry_alike, fault_alike}
use Rattle.bag_renew.proofs.ReadAlike.{info_fault_alike, named_alike}
use Rattle.bag_renew.proofs.Telling.{no_line}

-- two bags with the same payload and list of files to fetch; what the second says is read alike by
-- the rules of both
pub record AreAlike (one other : Bag) : Type 0 where
  pub v10 : IsByV10 one → IsByV10 other
  pub manifests : (kind : Kind) (alg : Alg)
      → ReadAlike (rules_in one) (rules_in other) kind alg (lines_in other (manifest_of kind alg))
  pub metadata : SplitAlike (rules_in one) (rules_in other) (lines_in other bag_info_txt)
  pub list : HasFile other fetch_txt → rules_in one ≡ rules_in other
  pub fetch : file one fetch_txt ≡ file other fetch_txt
  pub payload_file : (q : List ℕ) → is_payload_path q ≡ true → file one q ≡ file other q

-- so it is where the rules are the same
pub alike_by_rules : (one other : Bag) → rules_in one ≡ rules_in other → file one fetch_txt ≡ file other fetch_txt
    → ((q : List ℕ) → is_payload_path q ≡ true → file one q ≡ file other q) → AreAlike one other
alike_by_rules one other rules fetch payload_file = record {
  v10 = λ ruled. sym rules ∙ ruled;
  manifests = λ kind alg line has some. ap (λ r. manifest_line r kind alg line) rules;
  metadata = λ line has begins. ap (λ r. split r line) rules;
  list = λ has. rules;
  fetch = fetch;
  payload_file = payload_file;
}

-- ---- what a manifest names

module _ (now was : Bag) (alike : AreAlike now was) (kind : Kind) (alg : Alg)
    (same : file now (manifest_of kind alg) ≡ file was (manifest_of kind alg)) where
  same_names : named_in now kind alg ≡ named_in was kind alg
  same_names =
      ap (λ o. named (rules_in now) kind alg (lines_or_none o)) same
      ∙ named_alike (rules_in now) (rules_in was) kind alg (lines_in was (manifest_of kind alg)) (alike.manifests kind alg)

  pub named_was : (path : List ℕ) → Names now kind alg path → Names was kind alg path
  named_was path names = subst (λ ps. Contains ps path) same_names names

  pub names_now : (path : List ℕ) → Names was kind alg path → Names now kind alg path
  names_now path names = subst (λ ps. Contains ps path) (sym same_names) names

  pub entry_in : (e : ManifestEntry) → IsEntryIn now kind alg e → IsEntryIn was kind alg e
  entry_in e is =
      entry_alike (rules_in now) (rules_in was) kind alg (lines_in was (manifest_of kind alg)) (alike.manifests kind alg)
      e (subst (λ o. IsEntry (rules_in now) kind alg (lines_or_none o) e) same is)

-- a list that has an entry is there
module _ (bag : Bag) (e : FetchEntry) where
  listed_by : (o : Option (List ℕ)) → file bag fetch_txt ≡ o → IsFetch (rules_in bag) (lines_or_none o) e
      → HasFile bag fetch_txt
  listed_by None at is = absurd (no_line (e.line - 1) is.0 is.1.1)
  listed_by (Some text) at is = ap is_some at

  pub has_list : HasFetch bag e → HasFile bag fetch_txt
  has_list is = listed_by (file bag fetch_txt) refl is

module _ (now was : Bag) (alike : AreAlike now was) (f : Fault) where
  same_oxum : oxum now ≡ oxum was
  same_oxum = ap oxum_of_files (payload_alike now was alike.payload_file)

  -- ---- the declaration

  module _ (same : file now bagit_txt ≡ file was bagit_txt) where
    in_declaration : InDeclaration now f → InDeclaration was f
    in_declaration (at, alg, (bytes, stands, wrong)) = (at, alg, (bytes, sym same ∙ stands, wrong))

    pub declaration_was : (code : Code) → DeclarationHolds now f code → DeclarationHolds was f code
    unfolding DeclarationHolds
    declaration_was NoDeclaration (at, lacks) = (at, ap is_some (sym same) ∙ lacks)
    declaration_was DeclarationNotUtf8 h = in_declaration h
    declaration_was DeclarationLineCount h = in_declaration h
    declaration_was DeclarationLine h = in_declaration h
    declaration_was VersionUnsupported h = in_declaration h
    declaration_was EncodingUnsupported h = in_declaration h
    declaration_was _ h = h

  -- ---- the metadata

  module _ (same : file now bag_info_txt ≡ file was bag_info_txt) where
    had : (label : List ℕ) (e : Element) → HasElement now label e → HasElement was label e
    had label e (is, labelled) = (
      element_alike (rules_in now) (rules_in was) (lines_in was bag_info_txt) alike.metadata e
          (subst (λ o. IsElement (rules_in now) (lines_or_none o) e) same is),
      labelled,
    )

    has : (label : List ℕ) (e : Element) → HasElement was label e → HasElement now label e
    has label e (is, labelled) = (
      subst (λ o. IsElement (rules_in now) (lines_or_none o) e) (sym same)
          (element_alike (rules_in was) (rules_in now) (lines_in was bag_info_txt)
          (λ line has begins. sym (alike.metadata line has begins)) e is),
      labelled,
    )

    had_first : (label : List ℕ) (e : Element) → HasFirst now label e → HasFirst was label e
    had_first label e (is, least) = (had label e is, λ d h. least d (has label d h))

    had_later : (label : List ℕ) (e : Element) → HasLater now label e → HasLater was label e
    had_later label e (is, (d, earlier, low)) = (had label e is, (d, had label d earlier, low))

    pub metadata_was : (code : Code) → MetadataHolds now f code → MetadataHolds was f code
    unfolding MetadataHolds
    metadata_was InfoLine (at, alg, (bytes, held, wrong)) =
        let there = sym same ∙ held in
        let read = subst (λ o. SplitAlike (rules_in now) (rules_in was) (lines_or_none o)) there alike.metadata in
        (at, alg, (bytes, there, info_fault_alike (rules_in now) (rules_in was) bytes read (in_line f) wrong))
    metadata_was OxumMalformed (e, at, first, none) = (e, at, had_first oxum_label e first, none)
    metadata_was OxumAgain (e, at, later) = (e, at, had_later oxum_label e later)
    metadata_was OxumDiffers (e, sums, at, first, reads_as, differs) = (
      e,
      sums,
      subst (λ size. At f bag_info_txt None e.line (pair e.value (oxum_text size))) same_oxum at,
      had_first oxum_label e first,
      reads_as,
      λ size. differs (size ∙ sym same_oxum),
    )
    metadata_was NoOxum (at, none) = (at, λ e h. none e (has oxum_label e h))
    metadata_was _ h = h

  -- ---- the list of files to fetch

  pub fetch_was : InFetch now f → InFetch was f
  fetch_was (at, alg, (bytes, held, wrong)) =
      let there = sym alike.fetch ∙ held in (
        at,
        alg,
        (bytes, there, subst (λ rules. IsFetchFault rules bytes (in_line f)) (alike.list (ap is_some there)) wrong),
      )

  pub entry_was : (e : FetchEntry) → HasFetch now e → HasFetch was e
  entry_was e has =
      let there = ap is_some (sym alike.fetch) ∙ has_list now e has in
      subst (λ o. IsFetch (rules_in was) (lines_or_none o) e) alike.fetch
      (subst (λ rules. IsFetch rules (lines_in now fetch_txt) e) (alike.list there) has)

  -- ---- a manifest

  module _ (kind : Kind) (alg : Alg) (same : file now (manifest_of kind alg) ≡ file was (manifest_of kind alg)) where
    pub manifest_was : InFile now f (manifest_of kind alg) (Some alg) (IsManifestFault (rules_in now) kind alg)
        → InManifest was f
    manifest_was (at, by, (bytes, held, wrong)) =
        let there = sym same ∙ held in
        let read =
        subst (λ o. ReadAlike (rules_in now) (rules_in was) kind alg (lines_or_none o)) there
        (alike.manifests kind alg) in (
          kind,
          alg,
          (
            at,
            by,
            (bytes, there, fault_alike (rules_in now) (rules_in was) kind alg bytes read (in_line f) wrong),
          ),
        )

    -- a file that it names isn't there, or differs
    pub missing_was : file now f.path ≡ file was f.path → At f f.path (Some alg) 0 [] → Names now kind alg f.path
        → has_file now f.path ≡ false → Missing was f kind
    missing_was held at names lacks =
        (alg, at, named_was now was alike kind alg same f.path names, ap is_some (sym held) ∙ lacks)

    pub differs_was : (e : ManifestEntry) (content : List ℕ) → IsEntryIn now kind alg e
        → file now e.path ≡ file was e.path → file now e.path ≡ Some content → e.digest ≢ digest alg content
        → At f e.path (Some alg) 0 (expected_and_found e.digest (digest alg content)) → Differs was f kind
    differs_was e content is same_file held other at =
        (alg, e, content, at, entry_in now was alike kind alg same e is, sym same_file ∙ held, other)

  pub left_out_was : (alg : Alg) (path : List ℕ)
      → file now (manifest_of Payload alg) ≡ file was (manifest_of Payload alg) → IsLeftOutByOne now alg path
      → IsLeftOutByOne was alg path
  left_out_was alg path same (there, unnamed) =
      (ap is_some (sym same) ∙ there, λ names. unnamed (names_now now was alike Payload alg same path names))
