-- A fault of the renewed bag is damage that the bag had, by a manifest that is kept.
use Rattle.bag_renew.proofs.Common.{◌≡◌, ◌≢◌, ◌∙◌, inl, inr, ℕ, true, not, List, Option, None}
use Rattle.bag_renew.proofs.Common.{Some, is_some, refl, ap, sym, subst, codes, false≢true}
use Rattle.bag_renew.proofs.Common.{contains_nothing, false_from_ne_true, and_from, is_payload_path, tag_path}
use Rattle.bag_renew.proofs.Common.{Payload, Tag, TagName, Declaration, Info, Fetch, Manifest, Alg, name, name_is_text}
use Rattle.bag_renew.proofs.Common.{name_named, Bag, HasFile, file, has_folder, paths_differ, keeps}
use Rattle.bag_renew.proofs.Common.{is_kept, is_new_alg, new_algs, payload_manifest, stays, Renewal}
use Rattle.std.proofs.Common.{◌-◌}
use Rattle.std.specs.List.{slice_get}
use Rattle.bag_text.proofs.ListOf.{nothing_listed}
use Rattle.bag_text.specs.Alg.{alg_named}
use Rattle.bag_text.specs.Lines.{lines_of_file}
use Rattle.bag_text.specs.Text.{IsNoText}
use Rattle.bag_text.specs.declared.code.Code.{Code}
use Rattle.bag_text.specs.declared.code.Code.TheVariants.{AlgorithmUnsupported, DeclarationLine, DeclarationLineCount}
use Rattle.bag_text.specs.declared.code.Code.TheVariants.{DeclarationNotUtf8, EncodingUnsupported, FetchEscape}
use Rattle.bag_text.specs.declared.code.Code.TheVariants.{FetchLine}
use Rattle.bag_text.specs.declared.code.Code.TheVariants.{FetchNotInManifest, FetchOutsidePayload, FetchUnsafePath}
use Rattle.bag_text.specs.declared.code.Code.TheVariants.{NameClash, NoDeclaration, NoPayloadFolder, NoPayloadManifest}
use Rattle.bag_text.specs.declared.code.Code.TheVariants.{NotUtf8, PayloadSumDiffers, TagSumDiffers, VersionUnsupported}
use Rattle.bag_text.specs.declared.rules.Rules.{Rules}
use Rattle.bag_read.proofs.FetchLineParts.{lines_read}
use Rattle.bag_read.proofs.ManifestEntries.{entry_named}
use Rattle.bag_read.proofs.ManifestName.{is_named}
use Rattle.bag_read.specs.Declaration.{IsDeclarationFault}
use Rattle.bag_read.specs.Fetch.{IsFetch, IsFetchFault}
use Rattle.bag_read.specs.LineFault.{not_utf8}
use Rattle.bag_read.specs.Manifest.{IsEntry}
use Rattle.bag_read.specs.declared.fetch.FetchEntry.{FetchEntry}
use Rattle.bag_entries.specs.declared.entry.ManifestEntry.{ManifestEntry}
use Rattle.bag_faults.specs.FaultOrder.{fault_cmp}
use Rattle.bag_facts.specs.Facts.{rules_in}
use Rattle.bag_faults.specs.declared.fault.Fault.{Fault}
use Rattle.bag_report.specs.Report.{Is, asks}
use Rattle.bag_report.specs.Valid.{IsFaultOf, full}
use Rattle.bag_stages.proofs.LeftOut.{some_member}
use Rattle.bag_stages.specs.DeclarationStage.{DeclarationHolds, InDeclaration, IsOfDeclaration}
use Rattle.bag_stages.specs.FaultFields.{At, in_line}
use Rattle.bag_stages.specs.FetchStage.{FetchHolds, HasFetch, InFetch, IsOfFetch, fetch_txt}
use Rattle.bag_stages.specs.LeftOut.{IsLeftOut}
use Rattle.bag_stages.specs.PartsStage.{IsOfParts, PartHolds}
use Rattle.bag_stages.specs.TagFiles.{lines_in, lines_or_none, manifest_of}
use Rattle.bag_stages.specs.ValidityStage.{Differs, IsOfValidity, ValidityHolds, expected_and_found}
use Rattle.bag_tags.proofs.DeclarationReadAgain.{declaration_again}
use Rattle.bag_tags.specs.Declaration.{declaration_text}
use Rattle.bag_tree.specs.Bag.{LacksFile}
use Rattle.bag_tree.specs.Digest.{digest}
use Rattle.bag_changes.specs.Contents.{IsNewText}
use Rattle.bag_renewed.specs.Renewed.{is_kept_alg, renewed}
use Rattle.bag_changes.specs.Telling.{GivesDigests, NamesItsFiles, NewManifestsGiveDigests}
use Rattle.bag_changes.specs.Valid.{CanRenew, HasGoodInfo, IsOldDamage}
use Rattle.bag_changes.specs.Valid.{RenewedHasOldFaults, RenewedIsValid}
use Rattle.bag_changes.proofs.AlgsWhere.{passes}
use Rattle.bag_changes.proofs.Contents.{these_files}
use Rattle.bag_facts.proofs.Found.{same_option}
use Rattle.bag_changes.proofs.KeptOr.{keeps_rules, kept_or_written, kept_rules}
use Rattle.bag_renew.proofs.OldBag.{fetched, has_data, known, names_its_payload, no_declaration_fault, no_fetch_fault}
use Rattle.bag_renew.proofs.OldBag.{old_text}
use Rattle.bag_renew.proofs.RenewedNames.{by_new_rules, declared, give_digests, names_files, new_text, old_or_anew}
use Rattle.bag_renew.proofs.RenewedNames.{same_file}
use Rattle.bag_changes.proofs.Staying.{no_payload_tag, so_it_stays}
use Rattle.bag_renew.proofs.TagNames.{no_manifest_name}
use Rattle.bag_renew.proofs.Telling.{no_completeness_fault, no_line, no_manifest_fault, none_differs, text_of_entry}

module _ (bag : Bag) (renewal : Renewal) (can : CanRenew bag renewal) (info : HasGoodInfo bag renewal) where
  abbrev now : Bag
  now = renewed bag renewal

  names : NamesItsFiles now
  names =
      names_files bag renewal can.is_bag can.nameable (names_its_payload bag can.damaged) can.listed
      (known bag can.damaged)

  right : NewManifestsGiveDigests bag renewal
  right = give_digests bag renewal can.is_bag can.nameable

  there : (tag : TagName) (c : List ℕ) → IsNewText bag renewal tag c → file now (tag_path tag) ≡ Some c
  there tag c text = (these_files bag renewal (tag_path tag) c).1 (inr (tag, refl, text))

  fetch_stays : stays (tag_path Fetch) ≡ true
  fetch_stays = so_it_stays (tag_path Fetch) (record {
    outside = ap not (false_from_ne_true _ (λ is. no_payload_tag Fetch is));
    declaration = refl;
    info = refl;
    payload_manifest = ap not (false_from_ne_true _ (λ is.
        let n = is_named Payload (tag_path Fetch) is in no_manifest_name Fetch tt Payload n.0 n.2));
    tag_manifest = ap not (false_from_ne_true _ (λ is.
        let n = is_named Tag (tag_path Fetch) is in no_manifest_name Fetch tt Tag n.0 n.2));
    begun = refl;
  })

  -- the list of files to fetch stays
  same_fetch : file now (tag_path Fetch) ≡ file bag (tag_path Fetch)
  same_fetch = same_option (file now (tag_path Fetch)) (file bag (tag_path Fetch)) (λ c at.
      elim ((these_files bag renewal (tag_path Fetch) c).0 at) [
        | inl stayed ↦ stayed.0
        | inr new ↦ absurd (subst (λ t. IsNewText bag renewal t c) (paths_differ new.0 Fetch (sym new.1)) new.2)
      ]) (λ c at. (these_files bag renewal (tag_path Fetch) c).1 (inl (at, inr fetch_stays)))

  -- its rules are those of the bag where it keeps what needs no change
  same_rules : keeps bag renewal ≡ true → rules_in now ≡ rules_in bag
  same_rules is = by_new_rules bag renewal ∙ keeps_rules bag renewal is

  renewed_folder : has_folder now (codes "data") ≡ has_folder bag (codes "data")
  unfolding renewed
  renewed_folder = refl

  is_text : (tag : TagName) (c : List ℕ) → tag ≢ Declaration → file now (tag_path tag) ≡ Some c → IsNoText c → ⊥
  is_text Declaration c other at bad = other refl
  is_text Info c other at bad = false≢true (sym bad ∙ info.text c at)
  is_text Fetch c other at bad = old_text bag can.damaged Fetch c (λ same. cc) (sym same_fetch ∙ at) bad
  is_text (Manifest kind alg) c other at bad = (names.told kind alg c at).no_fault not_utf8 (refl, refl, bad)

  module _ (f : Fault) where
    -- ---- the declaration: the old one, or that of 1.0

    module _ (same : file now (tag_path Declaration) ≡ file bag (tag_path Declaration)) where
      in_old : InDeclaration now f → InDeclaration bag f
      in_old (at, alg, (bytes, stands, wrong)) = (at, alg, (bytes, sym same ∙ stands, wrong))

      as_it_was : (code : Code) → DeclarationHolds now f code → DeclarationHolds bag f code
      unfolding DeclarationHolds
      as_it_was NoDeclaration (at, lacks) = (at, ap is_some (sym same) ∙ lacks)
      as_it_was DeclarationNotUtf8 h = in_old h
      as_it_was DeclarationLineCount h = in_old h
      as_it_was DeclarationLine h = in_old h
      as_it_was VersionUnsupported h = in_old h
      as_it_was EncodingUnsupported h = in_old h
      as_it_was _ h = h

    module _ (at : file now (tag_path Declaration) ≡ Some declaration_text) where
      none_wrong : InDeclaration now f → ⊥
      none_wrong (path, alg, (bytes, stands, wrong)) =
          let both : Some bytes ≡ Some declaration_text = sym stands ∙ at in
          let same : bytes ≡ declaration_text = cc in
          declaration_again.2 (in_line f) (subst (λ b. IsDeclarationFault b (in_line f)) same wrong)

      anew : (code : Code) → DeclarationHolds now f code → ⊥
      unfolding DeclarationHolds
      anew NoDeclaration (path, lacks) = false≢true (sym lacks ∙ ap is_some at)
      anew _ h = search none_wrong

    declares_well : IsOfDeclaration now f → asks full f.code ≡ true → ⊥
    unfolding IsOfDeclaration
    declares_well h asked = elim (kept_or_written bag renewal (tag_path Declaration) declaration_text) [
      | inl was ↦ no_declaration_fault bag can.damaged f
          (as_it_was (declared bag renewal ∙ sym was.1) f.code h) asked
      | inr new ↦ anew (declared bag renewal ∙ ap Some new.1) f.code h
    ]

    -- ---- its parts

    parts : (code : Code) → PartHolds now f code → ⊥
    unfolding PartHolds
    parts NoPayloadFolder (at, lacks) = false≢true (sym lacks ∙ renewed_folder ∙ has_data bag can.damaged)
    parts NoPayloadManifest (at, no_manifest) =
        let m = some_member (new_algs bag renewal) can.some_alg in
        no_manifest (name m.0)
        (name_is_text m.0, ap is_some (there (Manifest Payload m.0) (payload_manifest bag renewal m.0).1 (m.1, refl)))
    parts AlgorithmUnsupported (kind, alg, at, has, no_alg) =
        let a = names.known kind alg has in
        false≢true (ap is_some (sym no_alg ∙ ap alg_named a.1 ∙ name_named a.0))
    parts NotUtf8 (at, ((tag, other, same), (bytes, stands, bad))) =
        is_text tag bytes other (ap (file now) same ∙ stands) bad
    parts _ h = h

    no_part_fault : IsOfParts now f → ⊥
    unfolding IsOfParts
    no_part_fault h = parts f.code h

    -- ---- what is to be fetched: of a bag whose rules stay

    module _ (same : rules_in now ≡ rules_in bag) where
      in_fetch : InFetch now f → InFetch bag f
      in_fetch (at, alg, (bytes, stands, wrong)) = (
        at,
        alg,
        (bytes, sym same_fetch ∙ stands, subst (λ rules. IsFetchFault rules bytes (in_line f)) same wrong),
      )

      same_entry : (e : FetchEntry) → HasFetch now e → HasFetch bag e
      same_entry e has =
          subst (λ o. IsFetch (rules_in bag) (lines_or_none o) e) same_fetch
          (subst (λ rules. IsFetch rules (lines_in now fetch_txt) e) same has)

      fetch_is_payload : (e : FetchEntry) (rules : Rules) → IsFetch rules (lines_in bag fetch_txt) e
          → is_payload_path e.path ≡ true
      fetch_is_payload e rules is = ((lines_read rules is.0 e.url e.length e.path).0 is.2).in_payload

      none_left_out : (e : FetchEntry) → HasFetch now e → IsLeftOut (rules_in now) now f.alg e.path → ⊥
      none_left_out e has out =
          let was = same_entry e has in
          let of_it = fetch_is_payload e (rules_in bag) was in
          let has_it : HasFile now e.path =
          ap is_some (same_file bag renewal e.path of_it) ∙ fetched bag can.damaged e was in
          names.listed f.alg e.path (has_it, of_it) out

      fetches : (code : Code) → FetchHolds now f code → FetchHolds bag f code
      unfolding FetchHolds
      fetches FetchNotInManifest (e, at, has, out) = absurd (none_left_out e has out)
      fetches FetchLine h = in_fetch h
      fetches FetchEscape h = in_fetch h
      fetches FetchUnsafePath h = in_fetch h
      fetches FetchOutsidePayload h = in_fetch h
      fetches _ h = h

      of_old_list : IsOfFetch now f → asks full f.code ≡ true → ⊥
      unfolding IsOfFetch
      of_old_list h asked = no_fetch_fault bag can.damaged f (fetches f.code h) asked

    -- of one that has none
    module _ (lacks : LacksFile bag (tag_path Fetch)) where
      no_list : (c : List ℕ) → file now (tag_path Fetch) ≡ Some c → ⊥
      no_list c at = false≢true (sym lacks ∙ ap is_some (sym same_fetch ∙ at))

      in_none : InFetch now f → ⊥
      in_none (at, alg, (bytes, stands, wrong)) = no_list bytes stands

      no_entry : (k : ℕ) (line : List ℕ) (o : Option (List ℕ)) → file now (tag_path Fetch) ≡ o
          → slice_get (lines_or_none (file now (tag_path Fetch))) k ≡ Some line → ⊥
      no_entry k line None at here = no_line k line (sym (ap (λ o. slice_get (lines_or_none o) k) at) ∙ here)
      no_entry k line (Some c) at here = no_list c at

      without : (code : Code) → FetchHolds now f code → ⊥
      unfolding FetchHolds
      without FetchNotInManifest (e, at, has, out) =
          no_entry (e.line - 1) has.0 (file now (tag_path Fetch)) refl has.1.1
      without _ h = search in_none

      of_no_list : IsOfFetch now f → ⊥
      unfolding IsOfFetch
      of_no_list h = without f.code h

    fetches_well : IsOfFetch now f → asks full f.code ≡ true → ⊥
    fetches_well h asked = elim can.fetch [
      | inl is ↦ of_old_list (same_rules is) h asked
      | inr lacks ↦ of_no_list lacks h
    ]

    -- ---- the digests: those of a manifest that is kept are as they were

    abbrev OldDiffers : Type 0
    OldDiffers = Differs bag f Payload × ((alg : Alg) × (f.alg ≡ Some alg) × (is_kept_alg bag renewal alg ≡ true))

    differs_by : (alg : Alg) (entry : ManifestEntry) (content text : List ℕ)
        → file now (manifest_of Payload alg) ≡ Some text
        → IsEntry (rules_in now) Payload alg (lines_of_file text) entry
        → file now entry.path ≡ Some content → entry.digest ≢ digest alg content
        → At f entry.path (Some alg) 0 (expected_and_found entry.digest (digest alg content)) → OldDiffers
    differs_by alg entry content text there is held other at =
        let path = tag_path (Manifest Payload alg) in
        elim (old_or_anew bag renewal alg text there) [
          | inr anew ↦ absurd (other (right Payload alg text anew there entry content
              (subst (λ rules. IsEntry rules Payload alg (lines_of_file text) entry) (by_new_rules bag renewal) is)
              held))
          | inl was ↦ (
              let said = new_text bag renewal (Manifest Payload alg) text tt there in
              let of_it =
              ((names.told Payload alg text there).there entry.path
              (entry_named (rules_in now) Payload alg (lines_of_file text) entry is)).1 in (
                (
                  alg,
                  entry,
                  content,
                  at,
                  subst (λ o. IsEntry (rules_in bag) Payload alg (lines_or_none o) entry) (sym was.1)
                      (subst (λ rules. IsEntry rules Payload alg (lines_of_file text) entry)
                      (by_new_rules bag renewal ∙ kept_rules bag renewal path was.0) is),
                  sym (same_file bag renewal entry.path of_it) ∙ held,
                  other,
                ),
                (
                  alg,
                  at.alg_is,
                  and_from (is_new_alg bag renewal alg) (is_kept bag renewal path)
                      (passes (is_new_alg bag renewal) alg said.0) was.0,
                ),
              ))
        ]

    payload_differs : Differs now f Payload → OldDiffers
    payload_differs (alg, entry, content, at, is, held, other) =
        let t = text_of_entry now Payload alg entry is in
        differs_by alg entry content t.0 t.1 t.2 held other at

    differs : (code : Code) → ValidityHolds now f code → (code ≡ PayloadSumDiffers) × OldDiffers
    unfolding ValidityHolds
    differs PayloadSumDiffers h = (refl, payload_differs h)
    differs TagSumDiffers h =
        absurd (none_differs now names f Tag (λ alg text at.
        subst (λ rules. GivesDigests rules now Tag alg text) (sym (by_new_rules bag renewal)) (right Tag alg text tt at))
        h)
    differs _ h = absurd h

    old_damage : IsOfValidity now f → asks full f.code ≡ true → IsOldDamage bag renewal f
    unfolding Is IsOfValidity ValidityHolds
    old_damage h asked =
        let d = differs f.code h in (
          d.0,
          (inr (inr (inr (inr (inr (inr (inl (subst (ValidityHolds bag f) (sym d.0) d.1.0))))))), asked),
          d.1.1,
        )

    -- ---- all of them

    not_asked : f.code ≡ NameClash → asks full f.code ≡ true → ⊥
    unfolding asks
    not_asked is asked = false≢true (sym (ap (asks full) is) ∙ asked)

    old_faults : Is now None f → asks full f.code ≡ true → IsOldDamage bag renewal f
    unfolding Is
    old_faults (inl h) asked = absurd (declares_well h asked)
    old_faults (inr (inl h)) asked = absurd (no_part_fault h)
    old_faults (inr (inr (inl h))) asked = absurd (info.no_fault f h asked)
    old_faults (inr (inr (inr (inl h)))) asked = absurd (fetches_well h asked)
    old_faults (inr (inr (inr (inr (inl h))))) asked = absurd (no_manifest_fault now names f h)
    old_faults (inr (inr (inr (inr (inr (inl h)))))) asked =
        absurd (no_completeness_fault now names f h (λ is. not_asked is asked))
    old_faults (inr (inr (inr (inr (inr (inr (inl h))))))) asked = old_damage h asked
    old_faults (inr (inr (inr (inr (inr (inr (inr h))))))) asked = absurd h

pub renewed_has_old_faults : RenewedHasOldFaults
renewed_has_old_faults bag renewal can info f is = old_faults bag renewal can info f is.0 is.1

pub renewed_is_valid : RenewedIsValid
renewed_is_valid bag renewal can info none =
    nothing_listed fault_cmp (IsFaultOf (renewed bag renewal)) (λ f is.
    contains_nothing f ((none.members f).1 (renewed_has_old_faults bag renewal can info f is).1))
