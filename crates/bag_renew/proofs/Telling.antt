-- A bag whose manifests name what they are to name is complete, and where they give the digests it is valid.
use Rattle.bag_renew.proofs.Common.{◌≡◌, ◌≢◌, ◌∙◌, inl, inr, ℕ, List, [], Option, None, Some}
use Rattle.bag_renew.proofs.Common.{refl, ap, sym, subst, Contains, false≢true, manifest_name, tag_path, Kind, Payload}
use Rattle.bag_renew.proofs.Common.{Tag, Manifest, Alg, Bag, HasFile, file}
use Rattle.std.proofs.Common.{◌-◌}
use Rattle.std.specs.List.{slice_get}
use Rattle.bag_text.specs.Lines.{lines_of_file}
use Rattle.bag_text.specs.declared.code.Code.{Code}
use Rattle.bag_text.specs.declared.code.Code.TheVariants.{NameClash, PayloadFileMissing, PayloadFileNotListed}
use Rattle.bag_text.specs.declared.code.Code.TheVariants.{PayloadManifestNotListed, PayloadSumDiffers}
use Rattle.bag_text.specs.declared.rules.Rules.{Rules}
use Rattle.bag_text.specs.declared.rules.Rules.TheVariants.{V10, V097}
use Rattle.bag_read.specs.Manifest.{IsEntry, named}
use Rattle.bag_entries.specs.declared.entry.ManifestEntry.{ManifestEntry}
use Rattle.bag_read.proofs.ManifestEntries.{named_has_entry}
use Rattle.bag_facts.specs.Facts.{IsByV10, rules_in}
use Rattle.bag_faults.specs.declared.fault.Fault.{Fault}
use Rattle.bag_stages.proofs.BagLists.{some_alg, there_or_not}
use Rattle.bag_stages.proofs.LeftOut.{by_all, by_one}
use Rattle.bag_stages.specs.CompletenessStage.{CompletenessHolds, IsOfCompleteness, Missing}
use Rattle.bag_stages.specs.FaultFields.{in_line}
use Rattle.bag_stages.specs.LeftOut.{IsNamedBySome}
use Rattle.bag_stages.specs.ManifestsStage.{InManifest, IsOfManifests, ManifestHolds}
use Rattle.bag_stages.specs.TagFiles.{HasSupported, Names, lines_or_none, manifest_of, named_in}
use Rattle.bag_stages.specs.ValidityStage.{Differs, IsEntryIn, IsOfValidity, ValidityHolds}
use Rattle.bag_changes.specs.Telling.{BagsThatNameTheirFilesAreComplete, BagsThatTellTheirFilesAreValid, GivesDigests}
use Rattle.bag_changes.specs.Telling.{IsToBeNamed, NamesItsFiles, TellsItsFiles, is_to_name}
use Rattle.bag_facts.proofs.Found.{content_of}
use Rattle.bag_renew.proofs.TagNames.{named_so}

pub no_line : (k : ℕ) (line : List ℕ) → slice_get {X = List ℕ} [] k ≡ Some line → ⊥
no_line k line e = cc

-- the manifest of an entry is there
module _ (bag : Bag) (kind : Kind) (alg : Alg) (e : ManifestEntry) where
  entry_by : (o : Option (List ℕ)) → file bag (manifest_of kind alg) ≡ o
      → IsEntry (rules_in bag) kind alg (lines_or_none o) e
      → (text : List ℕ) × (file bag (manifest_of kind alg) ≡ Some text)
      × IsEntry (rules_in bag) kind alg (lines_of_file text) e
  entry_by None at is = absurd (no_line (e.line - 1) is.0 is.1.1)
  entry_by (Some text) at is = (text, at, is)

  pub text_of_entry : IsEntryIn bag kind alg e
      → (text : List ℕ) × (file bag (manifest_of kind alg) ≡ Some text)
      × IsEntry (rules_in bag) kind alg (lines_of_file text) e
  text_of_entry is = entry_by (file bag (manifest_of kind alg)) refl is

module _ (bag : Bag) (names : NamesItsFiles bag) where
  -- what a manifest names is there
  named_there : (kind : Kind) (alg : Alg) (path : List ℕ) → Names bag kind alg path → HasFile bag path
  named_there kind alg path h =
      let n = named_has_entry (rules_in bag) kind alg (lines_or_none (file bag (manifest_of kind alg))) path h in
      let t = text_of_entry bag kind alg n.0 n.1 in
      ((names.told kind alg t.0 t.1).there path
      (subst (λ o. Contains (named (rules_in bag) kind alg (lines_or_none o)) path) t.1 h)).0

  -- and what is there and a tag manifest is to name is named
  tag_named : (alg : Alg) (path : List ℕ) → HasSupported bag Tag alg → IsToBeNamed bag Tag path
      → Names bag Tag alg path
  tag_named alg path has is =
      let text = content_of (file bag (manifest_of Tag alg)) has in
      subst (λ o. Contains (named (rules_in bag) Tag alg (lines_or_none o)) path) (sym text.1)
      (((names.all_tags alg text.0 text.1).paths path).1 is)

  -- by the rules of 1.0 each payload manifest names all of the payload
  pub v10_named : IsByV10 bag → (alg : Alg) (path : List ℕ) → HasSupported bag Payload alg
      → IsToBeNamed bag Payload path → Names bag Payload alg path
  v10_named v10 alg path has is = elim (there_or_not (named_in bag Payload alg) path) [
    | inl names_it ↦ names_it
    | inr unnamed ↦ absurd (names.listed (Some alg) path is
        (by_one bag path (rules_in bag) alg v10 (has, unnamed)))
  ]

  -- and by either rules some payload manifest, where one is there, names each file of the payload
  pub some_named : (alg : Alg) × HasSupported bag Payload alg → (path : List ℕ) → IsToBeNamed bag Payload path
      → IsNamedBySome bag path
  some_named has path is = elim (some_alg (λ alg. Names bag Payload alg path)
      (λ alg. there_or_not (named_in bag Payload alg) path)) [
        | inl named_it ↦ named_it
        | inr unnamed ↦ absurd (by_rules (rules_in bag) refl unnamed)
      ]
    where
      by_rules : (rules : Rules) → rules_in bag ≡ rules → ¬ (IsNamedBySome bag path) → ⊥
      by_rules V10 v10 unnamed =
          names.listed (Some has.0) path is
          (by_one bag path (rules_in bag) has.0 v10 (has.1, λ named_it. unnamed (has.0, named_it)))
      by_rules V097 v097 unnamed =
          names.listed None path is (by_all bag path (rules_in bag) v097 (has, unnamed))

  module _ (f : Fault) where
    reads_well : InManifest bag f → ⊥
    reads_well (kind, alg, (at, by, (bytes, held, wrong))) = (names.told kind alg bytes held).no_fault (in_line f) wrong

    manifest_holds : (code : Code) → ManifestHolds bag f code → ⊥
    unfolding ManifestHolds
    manifest_holds PayloadManifestNotListed (alg, other, at, ruled, has, held, unnamed) =
        let m = names.known Payload other held in
        let path : manifest_name Payload other ≡ tag_path (Manifest Payload m.0) = ap (manifest_name Payload) m.1 in
        unnamed (tag_named alg (manifest_name Payload other) has
        (held.1, ap (is_to_name Tag) path ∙ named_so (Manifest Payload m.0) tt))
    manifest_holds _ h = search reads_well

    pub no_manifest_fault : IsOfManifests bag f → ⊥
    unfolding IsOfManifests
    no_manifest_fault h = manifest_holds f.code h

    none_missing : (kind : Kind) → Missing bag f kind → ⊥
    none_missing kind (alg, at, named, lacks) = false≢true (sym lacks ∙ named_there kind alg f.path named)

    complete : (code : Code) → CompletenessHolds bag f code → code ≢ NameClash → ⊥
    unfolding CompletenessHolds
    complete PayloadFileMissing h other = none_missing Payload h
    complete PayloadFileNotListed (at, is, out) other = names.listed f.alg f.path is out
    complete NameClash h other = other refl
    complete _ h other = search none_missing

    pub no_completeness_fault : IsOfCompleteness bag f → f.code ≢ NameClash → ⊥
    unfolding IsOfCompleteness
    no_completeness_fault h other = complete f.code h other

  -- where a manifest gives the digests, no file differs
  pub none_differs : (f : Fault) (kind : Kind)
      → ((alg : Alg) (text : List ℕ) → file bag (manifest_of kind alg) ≡ Some text
      → GivesDigests (rules_in bag) bag kind alg text)
      → Differs bag f kind → ⊥
  none_differs f kind right (alg, entry, content, at, is, held, other) =
      let t = text_of_entry bag kind alg entry is in other (right alg t.0 t.1 entry content t.2 held)

module _ (bag : Bag) (tells : TellsItsFiles bag) (f : Fault) where
  no_damage : (kind : Kind) → Differs bag f kind → ⊥
  no_damage kind h = none_differs bag tells.names f kind (tells.right kind) h

  valid : (code : Code) → ValidityHolds bag f code → ⊥
  unfolding ValidityHolds
  valid PayloadSumDiffers h = no_damage Payload h
  valid _ h = search no_damage

  no_validity_fault : IsOfValidity bag f → ⊥
  unfolding IsOfValidity
  no_validity_fault h = valid f.code h

pub they_are_complete : BagsThatNameTheirFilesAreComplete
they_are_complete bag f names = (no_manifest_fault bag names f, no_completeness_fault bag names f)

pub they_are_valid : BagsThatTellTheirFilesAreValid
they_are_valid bag f tells = (
  no_manifest_fault bag tells.names f,
  no_completeness_fault bag tells.names f,
  no_validity_fault bag tells f,
)
