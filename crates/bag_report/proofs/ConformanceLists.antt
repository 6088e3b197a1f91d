-- Every bag and every profile have a list of the faults of each part.
use Rattle.bag_report.proofs.Conforming.{◌≡◌, ◌++◌, ◌∷◌, inl, inr, ℕ, List, [], Contains, Option, None, Some, refl}
use Rattle.bag_report.proofs.Conforming.{enumerate_from, Code, FetchNotAllowed, TagFileNotAllowed}
use Rattle.bag_report.proofs.Conforming.{elements_of, manifest_name, Kind, Bag, file, has_file, HasFile, of_bag}
use Rattle.bag_report.proofs.Conforming.{of_path, Profile, TagFilesRequired, TagFilesAllowed, AcceptBagItVersion}
use Rattle.bag_report.proofs.Conforming.{made_of, rules_in, HasList, bag_info_txt, lines_in, bagit_txt, HasManifest}
use Rattle.bag_report.proofs.Conforming.{same_set, either, one_where, true_or_not, false_or_not, both_decided}
use Rattle.bag_report.proofs.Conforming.{required_code, other_code, IsOfElements, IsOfKind, IsOfTagFiles, IsOfWhole}
use Rattle.bag_report.proofs.Conforming.{element_faults, fetch_txt, required_manifests, allowed_manifests}
use Rattle.bag_report.proofs.Conforming.{LacksManifest, HasOtherManifest, Excludes, IsOtherTagFile, Lists}
use Rattle.bag_report.proofs.Conforming.{other_version, wrong_form}
use Rattle.bag_read.specs.InfoReader as reading
use Rattle.bag_stages.proofs.BagLists.{files_listed, manifests_listed}
use Rattle.bag_stages.proofs.HasLists.{not_decided}
use Rattle.bag_report.proofs.Decisions.{free_or_not, manifest_or_not, names_listed}
use Rattle.bag_report.proofs.Decisions.{excluded_or_not, unmatched_or_not}
use Rattle.bag_report.proofs.ElementFaults.{elements_are, labelled_are}
use Rattle.bag_report.proofs.FaultSets.{code_at, whole_at}
use Rattle.bag_report.proofs.ItemFaults.{each_listed, items_listed}
use Rattle.bag_report.proofs.TagFiles as tags
use Rattle.bag_report.proofs.WholeBag.{HasOther, accepted_all, excluded_all, right_form_all, undeclared_all}
use Rattle.bag_report.proofs.WholeBag.{version_in, wrong_form_all}

module _ (bag : Bag) (profile : Profile) where
  pub elements_listed : HasList (IsOfElements bag profile)
  elements_listed =
      let all = lines_in bag bag_info_txt in
      let elements = reading.elements (rules_in bag) (enumerate_from 1 all) in
      let faults = element_faults profile.identifier profile.labels elements in (
        faults,
        elements_are bag profile elements (labelled_are bag elements (elements_of (rules_in bag) all)) faults
            refl,
      )

  pub kind_listed : (kind : Kind) → HasList (λ f. IsOfKind bag profile f kind)
  kind_listed kind =
      either (λ f. (f.code ≡ required_code kind) × LacksManifest bag profile f kind) (λ f.
      (f.code ≡ other_code kind) × HasOtherManifest bag profile f kind)
      (items_listed (required_code kind) (manifest_name kind) (Lists profile (required_manifests kind)) (λ name.
      ¬ (HasManifest bag kind name))
      (λ name. not_decided _ (manifest_or_not bag kind name)) (names_listed profile (required_manifests kind)))
      (items_listed (other_code kind) (manifest_name kind) (HasManifest bag kind)
      (Excludes profile (allowed_manifests kind))
      (excluded_or_not profile (allowed_manifests kind)) (manifests_listed bag kind))

  lacking_files : HasList (tags.Lacks bag profile)
  lacking_files =
      let names = names_listed profile TagFilesRequired in
      let faults = each_listed (tags.lacking_fault bag profile) (Contains names.0) (tags.IsLacking bag profile)
      (λ path. not_decided _ (true_or_not (has_file bag path))) (names.0, λ path. (λ c. c, λ c. c)) in
      (faults.0, tags.lacking_all bag profile names.0 faults.0 names.1 faults.1)

  other_files : HasList (tags.HasOther bag profile)
  other_files =
      same_set (tags.IsOther bag profile) (tags.HasOther bag profile) (tags.to_other bag profile)
      (tags.from_other bag profile)
      (each_listed (λ path. of_path TagFileNotAllowed path None []) (HasFile bag) (IsOtherTagFile profile)
      (λ path. both_decided _ _ (free_or_not path) (unmatched_or_not profile TagFilesAllowed path)) (files_listed bag))

  fetch_files : HasList (tags.HasSomeFetch bag profile)
  fetch_files =
      same_set _ (tags.HasSomeFetch bag profile)
      (λ f h. (code_at f FetchNotAllowed fetch_txt h.1, (whole_at f FetchNotAllowed fetch_txt h.1, h.0.0, h.0.1)))
      (λ f h. ((h.1.1, h.1.2), made_of f FetchNotAllowed fetch_txt None 0 [] h.0 h.1.0))
      (one_where (of_path FetchNotAllowed fetch_txt None []) _
      (both_decided _ _ (false_or_not profile.terms.allow_fetch) (true_or_not (has_file bag fetch_txt))))

  pub tag_files_listed : HasList (IsOfTagFiles bag profile)
  tag_files_listed =
      either (tags.Lacks bag profile) _ lacking_files
      (either (tags.HasOther bag profile) (tags.HasSomeFetch bag profile) other_files fetch_files)

  versions_by : (declared : Option (List ℕ)) → declared ≡ version_in (file bag bagit_txt)
      → HasList (HasOther bag profile)
  versions_by None e = ([], undeclared_all bag profile [] refl e)
  versions_by (Some version) e = elim (excluded_or_not profile AcceptBagItVersion version) [
    | inl out ↦ (
      other_version version ∷ [],
      excluded_all bag profile version e (other_version version ∷ []) (other_version version) refl refl out,
    )
    | inr not ↦ ([], accepted_all bag profile version e [] refl not)
  ]

  forms_by : (wrong : Option Code) → wrong_form profile.terms.serialization profile.form ≡ wrong
      → HasList (IsOfWhole bag profile)
  forms_by None right =
      let versions = versions_by (version_in (file bag bagit_txt)) refl in
      (versions.0, right_form_all bag profile versions.0 versions.0 versions.1 refl right)
  forms_by (Some c) wrong =
      let versions = versions_by (version_in (file bag bagit_txt)) refl in (
        versions.0 ++ of_bag c ∷ [],
        wrong_form_all bag profile versions.0 _ (of_bag c) c versions.1 refl refl wrong,
      )

  pub whole_listed : HasList (IsOfWhole bag profile)
  whole_listed = forms_by (wrong_form profile.terms.serialization profile.form) refl
