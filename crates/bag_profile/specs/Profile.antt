-- What a profile says (BagIt Profiles Specification, Implementation Details).
use Rattle.std.specs.Prelude.{ℕ, List, Option}
use Rattle.bag_profile.specs.declared.form.Form.{Form}
use Rattle.bag_profile.specs.declared.label.LabelRule.{LabelRule}
use Rattle.bag_profile.specs.declared.name_lists.NameLists.{NameLists}
use Rattle.bag_profile.specs.declared.rule.ListRule.{ListRule}
use Rattle.bag_profile.specs.declared.rule.ListRule.TheVariants as list
use Rattle.bag_profile.specs.declared.terms.Terms.{Terms}

pub record Profile : Type 0 where
  pub identifier : List ℕ
  -- ascending by the labels, each once
  pub labels : List LabelRule
  -- each list ascends and has each name once; none where its key is absent
  pub names : NameLists
  pub terms : Terms
  -- the keys that are passed over, ascending
  pub unchecked : List (List ℕ)
  -- in which form the bags lie that are compared with it
  pub form : Form

abbrev pub names : Profile → ListRule → Option (List (List ℕ))
names profile list.ManifestsRequired = profile.names.manifests.required
names profile list.ManifestsAllowed = profile.names.manifests.allowed
names profile list.TagManifestsRequired = profile.names.tag_manifests.required
names profile list.TagManifestsAllowed = profile.names.tag_manifests.allowed
names profile list.TagFilesRequired = profile.names.tag_files.required
names profile list.TagFilesAllowed = profile.names.tag_files.allowed
names profile list.AcceptBagItVersion = profile.terms.versions
