-- What a profile holds at each of its keys.
use Rattle.std.proofs.Common.{arith}
use Rattle.bag_profile.proofs.Common.{◌≡◌, ◌⊎◌, inl, inr, ℕ, true, List, [], Option, Some, None, Result, Ok, Err, refl}
use Rattle.bag_profile.proofs.Common.{sym, ap, subst, option_map, option_and_then, Data, Members, get, as_bool, as_str}
use Rattle.bag_profile.proofs.Common.{as_object, ProfileFault, Key, LabelRule, ◌>>=◌, shaped, at, optional, label_rules}
use Rattle.bag_profile.proofs.Common.{name_rules, name_lists_of, of_object, serialization_named, terms_of, texts}
use Rattle.bag_profile.proofs.Common.{unchecked_of}
use Rattle.std.proofs.lemmas.Option.{same_Some}
use Rattle.bag_profile.specs.declared.form.Form.TheVariants.{Folder}
use Rattle.bag_profile.specs.declared.key.Key.TheVariants as key
use Rattle.bag_profile.specs.declared.name_lists.NameRules.{NameRules}
use Rattle.bag_profile.specs.declared.name_lists.NameLists.{NameLists}
use Rattle.bag_profile.specs.declared.terms.Serialization.{Serialization}
use Rattle.bag_profile.specs.declared.terms.Serialization.TheVariants.{Optional}
use Rattle.bag_profile.specs.declared.terms.Terms.{Terms}
use Rattle.bag_profile.specs.Held.{IsAt, IsSetAt, HoldsKeys, ProfilesHoldTheirKeys, RulesHoldTheirKeys}
use Rattle.bag_profile.specs.Key.{key_name}
use Rattle.bag_profile.specs.Label.{label_rule}
use Rattle.bag_profile.specs.NameLists.{texts_at}
use Rattle.bag_profile.specs.Profile.{Profile}
use Rattle.bag_profile.specs.Read.{identifier_of, labels_of, profile_of}
use Rattle.bag_profile.specs.Terms.{allow_fetch_of, serialization_of}

ok_same : {A : Type 0} (x y : A) → ◌≡◌ {A = Result A ProfileFault} (Ok x) (Ok y) → x ≡ y
ok_same x y e = cc

-- two steps come to an end where each does
bind_ok : {A B : Type 0} (r : Result A ProfileFault) (f : A → Result B ProfileFault) (y : B) → (r >>= f) ≡ Ok y
    → (x : A) × (r ≡ Ok x) × (f x ≡ Ok y)
bind_ok (Ok x) f y e = (x, refl, e)
bind_ok (Err fault) f y e = cc

shaped_ok : {A : Type 0} (k : Key) (o : Option A) (x : A) → shaped k o ≡ Ok x → o ≡ Some x
shaped_ok k None x e = cc
shaped_ok k (Some y) x e = ap Some (ok_same y x e)

optional_is : {A : Type 0} (default : A) (reading : Data → Option A) (o : Option Data) (x : A)
    → optional default reading o ≡ Some x
    → ((o ≡ None) × (x ≡ default)) ⊎ ((value : Data) × (o ≡ Some value) × (reading value ≡ Some x))
optional_is default reading None x e = inl (refl, sym (same_Some default x e))
optional_is default reading (Some value) x e = inr (value, refl, e)

at_is : {A : Type 0} (k : Key) (default : A) (reading : Data → Option A) (d : Data) (x : A)
    → at k default reading d ≡ Ok x → IsAt (key_name k) default reading d x
at_is k default reading d x e =
    optional_is default reading (get (key_name k) d) x (shaped_ok k (optional default reading (get (key_name k) d)) x e)

set_is : (k : Key) (d : Data) (names : Option (List (List ℕ))) → texts_at k d ≡ Ok names → IsSetAt (key_name k) d names
unfolding texts_at
set_is k d names e = at_is k None (λ value. option_map Some (texts value)) d names e

-- ---- the six lists

abbrev HoldPair : Key → Key → Data → NameRules → Type 0
HoldPair required allowed d rules =
    IsSetAt (key_name required) d rules.required × IsSetAt (key_name allowed) d rules.allowed

pair_is : (required allowed : Key) (d : Data) (rules : NameRules) → name_rules required allowed d ≡ Ok rules
    → HoldPair required allowed d rules
pair_is required allowed d rules e = grind (arith, bind_ok, ok_same, set_is)

abbrev HoldLists : Data → NameLists → Type 0
HoldLists d lists =
    HoldPair key.ManifestsRequired key.ManifestsAllowed d lists.manifests
    × HoldPair key.TagManifestsRequired key.TagManifestsAllowed d lists.tag_manifests
    × HoldPair key.TagFilesRequired key.TagFilesAllowed d lists.tag_files

lists_are : (d : Data) (lists : NameLists) → name_lists_of d ≡ Ok lists → HoldLists d lists
lists_are d lists e =
    let one = bind_ok (name_rules key.ManifestsRequired key.ManifestsAllowed d) _ lists e in
    let two = bind_ok (name_rules key.TagManifestsRequired key.TagManifestsAllowed d) _ lists one.2 in
    let three = bind_ok (name_rules key.TagFilesRequired key.TagFilesAllowed d) _ lists two.2 in
    subst (HoldLists d) (ok_same _ lists three.2) (
      pair_is key.ManifestsRequired key.ManifestsAllowed d one.0 one.1,
      pair_is key.TagManifestsRequired key.TagManifestsAllowed d two.0 two.1,
      pair_is key.TagFilesRequired key.TagFilesAllowed d three.0 three.1,
    )

-- ---- the terms

abbrev named_in : Data → Option Serialization
named_in value = option_and_then serialization_named (as_str value)

abbrev HoldTerms : Data → Terms → Type 0
HoldTerms d terms =
    IsAt (key_name key.AllowFetch) true as_bool d terms.allow_fetch
    × IsSetAt (key_name key.AcceptBagItVersion) d terms.versions
    × IsAt (key_name key.Serialization) Optional named_in d terms.serialization

terms_are : (d : Data) (terms : Terms) → terms_of d ≡ Ok terms → HoldTerms d terms
unfolding allow_fetch_of serialization_of
terms_are d terms e =
    let one = bind_ok (allow_fetch_of d) _ terms e in
    let two = bind_ok (texts_at key.AcceptBagItVersion d) _ terms one.2 in
    let three = bind_ok (serialization_of d) _ terms two.2 in
    subst (HoldTerms d) (ok_same _ terms three.2) (
      at_is key.AllowFetch true as_bool d one.0 one.1,
      set_is key.AcceptBagItVersion d two.0 two.1,
      at_is key.Serialization Optional named_in d three.0 three.1,
    )

-- ---- the identifier

identifier_is : (d : Data) (identifier : List ℕ) → identifier_of d ≡ Ok identifier
    → (info value : Data) × (get (key_name key.ProfileInfo) d ≡ Some info)
    × (get (key_name key.ProfileIdentifier) info ≡ Some value) × (as_str value ≡ Some identifier)
unfolding identifier_of
identifier_is d identifier e = grind (arith, bind_ok, shaped_ok, same_Some)

-- ---- the whole

made : (d : Data) (members : Members) (identifier : List ℕ) (labels : List LabelRule) (lists : NameLists)
    (terms : Terms)
    → (as_object d ≡ Some members) → identifier_of d ≡ Ok identifier → labels_of d ≡ Ok labels
    → name_lists_of d ≡ Ok lists → terms_of d ≡ Ok terms
    → HoldsKeys d (record {
      identifier = identifier;
      labels = labels;
      names = lists;
      terms = terms;
      unchecked = unchecked_of members;
      form = Folder;
    })
unfolding key_name labels_of
made d members identifier labels lists terms all i l n t =
    let six = lists_are d lists n in
    let three = terms_are d terms t in
    record {
      its_identifier = identifier_is d identifier i;
      bag_info = at_is key.BagInfo [] label_rules d labels l;
      manifests_required = six.0.0;
      manifests_allowed = six.0.1;
      tag_manifests_required = six.1.0;
      tag_manifests_allowed = six.1.1;
      tag_files_required = six.2.0;
      tag_files_allowed = six.2.1;
      allow_fetch = three.0;
      accept_version = three.1;
      serialization = three.2;
      others = (members, all, refl);
      for_folders = refl;
    }

object_holds : (d : Data) (members : Members) (profile : Profile) → as_object d ≡ Some members
    → of_object d members ≡ Ok profile → HoldsKeys d profile
object_holds d members profile all e =
    let one = bind_ok (identifier_of d) _ profile e in
    let two = bind_ok (labels_of d) _ profile one.2 in
    let three = bind_ok (name_lists_of d) _ profile two.2 in
    let four = bind_ok (terms_of d) _ profile three.2 in
    subst (HoldsKeys d) (ok_same _ profile four.2)
    (made d members one.0 two.0 three.0 four.0 all one.1 two.1 three.1 four.1)

pub hold_keys : ProfilesHoldTheirKeys
unfolding profile_of
hold_keys d profile e =
    let one = bind_ok (shaped key.Whole (as_object d)) _ profile e in
    object_holds d one.0 profile (shaped_ok key.Whole (as_object d) one.0 one.1) one.2

-- ---- the rule of a label

pub rules_hold : RulesHoldTheirKeys
unfolding label_rule
rules_hold label d rule e = grind (arith, optional_is, same_Some)
