-- A value is read where it has its shape, and the first fault is reported.
use Rattle.std.proofs.Common.{arith}
use Rattle.bag_profile.proofs.Common.{◌≡◌, ℕ, Bool, true, false, cond, ◌&&◌, List, [], ◌∷◌, Option, Some, None, Result}
use Rattle.bag_profile.proofs.Common.{Ok, Err, refl, sym, ap, ◌∙◌, codes, find, option_or, option_map, option_and_then}
use Rattle.bag_profile.proofs.Common.{is_some, Data, Items, no_items, item, Members, no_members, member, get, as_bool}
use Rattle.bag_profile.proofs.Common.{as_str, as_array, as_object, ProfileFault, Key, LabelRule, ◌>>=◌, shaped, at}
use Rattle.bag_profile.proofs.Common.{optional, flag, allowed_values, label_rules_of, name_rules, name_lists_of}
use Rattle.bag_profile.proofs.Common.{of_object, terms_of, texts_if_all, text_set}
use Rattle.bag_profile.specs.declared.fault.ProfileFault.TheVariants.{WrongShape}
use Rattle.bag_profile.specs.declared.key.Key.TheVariants as key
use Rattle.bag_profile.specs.Key.{key_name}
use Rattle.bag_profile.specs.Label.{label_rule, label_rules}
use Rattle.bag_profile.specs.NameLists.{texts_at}
use Rattle.bag_profile.specs.Read.{identifier_of, labels_of, profile_of}
use Rattle.bag_profile.specs.Shape as spec
use Rattle.bag_profile.specs.Terms.{allow_fetch_of, serialization_of}
use Rattle.bag_profile.specs.TextSet.{texts}

abbrev Fault : Type 0
Fault = Option ProfileFault

-- ---- shapes

is_mapped : {A B : Type 0} (f : A → B) (o : Option A) → is_some (option_map f o) ≡ is_some o
is_mapped f None = refl
is_mapped f (Some x) = refl

both_are : {A B C : Type 0} (f : A → B → C) (o : Option A) (p : Option B)
    → is_some (option_and_then (λ x. option_map (f x) p) o) ≡ (is_some o && is_some p)
both_are f None p = refl
both_are f (Some x) p = is_mapped (f x) p

texts_are : (xs : Items) → is_some (texts_if_all xs) ≡ spec.are_texts xs
texts_are no_items = refl
texts_are (item x xs) =
    both_are (λ t ts. t ∷ ts) (as_str x) (texts_if_all xs) ∙ ap (λ b. is_some (as_str x) && b) (texts_are xs)

passed_on : {A B : Type 0} (f : A → Option B) (test : A → Bool) → ((x : A) → is_some (f x) ≡ test x) → (o : Option A)
    → is_some (option_and_then f o) ≡ spec.passes test o
passed_on f test h None = refl
passed_on f test h (Some x) = h x

texts_shape : (d : Data) → is_some (texts d) ≡ spec.is_list_of_texts d
unfolding texts
texts_shape d =
    is_mapped text_set (option_and_then texts_if_all (as_array d))
    ∙ passed_on texts_if_all spec.are_texts texts_are (as_array d)

optional_shape : {A : Type 0} (default : A) (shape : Data → Option A) (test : Data → Bool)
    → ((d : Data) → is_some (shape d) ≡ test d) → (o : Option Data)
    → is_some (optional default shape o) ≡ spec.may_be test o
optional_shape default shape test h None = refl
optional_shape default shape test h (Some d) = h d

abbrev rule_made : List ℕ → Bool → Bool → List (List ℕ) → LabelRule
rule_made label required repeatable values =
    record { label = label; required = required; repeatable = repeatable; values = values }

rule_parts : (b : Bool) (label : List ℕ) (required repeatable : Option Bool) (values : Option (List (List ℕ)))
    → is_some (cond b
    (option_and_then (λ x. option_and_then (λ y. option_map (λ z. rule_made label x y z) values) repeatable)
    required) None)
    ≡ (b && is_some required && is_some repeatable && is_some values)
rule_parts true label (Some x) (Some y) (Some z) = refl
rule_parts _ label _ _ _ = refl

rule_shape : (label : List ℕ) (d : Data) → is_some (label_rule label d) ≡ spec.is_rule d
unfolding label_rule
rule_shape label d =
    rule_parts (is_some (as_object d)) label (flag (codes "required") false d) (flag (codes "repeatable") true d)
    (allowed_values d)
    ∙ (λ i. is_some (as_object d)
    && optional_shape false as_bool spec.is_boolean (λ v. refl) (get (codes "required") d) i
    && optional_shape true as_bool spec.is_boolean (λ v. refl) (get (codes "repeatable") d) i
    && optional_shape [] texts spec.is_list_of_texts texts_shape
    (get (codes "values") d) i)

rules_are : (ms : Members) → is_some (label_rules_of ms) ≡ spec.are_rules ms
rules_are no_members = refl
rules_are (member label d rest) =
    both_are (λ rule rules. rule ∷ rules) (label_rule label d) (label_rules_of rest)
    ∙ (λ i. rule_shape label d i && rules_are rest i)

labels_shape : (d : Data) → is_some (label_rules d) ≡ spec.has_shape key.BagInfo d
unfolding label_rules
labels_shape d = passed_on label_rules_of spec.are_rules rules_are (as_object d)

-- ---- the fault at a key

abbrev wrong : Data → Key → Fault
wrong d k = cond (spec.is_wrong d k) (Some (WrongShape k)) None

shaped_fault : {A : Type 0} (k : Key) (o : Option A)
    → spec.fault_in_result (shaped k o) ≡ cond (is_some o) None (Some (WrongShape k))
shaped_fault k None = refl
shaped_fault k (Some x) = refl

at_fault : {A : Type 0} (k : Key) (default : A) (shape : Data → Option A) (d : Data)
    → ((v : Data) → is_some (shape v) ≡ spec.has_shape k v) → spec.fault_in_result (at k default shape d) ≡ wrong d k
at_fault k default shape d h = grind (arith, shaped_fault, optional_shape)

texts_fault : (k : Key) (d : Data) → ((v : Data) → spec.is_list_of_texts v ≡ spec.has_shape k v)
    → spec.fault_in_result (texts_at k d) ≡ wrong d k
unfolding texts_at
texts_fault k d h =
    at_fault k None (λ v. option_map Some (texts v)) d (λ v. is_mapped Some (texts v) ∙ texts_shape v ∙ h v)

labels_fault : (d : Data) → spec.fault_in_result (labels_of d) ≡ wrong d key.BagInfo
unfolding labels_of
labels_fault d = at_fault key.BagInfo [] label_rules d labels_shape

allow_fetch_fault : (d : Data) → spec.fault_in_result (allow_fetch_of d) ≡ wrong d key.AllowFetch
unfolding allow_fetch_of
allow_fetch_fault d = at_fault key.AllowFetch true as_bool d (λ v. refl)

serialization_fault : (d : Data) → spec.fault_in_result (serialization_of d) ≡ wrong d key.Serialization
unfolding serialization_of
serialization_fault d = grind (arith, at_fault, passed_on)

-- ---- one key after the other

-- the first fault of two steps
in_order : {A B : Type 0} (r : Result A ProfileFault) (f : A → Result B ProfileFault) (first later : Fault)
    → spec.fault_in_result r ≡ first → ((x : A) → spec.fault_in_result (f x) ≡ later)
    → spec.fault_in_result (r >>= f) ≡ option_or first later
in_order (Ok x) f first later e h = h x ∙ ap (λ o. option_or o later) e
in_order (Err fault) f first later e h = ap (λ o. option_or o later) e

names_fault : (required allowed : Key) (d : Data) → ((v : Data) → spec.is_list_of_texts v ≡ spec.has_shape required v)
    → ((v : Data) → spec.is_list_of_texts v ≡ spec.has_shape allowed v)
    → spec.fault_in_result (name_rules required allowed d)
    ≡ option_or (wrong d required) (option_or (wrong d allowed) None)
names_fault required allowed d h i = grind (arith, in_order, texts_fault required d h, texts_fault allowed d i)

abbrev pair_fault : Data → Key → Key → Fault
pair_fault d required allowed = option_or (wrong d required) (option_or (wrong d allowed) None)

abbrev lists_fault : Data → Fault
lists_fault d =
    option_or (pair_fault d key.ManifestsRequired key.ManifestsAllowed)
    (option_or (pair_fault d key.TagManifestsRequired key.TagManifestsAllowed)
    (option_or (pair_fault d key.TagFilesRequired key.TagFilesAllowed) None))

name_lists_fault : (d : Data) → spec.fault_in_result (name_lists_of d) ≡ lists_fault d
name_lists_fault d =
    in_order (name_rules key.ManifestsRequired key.ManifestsAllowed d) _ _ _
    (names_fault key.ManifestsRequired key.ManifestsAllowed d (λ v. refl) (λ v. refl)) (λ x.
    in_order (name_rules key.TagManifestsRequired key.TagManifestsAllowed d) _ _ _
    (names_fault key.TagManifestsRequired key.TagManifestsAllowed d (λ v. refl) (λ v. refl)) (λ y.
    in_order (name_rules key.TagFilesRequired key.TagFilesAllowed d) _ _ None
    (names_fault key.TagFilesRequired key.TagFilesAllowed d (λ v. refl) (λ v. refl)) (λ z. refl)))

abbrev three_fault : Data → Fault
three_fault d =
    option_or (wrong d key.AllowFetch)
    (option_or (wrong d key.AcceptBagItVersion) (option_or (wrong d key.Serialization) None))

terms_fault : (d : Data) → spec.fault_in_result (terms_of d) ≡ three_fault d
terms_fault d =
    in_order (allow_fetch_of d) _ _ _ (allow_fetch_fault d) (λ x.
    in_order (texts_at key.AcceptBagItVersion d) _ _ _ (texts_fault key.AcceptBagItVersion d (λ v. refl)) (λ y.
    in_order (serialization_of d) _ _ None (serialization_fault d) (λ z. refl)))

-- ---- the identifier

abbrev two_fault : Option Data → Fault
two_fault o =
    option_or (spec.needed_fault key.ProfileInfo o)
    (spec.needed_fault key.ProfileIdentifier (option_and_then (get (key_name key.ProfileIdentifier)) o))

identifier_fault : (d : Data) → spec.fault_in_result (identifier_of d) ≡ two_fault (get (key_name key.ProfileInfo) d)
unfolding identifier_of
identifier_fault d = grind (arith, shaped_fault)

-- ---- all keys

-- the fault at the first key of wrong shape
abbrev each_wrong : Data → List Key → Fault
each_wrong d [] = None
each_wrong d (k ∷ ks) = option_or (wrong d k) (each_wrong d ks)

first_wrong : (d : Data) (ks : List Key) → option_map WrongShape (find (spec.is_wrong d) ks) ≡ each_wrong d ks
first_wrong d [] = refl
first_wrong d (k ∷ ks) = grind (arith, first_wrong d ks)

regrouped : (i j l a b c e f g h m n : Fault)
    → option_or (option_or i j)
    (option_or l (option_or
    (option_or (option_or a (option_or b None))
    (option_or (option_or c (option_or e None)) (option_or (option_or f (option_or g None)) None)))
    (option_or (option_or h (option_or m (option_or n None))) None)))
    ≡ option_or i (option_or j
    (option_or l (option_or a
    (option_or b (option_or c
    (option_or e (option_or f (option_or g (option_or h (option_or m (option_or n None)))))))))))
regrouped None None None None None None None None None None None None = refl
regrouped _ _ _ _ _ _ _ _ _ _ _ _ = refl

object_fault : (d : Data) (members : Members)
    → spec.fault_in_result (of_object d members) ≡ spec.first_fault_of_object d
object_fault d members =
    let info = get (key_name key.ProfileInfo) d in
    in_order (identifier_of d) _ _ _ (identifier_fault d) (λ x.
    in_order (labels_of d) _ _ _ (labels_fault d) (λ y.
    in_order (name_lists_of d) _ _ _ (name_lists_fault d) (λ z.
    in_order (terms_of d) _ _ None (terms_fault d) (λ w. refl))))
    ∙ regrouped _ _ (wrong d key.BagInfo) (wrong d key.ManifestsRequired) (wrong d key.ManifestsAllowed)
    (wrong d key.TagManifestsRequired) (wrong d key.TagManifestsAllowed)
    (wrong d key.TagFilesRequired) (wrong d key.TagFilesAllowed) (wrong d key.AllowFetch)
    (wrong d key.AcceptBagItVersion) (wrong d key.Serialization)
    ∙ ap (λ o. option_or (spec.needed_fault key.ProfileInfo info)
    (option_or (spec.needed_fault key.ProfileIdentifier
    (option_and_then (get (key_name key.ProfileIdentifier)) info)) o))
    (sym (first_wrong d spec.optional_keys))

pub first_fault_is_reported : spec.FirstFaultIsReported
unfolding profile_of
first_fault_is_reported d = grind (arith, object_fault)
