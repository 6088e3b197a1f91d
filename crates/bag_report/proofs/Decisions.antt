-- What can be decided of a bag and a profile.
use Rattle.bag_report.proofs.Conforming.{◌≡◌, ◌≢◌, inl, inr, ℕ, List, true, false, Option, None, Some, refl, sym}
use Rattle.bag_report.proofs.Conforming.{subst, arith, Contains, list_any, bytes_eq-Decides, is_payload_path, any_from}
use Rattle.bag_report.proofs.Conforming.{from_any, manifest_name, is_alg_text, is_manifest_name, tag_path, Kind}
use Rattle.bag_report.proofs.Conforming.{Payload, Tag, Bag, matches, Profile, names, ListRule, HasList}
use Rattle.bag_report.proofs.Conforming.{HasManifest, Decided, nothing, only, same_set, for_each, one_where}
use Rattle.bag_report.proofs.Conforming.{true_or_not, false_or_not, both_decided, missing_or_not, Lists, Excludes}
use Rattle.bag_report.proofs.Conforming.{MatchesNone, IsFreeTagFile}
use Rattle.std.proofs.Common.{bytes_eq}
use Rattle.std.proofs.lemmas.Bool.{both_ways, false_from_ne_true}
use Rattle.std.proofs.lemmas.Option.{none-some, same_Some}
use Rattle.bag_read.specs.declared.tag_name.TagName.TheVariants.{Declaration, Info, Fetch}
use Rattle.bag_read.proofs.ManifestName.{named_is, named_test}
use Rattle.bag_stages.proofs.HasLists.{not_decided, some_decided}

-- the same in other words
decided_as : (D E : Type 0) → (D → E) → (E → D) → Decided D → Decided E
decided_as D E to from (inl d) = inl (to d)
decided_as D E to from (inr not) = inr (λ e. not (from e))

-- those members of a set of which this holds
pub picked : {A : Type 0} (P D : A → Type 0) → ((x : A) → Decided (D x)) → HasList P → HasList (λ x. P x × D x)
picked P D decided p =
    same_set _ _
    (λ x h. (subst P (sym h.2.1) h.1, subst D (sym h.2.1) h.2.0))
    (λ x h. (x, h.0, (h.1, refl)))
    (for_each (λ y x. D y × (x ≡ y)) (λ y. one_where y (D y) (decided y)) P p)

-- the value of an option
pub of_option : {A : Type 0} (o : Option A) → HasList (λ x. o ≡ Some x)
of_option None = nothing _ none-some
of_option (Some y) = only _ y refl (λ x e. same_Some x y (sym e))

pub same_or_not : (a b : List ℕ) → Decided (a ≡ b)
same_or_not a b = grind (arith, bytes_eq-Decides a b, true_or_not (bytes_eq a b), decided_as)

module _ (kind : Kind) (path : List ℕ) where
  -- the path is no manifest's of this kind
  no_manifest_or_one : Decided ((alg : List ℕ) → is_alg_text alg ≡ true → path ≢ manifest_name kind alg)
  no_manifest_or_one =
      decided_as (is_manifest_name kind path ≡ false) _
      (λ e alg good at. both_ways (is_manifest_name kind path) e (named_is kind path alg (good, at)))
      (λ h. named_test kind path (is_manifest_name kind path) refl h)
      (false_or_not (is_manifest_name kind path))

-- a tag file of which other rules don't speak
pub free_or_not : (path : List ℕ) → Decided (IsFreeTagFile path)
free_or_not path =
    decided_as _ (IsFreeTagFile path)
    (λ h. let kinds = h.1.1.1.1 in
    record {
      outside_payload = h.0;
      no_declaration = h.1.0;
      no_info = h.1.1.0;
      no_fetch = h.1.1.1.0;
      no_manifest = elim [ Payload ↦ kinds.0 | Tag ↦ kinds.1 ];
    })
    (λ h. (
      h.outside_payload,
      (h.no_declaration, (h.no_info, (h.no_fetch, (h.no_manifest Payload, h.no_manifest Tag)))),
    ))
    (both_decided _ _ (false_or_not (is_payload_path path))
    (both_decided _ _ (not_decided _ (same_or_not path (tag_path Declaration)))
    (both_decided _ _ (not_decided _ (same_or_not path (tag_path Info)))
    (both_decided _ _ (not_decided _ (same_or_not path (tag_path Fetch)))
    (both_decided _ _ (no_manifest_or_one Payload path) (no_manifest_or_one Tag path))))))

pub manifest_or_not : (bag : Bag) (kind : Kind) (alg : List ℕ) → Decided (HasManifest bag kind alg)
manifest_or_not bag kind alg = grind (arith, both_decided, true_or_not)

module _ (profile : Profile) (rule : ListRule) where
  -- the names of a list
  pub names_listed : HasList (Lists profile rule)
  names_listed =
      for_each (λ listed name. Contains listed name) (λ listed. (listed, λ name. (λ c. c, λ c. c))) (λ listed.
      names profile rule ≡ Some listed)
      (of_option (names profile rule))

  -- what is said of the list, where there is one
  of_list : (Q : List (List ℕ) → Type 0) → ((listed : List (List ℕ)) → Decided (Q listed))
      → Decided ((listed : List (List ℕ)) × (names profile rule ≡ Some listed) × Q listed)
  of_list Q decided =
      decided_as _ _ (λ h. (h.0, h.1.0, h.1.1)) (λ h. (h.0, (h.1, h.2)))
      (some_decided (λ listed. (names profile rule ≡ Some listed) × Q listed)
      (picked (λ listed. names profile rule ≡ Some listed) Q decided (of_option (names profile rule))))

  pub excluded_or_not : (name : List ℕ) → Decided (Excludes profile rule name)
  excluded_or_not name = of_list (λ listed. ¬ (Contains listed name)) (λ listed. missing_or_not listed name)

  pub unmatched_or_not : (name : List ℕ) → Decided (MatchesNone profile rule name)
  unmatched_or_not name =
      of_list (λ patterns. (pattern : List ℕ) → Contains patterns pattern → matches pattern name ≡ false) (λ patterns.
      let test = λ (pattern : List ℕ). matches pattern name in
      decided_as (list_any test patterns ≡ false) _
      (λ none pattern c. false_from_ne_true _ (λ m. both_ways _ none (any_from test patterns pattern c m)))
      (λ h. false_from_ne_true _ (λ m. let at = from_any test patterns m in both_ways _ (h at.0 at.1) at.2))
      (false_or_not (list_any test patterns)))
