-- What a profile's lists say of a name, where they are there and where they aren't.
use Rattle.bag_report.proofs.Conforming.{arith, ◌≡◌, ◌↔◌, ℕ, List, [], length, Bool, true, false, not, Option, None}
use Rattle.bag_report.proofs.Conforming.{Some, Result, refl, ap, sym, ◌∙◌, Contains, IsTrue, MatchOption, Bor, is_some}
use Rattle.bag_report.proofs.Conforming.{is_ok, list_any, IsBinarySearchResult, IsSearchInRange, IsStrictlySortedBy}
use Rattle.bag_report.proofs.Conforming.{map-id, is_payload_path, text_cmp, contains_nothing, any_from, from_any}
use Rattle.bag_report.proofs.Conforming.{is_alg_text, manifest_name, tag_path, Kind, Payload, Tag, matches, Profile}
use Rattle.bag_report.proofs.Conforming.{names, ListRule, found, Lists, Excludes, MatchesNone, IsFreeTagFile}
use Rattle.std.specs.Prelude.{◌≢◌}
use Rattle.std.proofs.lemmas.Bool.{both_ways, false_from_ne_true}
use Rattle.std.proofs.lemmas.Option.{none-some}
use Rattle.bag_read.specs.declared.tag_name.TagName.{TagName}
use Rattle.bag_read.specs.declared.tag_name.TagName.TheVariants as tag_name
use Rattle.bag_read.proofs.TagPaths.{name_is_text}

-- a search tells whether a name is among ascending ones
pub name_found : (texts : List (List ℕ)) (text : List ℕ) (r : Result ℕ ℕ) (b : Bool) → b ≡ is_ok r
    → IsStrictlySortedBy text_cmp texts → IsSearchInRange r (length texts)
    → IsBinarySearchResult (λ y. text_cmp y text) texts r → IsTrue b ↔ Contains texts text
name_found texts text r b ok up within at = rw ok (rw (map-id texts) at (found (λ y. y) texts [] text r up within at))

module _ (profile : Profile) (rule : ListRule) where
  pub lists_some : (some : List (List ℕ)) → Some some ≡ names profile rule → (text : List ℕ)
      → Contains some text ↔ Lists profile rule text
  lists_some some e text = grind arith

  pub lists_none : (some : List (List ℕ)) → some ≡ [] → None ≡ names profile rule → (text : List ℕ)
      → Contains some text ↔ Lists profile rule text
  lists_none some empty e text = grind (arith, contains_nothing)

  pub excludes_some : (some : List (List ℕ)) → Some some ≡ names profile rule → (text : List ℕ) (b : Bool)
      → IsTrue b ↔ Contains some text → IsTrue (not b) ↔ Excludes profile rule text
  excludes_some some e text b tells = grind arith

  pub excludes_none : None ≡ names profile rule → (text : List ℕ) → IsTrue false ↔ Excludes profile rule text
  excludes_none e text = (λ no. cc, λ h. absurd (none-some h.0 (e ∙ h.1)))

  pub matches_none_some : (some : List (List ℕ)) → Some some ≡ names profile rule → (text : List ℕ) (b : Bool)
      → b ≡ list_any (λ p. matches p text) some → IsTrue (not b) ↔ MatchesNone profile rule text
  matches_none_some some e text true tells = grind (arith, from_any)
  matches_none_some some e text false tells = (
    λ yes. (
      some,
      sym e,
      λ p c. false_from_ne_true _ (λ m. both_ways _ (sym tells) (any_from (λ q. matches q text) some p c m)),
    ),
    λ h.
        refl,
  )

  pub matches_none_none : None ≡ names profile rule → (text : List ℕ) → IsTrue false ↔ MatchesNone profile rule text
  matches_none_none e text = (λ no. cc, λ h. absurd (none-some h.0 (e ∙ h.1)))

-- which tag files other rules don't speak of
module _ (path : List ℕ) where
  abbrev pub NoManifest : Kind → Type 0
  NoManifest kind = (alg : List ℕ) → IsTrue (is_alg_text alg) → path ≢ manifest_name kind alg

  abbrev pub NoTag : Type 0
  NoTag = (tag : TagName) → tag_path tag ≢ path

  pub free_from : is_payload_path path ≡ false → NoTag → NoManifest Payload → NoManifest Tag → IsFreeTagFile path
  free_from outside at p t = record {
    outside_payload = outside;
    no_declaration = λ e. at tag_name.Declaration (sym e);
    no_info = λ e. at tag_name.Info (sym e);
    no_fetch = λ e. at tag_name.Fetch (sym e);
    no_manifest = elim [ Payload ↦ p | Tag ↦ t ];
  }

  abbrev AtTag : Option TagName → Type 0
  AtTag o = MatchOption o NoTag (λ tag. tag_path tag ≡ path)

  pub none_at : (o : Option TagName) (b : Bool) → AtTag o → is_some o ≡ not b → b ≡ true → NoTag
  none_at None b at e is = at
  none_at (Some tag) b at e is = let clash : true ≡ false = e ∙ ap not is in cc

  pub at_none : (o : Option TagName) (b : Bool) → AtTag o → is_some o ≡ not b → IsFreeTagFile path → b ≡ true
  at_none None true at e free = refl
  at_none None false at e free = cc
  at_none (Some tag) b at e free = grind (arith, name_is_text)

  abbrev OfManifest : Kind → Option (Bor (List ℕ)) → Type 0
  OfManifest kind o =
      MatchOption o (NoManifest kind) (λ alg. IsTrue (is_alg_text alg.now) × (path ≡ manifest_name kind alg.now))

  pub none_named : (kind : Kind) (o : Option (Bor (List ℕ))) (b : Bool) → OfManifest kind o → is_some o ≡ not b
      → b ≡ true → NoManifest kind
  none_named kind None b of e is = of
  none_named kind (Some alg) b of e is = let clash : true ≡ false = e ∙ ap not is in cc

  pub named_none : (kind : Kind) (o : Option (Bor (List ℕ))) (b : Bool) → OfManifest kind o → is_some o ≡ not b
      → IsFreeTagFile path → b ≡ true
  named_none kind None true of e free = refl
  named_none kind None false of e free = cc
  named_none kind (Some alg) b of e free = absurd (free.no_manifest kind alg.now of.0 of.1)
