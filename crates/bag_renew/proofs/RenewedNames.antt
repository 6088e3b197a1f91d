-- The manifests of the renewed bag name what it holds.
use Rattle.bag_renew.proofs.Common.{◌≡◌, ◌≢◌, ◌&&◌, ◌⊎◌, ◌++◌, ◌∷◌, ◌∙◌, inl, inr, ℕ, Bool, true, false, not, cond}
use Rattle.bag_renew.proofs.Common.{List, Option}
use Rattle.bag_renew.proofs.Common.{[], None, Some, is_some, refl, ap, sym, subst, Contains, and_from, and_parts}
use Rattle.bag_renew.proofs.Common.{false≢true, entries_sorted, find, get-entries, get-from_entries}
use Rattle.bag_renew.proofs.Common.{nat_list_cmp_total, exact_texts, contains_back, contains_behind, contains_cases}
use Rattle.bag_renew.proofs.Common.{contains_mapped}
use Rattle.bag_renew.proofs.Common.{contains_either, contains_first, contains_nothing, contains_front, name_is_text}
use Rattle.bag_renew.proofs.Common.{text_cmp, is_path}
use Rattle.bag_renew.proofs.Common.{is_payload_path, is_manifest_name, manifest_name, tag_path, Kind, Payload, Tag}
use Rattle.bag_renew.proofs.Common.{TagName, Declaration, Info, Fetch, Manifest, Alg, name, in_base, paths_differ, Bag}
use Rattle.bag_renew.proofs.Common.{IsBag, file, files_of, payload, File, manifest_by, stays, declaration_file}
use Rattle.bag_renew.proofs.Common.{info_files, new_algs, new_elements, with_path, writes_info, kept_or, kept_tag_files}
use Rattle.bag_renew.proofs.Common.{named_tag_files, payload_manifest, is_kept, is_new_alg, from_any}
use Rattle.bag_renew.proofs.Common.{payload_manifests, HasKnownManifests, Renewal}
use Rattle.std.specs.FinMap as fin
use Rattle.std.specs.FinMap.Entries.{find-where_key, is_sorted-where_key, same_entries}
use Rattle.std.proofs.Common.{IsUtf8}
use Rattle.std.proofs.lemmas.Str.{IsUtf8-from_is_utf8}
use Rattle.bag_text.specs.Lines.{lines_of_file}
use Rattle.bag_text.specs.Rules.{rules_of}
use Rattle.bag_text.specs.declared.rules.Rules.{Rules}
use Rattle.bag_text.specs.declared.rules.Rules.TheVariants.{V10, V097}
use Rattle.bag_read.proofs.ManifestName.{named_is}
use Rattle.bag_read.specs.Manifest.{named}
use Rattle.bag_facts.proofs.Mapped.{kept, passed}
use Rattle.bag_facts.specs.Facts.{rules_in}
use Rattle.bag_stages.proofs.LeftOut.{left_out_by, not_both, some_member}
use Rattle.bag_stages.proofs.PartFaults.{one_alg}
use Rattle.bag_stages.specs.LeftOut.{IsLeftOut, IsLeftOutByOne, IsNamedBySome}
use Rattle.bag_stages.specs.TagFiles.{HasSupported, Names, lines_or_none}
use Rattle.bag_tags.proofs.DeclarationReadAgain.{declaration_again}
use Rattle.bag_tags.specs.Declaration.{declaration_text}
use Rattle.bag_tags.specs.OnLines.{text_on_lines}
use Rattle.bag_tags.specs.Writable.{is_unnameable}
use Rattle.bag_changes.specs.Contents.{IsNew, IsNewText, Stands}
use Rattle.bag_renewed.specs.Renewed.{is_kept_alg, new_rules, renewed, writes_payload_manifest}
use Rattle.bag_changes.specs.Telling.{AreNameable, ArePaths, AreStillListed, GivesDigests, IsManifestOf, IsNamedByKept}
use Rattle.bag_changes.specs.Telling.{IsToBeNamed, IsWrittenAnew, NamesAll, NamesFiles, NamesItsFiles, NamesItsPayload}
use Rattle.bag_changes.specs.Telling.{NewManifestsGiveDigests, RenewedNames, is_to_name, to_name}
use Rattle.bag_changes.proofs.AlgsWhere.{alg_in, passes}
use Rattle.bag_changes.proofs.Contents.{one_stands, these_files}
use Rattle.bag_facts.proofs.Found.{content_of, found, found_alone, held_at, listed, same_option}
use Rattle.bag_changes.proofs.KeptOr.{kept_or_written, kept_rules}
use Rattle.bag_changes.proofs.Members.{declaration_new, info_listed, info_new, payload_listed, payload_new}
use Rattle.bag_renew.proofs.NewRules.{by_content, of_written, still_v10}
use Rattle.bag_changes.proofs.Staying.{IsWritten, no_payload_tag, stays_so, written_goes}
use Rattle.bag_renew.proofs.TagNames.{IsNamed, named_so, no_manifest_name, tag_nameable, tag_text}
use Rattle.bag_renew.proofs.WrittenTells.{tells}

second_false : (a b : Bool) → a ≡ true → not (a && b) ≡ true → b ≡ false
second_false true true is isnt = cc
second_false true false is isnt = refl
second_false false b is isnt = cc

module _ (bag : Bag) (renewal : Renewal) where
  abbrev now : Bag
  now = renewed bag renewal

  stands : (q c : List ℕ) → file now q ≡ Some c → Stands bag renewal q c
  stands q c at = (these_files bag renewal q c).0 at

  is_there : (q c : List ℕ) → Stands bag renewal q c → file now q ≡ Some c
  is_there q c h = (these_files bag renewal q c).1 h

  -- ---- what payload manifests are to name

  pub same_file : (q : List ℕ) → is_payload_path q ≡ true → file now q ≡ file bag q
  same_file q is = same_option (file now q) (file bag q) (λ c at. elim (stands q c at) [
    | inl old ↦ old.0
    | inr new ↦ absurd (no_payload_tag new.0 (ap is_payload_path (sym new.1) ∙ is))
  ]) (λ c at. is_there q c (inl (at, inl is)))

  in_payload : (b : Bag) (q : List ℕ) → find text_cmp q (payload b) ≡ cond (is_payload_path q) (file b q) None
  in_payload b q =
      find-where_key text_cmp is_payload_path q (λ x e. ap is_payload_path (sym (exact_texts q x e))) (files_of b)
      ∙ ap (λ o. cond (is_payload_path q) o None) (sym (get-entries b.files q))

  by_test : (q : List ℕ) (t : Bool) → is_payload_path q ≡ t → cond t (file now q) None ≡ cond t (file bag q) None
  by_test q true of_it = same_file q of_it
  by_test q false other = refl

  pub same_payload : payload now ≡ payload bag
  same_payload =
      same_entries text_cmp nat_list_cmp_total exact_texts (payload now) (payload bag)
      (is_sorted-where_key text_cmp is_payload_path (files_of now) (entries_sorted now.files))
      (is_sorted-where_key text_cmp is_payload_path (files_of bag) (entries_sorted bag.files))
      (λ q. in_payload now q ∙ by_test q (is_payload_path q) refl ∙ sym (in_payload bag q))

  -- ---- and tag manifests

  -- the metadata and the payload manifests
  abbrev others : List File
  others = info_files bag renewal ++ payload_manifests bag renewal

  abbrev some : List File
  some = kept_tag_files bag ++ (declaration_file bag renewal ∷ others)

  old_kept : (q c : List ℕ) → Contains (kept_tag_files bag) (q, c) → (stays q ≡ true) × (file bag q ≡ Some c)
  old_kept q c h =
      let k = kept (λ (e : File). stays e.0) (files_of bag) (q, c) h in (k.0, held_at bag.files q c k.1)

  abbrev MayBeNamed : List ℕ → List ℕ → Type 0
  MayBeNamed q c = (is_to_name Tag q ≡ true) × Stands bag renewal q c

  stays_named : (q : List ℕ) → stays q ≡ true → is_to_name Tag q ≡ true
  stays_named q is =
      let s = stays_so q is in
      and_from (not (is_payload_path q)) (not (is_manifest_name Tag q)) s.outside s.tag_manifest

  named_by : (q c : List ℕ) (tag : TagName) → IsNamed tag → (q ≡ tag_path tag) → IsNew bag renewal q c
      → MayBeNamed q c
  named_by q c tag named path new = (ap (is_to_name Tag) path ∙ named_so tag named, inr new)

  only_path : (q c only : List ℕ) → Contains {X = File} ((tag_path Info, only) ∷ []) (q, c) → q ≡ tag_path Info
  only_path q c only h = elim (contains_cases {A = File} (tag_path Info, only) [] (q, c) h) [
    | inl e ↦ sym (ap (λ (y : File). y.0) e)
    | inr none ↦ absurd (contains_nothing {A = File} (q, c) none)
  ]

  info_path : (written : Bool) (there : Option (List ℕ)) (text q c : List ℕ)
      → Contains (cond written ((tag_path Info, text) ∷ []) (with_path (tag_path Info) there)) (q, c)
      → q ≡ tag_path Info
  info_path true there text q c h = only_path q c text h
  info_path false None text q c h = absurd (contains_nothing {A = File} (q, c) h)
  info_path false (Some old) text q c h = only_path q c old h

  from_info : (q c : List ℕ) → Contains (info_files bag renewal) (q, c) → MayBeNamed q c
  from_info q c h =
      named_by q c Info tt
      (info_path (writes_info bag renewal) (file bag (tag_path Info)) (text_on_lines (new_elements bag renewal)) q c h)
      (info_new bag renewal q c h)

  from_manifest : (q c : List ℕ) → Contains (payload_manifests bag renewal) (q, c) → MayBeNamed q c
  from_manifest q c h =
      let m = contains_mapped {B = File} (payload_manifest bag renewal) (new_algs bag renewal) (q, c) h in
      named_by q c (Manifest Payload m.0) tt (sym (ap (λ (y : File). y.0) m.2)) (payload_new bag renewal q c h)

  from_some : (q c : List ℕ) → Contains some (q, c) → MayBeNamed q c
  from_some q c h = elim (contains_either (kept_tag_files bag) (declaration_file bag renewal ∷ others) (q, c) h) [
    | inl k ↦ let old = old_kept q c k in (stays_named q old.0, inl (old.1, inr old.0))
    | inr l ↦ elim (contains_cases (declaration_file bag renewal) others (q, c) l) [
      | inl e ↦ named_by q c Declaration tt (sym (ap (λ (y : File). y.0) e)) (declaration_new bag renewal q c e)
      | inr o ↦ elim (contains_either (info_files bag renewal) (payload_manifests bag renewal) (q, c) o)
          [ inl i ↦ from_info q c i | inr m ↦ from_manifest q c m ]
    ]
  ]

  among_others : (e : File) → Contains others e → Contains some e
  among_others e h =
      contains_back (kept_tag_files bag) (declaration_file bag renewal ∷ others) e
      (contains_behind (declaration_file bag renewal) others e h)

  new_in : (tag : TagName) (c : List ℕ) → IsNewText bag renewal tag c → is_to_name Tag (tag_path tag) ≡ true
      → Contains some (tag_path tag, c)
  new_in Declaration c text is =
      subst (λ t. Contains some (tag_path Declaration, t)) (sym text)
      (contains_back (kept_tag_files bag) (declaration_file bag renewal ∷ others) (declaration_file bag renewal)
      (contains_first (declaration_file bag renewal) others))
  new_in Info c text is =
      among_others (tag_path Info, c)
      (contains_front (info_files bag renewal) (payload_manifests bag renewal) (tag_path Info, c)
      (info_listed bag renewal c text))
  new_in Fetch c text is = absurd text
  new_in (Manifest Payload alg) c text is =
      let one : File = payload_manifest bag renewal alg in
      subst (λ t. Contains some (tag_path (Manifest Payload alg), t)) (sym text.1)
      (among_others one
      (contains_back (info_files bag renewal) (payload_manifests bag renewal) one
      (payload_listed bag renewal alg text.0)))
  new_in (Manifest Tag alg) c text is =
      let path = tag_path (Manifest Tag alg) in
      absurd (false≢true (sym (ap not (named_is Tag path (name alg) (name_is_text alg, refl)))
      ∙ (and_parts (not (is_payload_path path)) (not (is_manifest_name Tag path)) is).1))

  to_some : (q c : List ℕ) → is_to_name Tag q ≡ true → Stands bag renewal q c → Contains some (q, c)
  to_some q c is (inl (at, inl of_payload)) =
      absurd (false≢true (sym (ap not of_payload)
      ∙ (and_parts (not (is_payload_path q)) (not (is_manifest_name Tag q)) is).0))
  to_some q c is (inl (at, inr stays_there)) =
      contains_front (kept_tag_files bag) (declaration_file bag renewal ∷ others) (q, c)
      (passed (λ (e : File). stays e.0) (files_of bag) (q, c) stays_there (listed bag.files q c at))
  to_some q c is (inr (tag, path, text)) =
      subst (λ p. Contains some (p, c)) (sym path) (new_in tag c text (ap (is_to_name Tag) (sym path) ∙ is))

  found_in : (q c : List ℕ) → is_to_name Tag q ≡ true → file now q ≡ Some c → find text_cmp q some ≡ Some c
  found_in q c is at =
      found_alone q c some (to_some q c is (stands q c at)) (λ d e.
      one_stands bag renewal q d c (from_some q d (found q d some e)).1 (stands q c at))

  cond_some : (t : Bool) (o : Option (List ℕ)) (c : List ℕ) → cond t o None ≡ Some c → (t ≡ true) × (o ≡ Some c)
  cond_some true o c at = (refl, at)
  cond_some false o c at = absurd (false≢true (ap is_some at))

  named_alike : (q : List ℕ) → find text_cmp q (to_name now Tag) ≡ find text_cmp q (named_tag_files bag renewal)
  named_alike q =
      find-where_key text_cmp (is_to_name Tag) q (λ x e. ap (is_to_name Tag) (sym (exact_texts q x e))) (files_of now)
      ∙ ap (λ o. cond (is_to_name Tag q) o None) (sym (get-entries now.files q))
      ∙ same_option (cond (is_to_name Tag q) (file now q) None) (find text_cmp q some)
      (λ c at. let two = cond_some (is_to_name Tag q) (file now q) c at in found_in q c two.0 two.1)
      (λ c at.
      let named = from_some q c (found q c some at) in
      ap (λ t. cond t (file now q) None) named.0 ∙ is_there q c named.1)
      ∙ sym (sym (get-entries (fin.from_entries {R = text_cmp} some) q) ∙ get-from_entries nat_list_cmp_total some q)

  pub same_named : to_name now Tag ≡ named_tag_files bag renewal
  same_named =
      same_entries text_cmp nat_list_cmp_total exact_texts (to_name now Tag) (named_tag_files bag renewal)
      (is_sorted-where_key text_cmp (is_to_name Tag) (files_of now) (entries_sorted now.files))
      (entries_sorted (fin.from_entries {R = text_cmp} some)) named_alike

  -- ---- the text of a tag file whose name a renewal writes

  pub new_text : (tag : TagName) (c : List ℕ) → IsWritten tag → file now (tag_path tag) ≡ Some c
      → IsNewText bag renewal tag c
  new_text tag c written at = elim (stands (tag_path tag) c at) [
    | inl old ↦ elim old.1 [
      | inl is ↦ absurd (no_payload_tag tag is)
      | inr is ↦ absurd (written_goes tag written is)
    ]
    | inr new ↦ subst (λ t. IsNewText bag renewal t c) (paths_differ new.0 tag (sym new.1)) new.2
  ]

  -- the declaration is the old one, or that of 1.0
  pub declared : file now (tag_path Declaration)
      ≡ Some (kept_or bag renewal (tag_path Declaration) declaration_text)
  declared =
      is_there (tag_path Declaration) (kept_or bag renewal (tag_path Declaration) declaration_text)
      (inr (Declaration, refl, refl))

  pub by_new_rules : rules_in now ≡ new_rules bag renewal
  by_new_rules = elim (kept_or_written bag renewal (tag_path Declaration) declaration_text) [
    | inl old ↦ by_content now (file bag (tag_path Declaration)) (declared ∙ sym old.1)
        ∙ sym (by_content bag (file bag (tag_path Declaration)) refl)
        ∙ sym (kept_rules bag renewal (tag_path Declaration) old.0)
    | inr new ↦ by_content now (Some declaration_text) (declared ∙ ap Some new.1) ∙ ap rules_of declaration_again.0
        ∙ sym (of_written bag renewal new.0)
  ]

  known : HasKnownManifests bag → HasKnownManifests now
  known old kind alg has =
      let c = content_of (file now (manifest_name kind alg)) has.1 in
      elim (stands (manifest_name kind alg) c.0 c.1) [
        | inl stayed ↦ old kind alg (has.0, ap is_some stayed.0)
        | inr new ↦ by_tag new.0 c.0 new.2 (sym new.1)
      ]
    where
      by_tag : (tag : TagName) (c : List ℕ) → IsNewText bag renewal tag c → tag_path tag ≡ manifest_name kind alg
          → (a : Alg) × (alg ≡ name a)
      by_tag (Manifest k a) c text same = (a, sym (one_alg k kind (name a) alg same))
      by_tag Declaration c text same = absurd (no_manifest_name Declaration tt kind alg same)
      by_tag Info c text same = absurd (no_manifest_name Info tt kind alg same)
      by_tag Fetch c text same = absurd text

  -- ---- what the manifests say

  same_to_be_named : (path : List ℕ) → IsToBeNamed bag Payload path → IsToBeNamed now Payload path
  same_to_be_named path is = (ap is_some (same_file path is.1) ∙ is.0, is.1)

  was_to_be_named : (path : List ℕ) → IsToBeNamed now Payload path → IsToBeNamed bag Payload path
  was_to_be_named path is = (sym (ap is_some (same_file path is.1)) ∙ is.0, is.1)

  -- a payload manifest that is kept names what it named, which is as it was
  carried : (rules : Rules) (alg : Alg) (text : List ℕ) → NamesFiles rules bag Payload alg text
      → NamesFiles rules now Payload alg text
  carried rules alg text names = record {
    no_fault = names.no_fault;
    there = λ path h. same_to_be_named path (names.there path h);
  }

  carried_all : (rules : Rules) (alg : Alg) (text : List ℕ) → NamesAll rules bag Payload alg text
      → NamesAll rules now Payload alg text
  carried_all rules alg text names = record {
    no_fault = names.no_fault;
    paths = λ path. (
      λ h. same_to_be_named path ((names.paths path).0 h),
      λ is. (names.paths path).1 (was_to_be_named path is),
    );
  }

  -- what names all names files alone
  names_some : (rules : Rules) (kind : Kind) (alg : Alg) (text : List ℕ) → NamesAll rules now kind alg text
      → NamesFiles rules now kind alg text
  names_some rules kind alg text names = record {
    no_fault = names.no_fault;
    there = λ path h. (names.paths path).0 h;
  }

  -- a manifest that is written is that of what it is to name
  says : (kind : Kind) (alg : Alg) (text : List ℕ) → IsWrittenAnew bag renewal kind alg
      → file now (tag_path (Manifest kind alg)) ≡ Some text
      → IsManifestOf (new_rules bag renewal) now kind alg text
  says Payload alg text anew at =
      let new = manifest_by (new_rules bag renewal) alg (payload bag) in
      elim (kept_or_written bag renewal (tag_path (Manifest Payload alg)) new) [
        | inl old ↦ absurd (false≢true (sym anew ∙ old.0))
        | inr new ↦ (new_text (Manifest Payload alg) text tt at).1 ∙ new.1
            ∙ ap (manifest_by (new_rules bag renewal) alg) (sym same_payload)
      ]
  says Tag alg text anew at =
      (new_text (Manifest Tag alg) text tt at).1 ∙ ap (manifest_by (new_rules bag renewal) alg) (sym same_named)

  -- a payload manifest of the renewed bag is the old one, or written anew
  module _ (alg : Alg) (text : List ℕ) (at : file now (tag_path (Manifest Payload alg)) ≡ Some text) where
    abbrev IsOldOne : Type 0
    IsOldOne =
        (is_kept bag renewal (tag_path (Manifest Payload alg)) ≡ true)
        × (file bag (tag_path (Manifest Payload alg)) ≡ Some text)

    pub old_or_anew : IsOldOne ⊎ IsWrittenAnew bag renewal Payload alg
    old_or_anew =
        let new = manifest_by (new_rules bag renewal) alg (payload bag) in
        elim (kept_or_written bag renewal (tag_path (Manifest Payload alg)) new) [
          | inl was ↦ inl (was.0, was.1 ∙ ap Some (sym (new_text (Manifest Payload alg) text tt at).1))
          | inr anew ↦ inr anew.0
        ]

  -- a payload manifest of an algorithm that is kept is the old one
  pub same_manifest : (alg : Alg) → is_kept_alg bag renewal alg ≡ true
      → file now (tag_path (Manifest Payload alg)) ≡ file bag (tag_path (Manifest Payload alg))
  same_manifest alg is =
      let path = tag_path (Manifest Payload alg) in
      let new = manifest_by (new_rules bag renewal) alg (payload bag) in
      let two = and_parts (is_new_alg bag renewal alg) (is_kept bag renewal path) is in
      elim (kept_or_written bag renewal path new) [
        | inl was ↦ is_there path (kept_or bag renewal path new)
            (inr (Manifest Payload alg, refl, (alg_in (is_new_alg bag renewal) alg two.0, refl)))
            ∙ sym was.1
        | inr anew ↦ absurd (false≢true (sym anew.0 ∙ two.1))
      ]

  -- some payload manifest is there, as long as an algorithm is left
  pub one_manifest : new_algs bag renewal ≢ [] → (alg : Alg) × HasSupported now Payload alg
  one_manifest some =
      let m = some_member (new_algs bag renewal) some in
      let text = (payload_manifest bag renewal m.0).1 in (
        m.0,
        ap is_some (is_there (tag_path (Manifest Payload m.0)) text (inr (Manifest Payload m.0, refl, (m.1, refl)))),
      )

  module _ (is : IsBag bag) (nameable : AreNameable (new_rules bag renewal) bag) where
    are_paths : ArePaths now
    are_paths q has =
        let c = content_of (file now q) has in
        elim (stands q c.0 c.1) [
          | inl stayed ↦ is.paths q (ap is_some stayed.0)
          | inr new ↦ (
            ap is_path new.1 ∙ (and_parts (is_path (tag_path new.0)) _ (in_base new.0)).0,
            subst IsUtf8 (sym new.1) (IsUtf8-from_is_utf8 (tag_path new.0) (tag_text new.0)),
          )
        ]

    pub are_nameable : AreNameable (new_rules bag renewal) now
    are_nameable q has =
        let c = content_of (file now q) has in
        elim (stands q c.0 c.1) [
          | inl stayed ↦ nameable q (ap is_some stayed.0)
          | inr new ↦ ap (is_unnameable (new_rules bag renewal)) new.1
              ∙ tag_nameable (new_rules bag renewal) new.0
        ]

    written : (kind : Kind) (alg : Alg) (text : List ℕ) → IsWrittenAnew bag renewal kind alg
        → file now (tag_path (Manifest kind alg)) ≡ Some text
        → NamesAll (new_rules bag renewal) now kind alg text
        × GivesDigests (new_rules bag renewal) now kind alg text
    written kind alg text anew at =
        tells (new_rules bag renewal) now kind alg are_paths are_nameable text (says kind alg text anew at)

    pub give_digests : NewManifestsGiveDigests bag renewal
    give_digests kind alg text anew at = (written kind alg text anew at).1

    module _ (old : NamesItsPayload bag) where
      told : (kind : Kind) (alg : Alg) (text : List ℕ) → file now (tag_path (Manifest kind alg)) ≡ Some text
          → NamesFiles (new_rules bag renewal) now kind alg text
      told Tag alg text at = names_some (new_rules bag renewal) Tag alg text (written Tag alg text tt at).0
      told Payload alg text at = elim (old_or_anew alg text at) [
        | inl was ↦ subst (λ rules. NamesFiles rules now Payload alg text)
            (sym (kept_rules bag renewal (tag_path (Manifest Payload alg)) was.0))
            (carried (rules_in bag) alg text (old.told alg text was.1))
        | inr anew ↦ names_some (new_rules bag renewal) Payload alg text (written Payload alg text anew at).0
      ]

      -- by the rules of 1.0 each payload manifest names the whole payload
      all_told : new_rules bag renewal ≡ V10 → (alg : Alg) (text : List ℕ)
          → file now (tag_path (Manifest Payload alg)) ≡ Some text → NamesAll V10 now Payload alg text
      all_told v10 alg text at = elim (old_or_anew alg text at) [
        | inl was ↦ carried_all V10 alg text
            (old.all_by_v10 (sym (kept_rules bag renewal (tag_path (Manifest Payload alg)) was.0) ∙ v10) alg text was.1)
        | inr anew ↦ subst (λ rules. NamesAll rules now Payload alg text) v10 (written Payload alg text anew at).0
      ]

      -- a manifest that is there and names all names the path
      by_text : (alg : Alg) (text path : List ℕ) → file now (tag_path (Manifest Payload alg)) ≡ Some text
          → NamesAll (new_rules bag renewal) now Payload alg text → IsToBeNamed now Payload path
          → Names now Payload alg path
      by_text alg text path at all is =
          subst (λ o. Contains (named (rules_in now) Payload alg (lines_or_none o)) path) (sym at)
          (subst (λ rules. Contains (named rules Payload alg (lines_of_file text)) path) (sym by_new_rules)
          ((all.paths path).1 is))

      by_one : new_rules bag renewal ≡ V10 → (alg : Alg) (path : List ℕ) → IsToBeNamed now Payload path
          → IsLeftOutByOne now alg path → ⊥
      by_one v10 alg path is (has, unnamed) =
          let t = content_of (file now (tag_path (Manifest Payload alg))) has in
          unnamed (by_text alg t.0 path t.1
          (subst (λ rules. NamesAll rules now Payload alg t.0) (sym v10) (all_told v10 alg t.0 t.1)) is)

      -- one that is written names it
      by_written : (path : List ℕ) → writes_payload_manifest bag renewal ≡ true → IsToBeNamed now Payload path
          → IsNamedBySome now path
      by_written path writes is =
          let m = from_any (λ alg. not (is_kept_alg bag renewal alg)) (new_algs bag renewal) writes in
          let new = (payload_manifest bag renewal m.0).1 in
          let at = is_there (tag_path (Manifest Payload m.0)) new (inr (Manifest Payload m.0, refl, (m.1, refl))) in
          let path_of = tag_path (Manifest Payload m.0) in
          let anew =
          second_false (is_new_alg bag renewal m.0) (is_kept bag renewal path_of)
          (passes (is_new_alg bag renewal) m.0 m.1) m.2 in
          (m.0, by_text m.0 new path at (written Payload m.0 new anew at).0 is)

      -- one that is kept names it still
      by_kept : (path : List ℕ) → IsNamedByKept bag renewal path → IsNamedBySome now path
      by_kept path (alg, kept, names) =
          let manifest_path = tag_path (Manifest Payload alg) in
          let of_it = (and_parts (is_new_alg bag renewal alg) (is_kept bag renewal manifest_path) kept).1 in (
            alg,
            subst (λ o. Contains (named (rules_in now) Payload alg (lines_or_none o)) path)
                (sym (same_manifest alg kept))
                (subst (λ rules. Contains (named rules Payload alg (lines_or_none (file bag manifest_path))) path)
                (sym (by_new_rules ∙ kept_rules bag renewal manifest_path of_it)) names),
          )

      module _ (still : AreStillListed bag renewal) where
        by_some : new_rules bag renewal ≡ V097 → (path : List ℕ) → IsToBeNamed now Payload path
            → IsNamedBySome now path
        by_some v097 path is = elim still [
          | inl v10 ↦ absurd (not_both (new_rules bag renewal) (still_v10 bag renewal v10) v097)
          | inr more ↦ elim more [
            | inl writes ↦ by_written path writes is
            | inr kept ↦ by_kept path (kept path (was_to_be_named path is))
          ]
        ]

        none_left_out : (alg : Option Alg) (path : List ℕ) → IsToBeNamed now Payload path
            → ¬ (IsLeftOut (rules_in now) now alg path)
        none_left_out alg path is out = elim (left_out_by now path (rules_in now) alg out) [
          | inl one ↦ by_one (sym by_new_rules ∙ one.0) one.1.0 path is one.1.2
          | inr all ↦ all.2.1 (by_some (sym by_new_rules ∙ all.0) path is)
        ]

        pub names_files : HasKnownManifests bag → NamesItsFiles now
        names_files are_known = record {
          known = known are_known;
          told = λ kind alg text at.
              subst (λ rules. NamesFiles rules now kind alg text) (sym by_new_rules) (told kind alg text at);
          all_tags = λ alg text at.
              subst (λ rules. NamesAll rules now Tag alg text) (sym by_new_rules) (written Tag alg text tt at).0;
          listed = none_left_out;
        }

pub renewed_names : RenewedNames
renewed_names bag renewal is are_known nameable old still = (
  names_files bag renewal is nameable old still are_known,
  by_new_rules bag renewal,
  give_digests bag renewal is nameable,
  same_payload bag renewal,
)
