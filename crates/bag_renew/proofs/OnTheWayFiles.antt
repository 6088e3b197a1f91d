-- Each file of a bag on the way is that of the bag, or that of the renewed one.
use Rattle.bag_renew.proofs.Common.{◌≡◌, ◌≢◌, ◌⊎◌, ◌∙◌, inl, inr, ℕ, Bool, true, false, List, Option, None, Some}
use Rattle.bag_renew.proofs.Common.{is_some, refl, ap, sym, subst, Contains, and_from, [], false≢true}
use Rattle.bag_renew.proofs.Common.{fold-append, is_payload_path, manifest_name, tag_path, Payload, Tag, TagName}
use Rattle.bag_renew.proofs.Common.{Declaration, Fetch, Info, Alg, name, name_is_text, Bag, HasFile, file, has_file}
use Rattle.bag_renew.proofs.Common.{paths_differ, All-contains, All-from_recursion, FileChange, Put, Remove, after}
use Rattle.bag_renew.proofs.Common.{changes, HasKnownManifests, begun_file, has_member, stays, is_kept, keeps}
use Rattle.bag_renew.proofs.Common.{Renewal}
use Rattle.std.proofs.Common.{take-append-drop}
use Rattle.std.specs.Prelude.{option_and_then}
use Rattle.bag_text.specs.Rules.{rules_of}
use Rattle.bag_text.specs.declared.rules.Rules.{Rules}
use Rattle.bag_text.specs.declared.rules.Rules.TheVariants.{V10, V097}
use Rattle.bag_text.specs.declared.code.Code.TheVariants.{NoDeclaration}
use Rattle.bag_read.proofs.ManifestName.{named_is}
use Rattle.bag_read.specs.Declaration.{declared_version}
use Rattle.bag_read.specs.Manifest.{named}
use Rattle.bag_facts.specs.Facts.{IsByV10, rules_in}
use Rattle.bag_facts.specs.FactsOfBag.{IsByV097}
use Rattle.bag_report.specs.Report.{Is, asks}
use Rattle.bag_stages.specs.DeclarationStage.{DeclarationHolds, IsOfDeclaration}
use Rattle.bag_stages.specs.MetadataStage.{bag_info_txt}
use Rattle.bag_stages.specs.FetchStage.{fetch_txt}
use Rattle.bag_stages.specs.LeftOut.{IsLeftOutByAll}
use Rattle.bag_stages.specs.TagFiles.{Names, bagit_txt, lines_or_none, manifest_of}
use Rattle.bag_tags.specs.Declaration.{declaration_text}
use Rattle.bag_renew.specs.OnTheWay.{CanRenewInPlace}
use Rattle.bag_renewed.specs.Renewed.{renewed}
use Rattle.bag_changes.specs.Telling.{NamesItsFiles}
use Rattle.bag_renew.proofs.AlikeFaults.{AreAlike, alike_by_rules, names_now}
use Rattle.bag_renew.proofs.BetweenFaults.{HasNoPayloadManifest, IsBetween, IsBetweenByV097, IsTagManifestOf}
use Rattle.bag_renew.proofs.BetweenFaults.{IsUnlistedByV097, NoneNamesBegun, named_by}
use Rattle.bag_renew.proofs.ChangedNames.{are_of_files, back, of_changes}
use Rattle.bag_renew.proofs.ChangesRenew.{they_renew}
use Rattle.bag_changes.proofs.Contents.{these_files}
use Rattle.bag_facts.proofs.Found.{content_of}
use Rattle.bag_renew.proofs.InChanges.{open_in, put_in_changes}
use Rattle.bag_changes.proofs.KeptOr.{kept_or_written}
use Rattle.bag_renew.proofs.ManyChanges.{came_from, not_named}
use Rattle.bag_renew.proofs.OldBag.{known, names_its_payload, none, some_manifest}
use Rattle.bag_renew.proofs.OnTheWayChanges.{AllIn, after_put, closing_names, kept_not_removed, dropped_or_not, first_or_later}
use Rattle.bag_renew.proofs.OnTheWayChanges.{in_first, in_opened, left, made, never_lost, not_put, not_removed}
use Rattle.bag_renew.proofs.OnTheWayChanges.{opened_or_not, payload_not_put, payload_not_removed, put_or_not}
use Rattle.bag_renew.proofs.OnTheWayChanges.{tag_not_put, tag_not_removed, till_opened, till_put}
use Rattle.bag_renew.proofs.OneChange.{all_level, at_changes, first_are, itself_level, name_of, with_change}
use Rattle.bag_renew.proofs.OneChange.{with_changes}
use Rattle.bag_renew.proofs.RenewedNames.{declared, names_files, old_or_anew, one_manifest}
use Rattle.bag_changes.proofs.Staying.{IsWritten, itself, no_begun, no_payload_name, no_payload_tag, stays_so}
use Rattle.bag_changes.proofs.Staying.{written_goes}

-- two bags with the same declaration are judged by the same rules
pub same_rules : (one other : Bag) → file one bagit_txt ≡ file other bagit_txt → rules_in one ≡ rules_in other
unfolding rules_in
same_rules one other same = ap (λ (o : Option (List ℕ)). rules_of (option_and_then declared_version o)) same

module _ (bag : Bag) (renewal : Renewal) (k : ℕ) (can : CanRenewInPlace bag renewal) where
  abbrev mid : Bag
  mid = after bag renewal k

  abbrev new : Bag
  new = renewed bag renewal

  abbrev first : List FileChange
  first = made bag renewal k

  abbrev later : List FileChange
  later = left bag renewal k

  abbrev all : List FileChange
  all = changes bag renewal

  pub has_known : HasKnownManifests bag
  has_known = known bag can.can.damaged

  -- ---- what stands at a path

  pub at_mid : (q : List ℕ) → file mid q ≡ with_changes first q (file bag q)
  at_mid q =
      at_changes bag first bag (first_are bag k all (are_of_files bag renewal can.way))
      (itself_level bag can.can.is_bag) q

  at_new : (q : List ℕ) → with_changes all q (file bag q) ≡ file new q
  at_new q =
      sym (at_changes bag all bag (are_of_files bag renewal can.way) (itself_level bag can.can.is_bag) q)
      ∙ ap (λ b. file b q) (they_renew bag renewal can.can.is_bag has_known can.way)

  at_end : (q : List ℕ) → with_changes later q (file mid q) ≡ file new q
  at_end q =
      ap (with_changes later q) (at_mid q)
      ∙ sym (fold-append (λ o change. with_change change q o) (file bag q) first later)
      ∙ ap (λ cs. with_changes cs q (file bag q)) (take-append-drop k all) ∙ at_new q

  -- a file of the bag on the way was put, or stood there
  pub mid_from : (q c : List ℕ) → file mid q ≡ Some c
      → Contains first (Put q c) ⊎ ((file bag q ≡ Some c) × ((d : FileChange) → Contains first d → q ≢ name_of d))
  mid_from q c at = came_from first q c (file bag q) (sym (at_mid q) ∙ at)

  -- and one of the renewed bag is yet to be put, or stands there
  pub new_from : (q c : List ℕ) → file new q ≡ Some c
      → Contains later (Put q c) ⊎ ((file mid q ≡ Some c) × ((d : FileChange) → Contains later d → q ≢ name_of d))
  new_from q c at = came_from later q c (file mid q) (at_end q ∙ at)

  pub put_is_new : (q c : List ℕ) → Contains first (Put q c) → file new q ≡ Some c
  put_is_new q c has =
      (these_files bag renewal q c).1 (inr (put_in_changes bag renewal q c (in_first k all (Put q c) has)))

  pub either : (q c : List ℕ) → file mid q ≡ Some c → (file bag q ≡ Some c) ⊎ (file new q ≡ Some c)
  either q c at = elim (mid_from q c at) [ inl has ↦ inr (put_is_new q c has) | inr stayed ↦ inl stayed.0 ]

  pub still_there : (q : List ℕ) → HasFile bag q → (Contains first (Remove q) → ⊥) → HasFile mid q
  still_there q there none = ap is_some (at_mid q) ∙ never_lost first q (file bag q) there none

  -- where no change is of a path
  module _ (q : List ℕ) (unnamed : (d : FileChange) → Contains all d → q ≢ name_of d) where
    as_it_was : file mid q ≡ file bag q
    as_it_was = at_mid q ∙ not_named first q (file bag q) (λ d has. unnamed d (in_first k all d has))

    as_it_will_be : file mid q ≡ file new q
    as_it_will_be = as_it_was ∙ sym (not_named all q (file bag q) unnamed) ∙ at_new q

  -- where no change that isn't made yet is
  pub as_renewed : (q : List ℕ) → ((d : FileChange) → Contains later d → q ≢ name_of d) → file mid q ≡ file new q
  as_renewed q unnamed = sym (not_named later q (file mid q) unnamed) ∙ at_end q

  -- ---- the payload, and the list of files to fetch

  never_named : (q : List ℕ) → ((tag : TagName) → IsWritten tag → q ≢ tag_path tag) → q ≢ begun_file
      → (d : FileChange) → Contains all d → q ≢ name_of d
  never_named q tags begun d has =
      All-contains (λ c. q ≢ name_of c) all d
      (All-from_recursion (λ c. q ≢ name_of c) all (of_changes bag renewal (λ n. q ≢ n) tags begun)) has

  fetch_unnamed : (d : FileChange) → Contains all d → fetch_txt ≢ name_of d
  fetch_unnamed =
      never_named fetch_txt (λ tag written same. subst IsWritten (sym (paths_differ Fetch tag same)) written)
      (λ same. no_begun Fetch (sym same))

  payload_unnamed : (q : List ℕ) → is_payload_path q ≡ true → (d : FileChange) → Contains all d → q ≢ name_of d
  payload_unnamed q of_it =
      never_named q (λ tag written same. no_payload_tag tag (ap is_payload_path (sym same) ∙ of_it))
      (λ same. no_payload_name begun_file refl (ap is_payload_path (sym same) ∙ of_it))

  stays_unnamed : (q : List ℕ) → stays q ≡ true → (d : FileChange) → Contains all d → q ≢ name_of d
  stays_unnamed q is =
      never_named q (λ tag written same. written_goes tag written (ap stays (sym same) ∙ is))
      (λ same. itself begun_file (stays_so begun_file (ap stays (sym same) ∙ is)).begun)

  -- a tag file that stays is as it was
  pub stays_as_it_was : (q : List ℕ) → stays q ≡ true → file mid q ≡ file bag q
  stays_as_it_was q is = as_it_was q (stays_unnamed q is)

  -- and a payload manifest is there whose algorithm isn't dropped
  pub manifest_stays : (alg : Alg) → has_member renewal.dropped alg ≡ false → HasFile bag (manifest_of Payload alg)
      → HasFile mid (manifest_of Payload alg)
  manifest_stays alg keeps there = still_there (manifest_of Payload alg) there (λ has.
      kept_not_removed bag renewal alg keeps (in_first k all (Remove (manifest_of Payload alg)) has))

  -- ---- the declaration

  no_declaration : has_file bag bagit_txt ≡ false → ⊥
  unfolding Is IsOfDeclaration DeclarationHolds asks
  no_declaration lacks =
      none bag can.can.damaged (record { code = NoDeclaration; path = bagit_txt; alg = None; line = 0; detail = [] })
      (inl (record { path_is = refl; alg_is = refl; line_is = refl; detail_is = refl }, lacks)) refl (λ same. cc)

  has_declaration : HasFile bag bagit_txt
  has_declaration = by_test (has_file bag bagit_txt) refl
    where
      by_test : (b : Bool) → has_file bag bagit_txt ≡ b → has_file bag bagit_txt ≡ true
      by_test true there = there
      by_test false lacks = absurd (no_declaration lacks)

  -- ---- alike, where the declaration is the same

  pub fetch_stays : file mid fetch_txt ≡ file bag fetch_txt
  fetch_stays = as_it_was fetch_txt fetch_unnamed

  pub payload_stays : (q : List ℕ) → is_payload_path q ≡ true → file mid q ≡ file bag q
  payload_stays q of_it = as_it_was q (payload_unnamed q of_it)

  pub payload_will_be : (q : List ℕ) → is_payload_path q ≡ true → file mid q ≡ file new q
  payload_will_be q of_it = as_it_will_be q (payload_unnamed q of_it)

  pub fetch_will_be : file mid fetch_txt ≡ file new fetch_txt
  fetch_will_be = as_it_will_be fetch_txt fetch_unnamed

  pub as_bag : file mid bagit_txt ≡ file bag bagit_txt → AreAlike mid bag
  as_bag same = alike_by_rules mid bag (same_rules mid bag same) fetch_stays payload_stays

  pub as_new : file mid bagit_txt ≡ file new bagit_txt → AreAlike mid new
  as_new same = alike_by_rules mid new (same_rules mid new same) fetch_will_be payload_will_be

  -- ---- the metadata

  abbrev pub IsOldOrNew : List ℕ → Type 0
  IsOldOrNew q = (file mid q ≡ file bag q) ⊎ (file mid q ≡ file new q)

  old_or_new : (q : List ℕ) → (Contains first (Remove q) → ⊥) → IsOldOrNew q
  old_or_new q kept = by_file (file mid q) (file bag q) refl refl
    where
      by_file : (now was : Option (List ℕ)) → file mid q ≡ now → file bag q ≡ was → IsOldOrNew q
      by_file (Some c) was at there =
          elim (either q c at) [ inl old ↦ inl (at ∙ sym old) | inr new ↦ inr (at ∙ sym new) ]
      by_file None None at there = inl (at ∙ sym there)
      by_file None (Some c) at there =
          absurd (false≢true (sym (ap is_some at) ∙ still_there q (ap is_some there) kept))

  pub info_is : IsOldOrNew bag_info_txt
  info_is = old_or_new bag_info_txt (λ has. not_removed bag renewal Info tt (in_first k all (Remove bag_info_txt) has))

  -- ---- payload manifests

  pub no_manifest : HasNoPayloadManifest mid → HasNoPayloadManifest bag ⊎ HasNoPayloadManifest new
  no_manifest none = elim (put_or_not bag renewal k) [
    | inl puts ↦ inl (λ alg has. none alg (
      has.0,
      still_there (manifest_name Payload alg) has.1 (λ removed.
          payload_not_removed bag renewal alg (puts (Remove (manifest_name Payload alg)) removed)),
    ))
    | inr drops ↦ inr (λ alg has.
        let c = content_of (file new (manifest_name Payload alg)) has.1 in
        elim (new_from (manifest_name Payload alg) c.0 c.1) [
          | inl puts ↦ payload_not_put bag renewal alg c.0 (drops (Put (manifest_name Payload alg) c.0) puts)
          | inr there ↦ none alg (has.0, ap is_some there.0)
        ])
  ]

  -- ---- tag manifests

  -- while they are removed, those that are left and all else are those of the bag
  pub while_opening : AllIn first (till_opened bag renewal) → (alg : Alg) (text : List ℕ)
      → file mid (manifest_of Tag alg) ≡ Some text → IsTagManifestOf bag mid alg text
  while_opening opens alg text at = record {
    text_is = elim (mid_from (manifest_of Tag alg) text at) [
      | inl has ↦ absurd (not_put bag renewal (manifest_of Tag alg) text (opens (Put (manifest_of Tag alg) text) has))
      | inr stayed ↦ stayed.0
    ];
    files = λ q other unbegun. at_mid q ∙ not_named first q (file bag q) (λ d has same.
        elim (in_opened bag renewal d (opens d has)) [
          | inl begun ↦ unbegun (same ∙ ap name_of begun)
          | inr m ↦ false≢true (sym other ∙ named_is Tag q (name m.0) (name_is_text m.0, same ∙ ap name_of m.1))
        ]);
  }

  -- then each was put
  pub was_put : AllIn later (back bag renewal) → (alg : Alg) (text : List ℕ) → file mid (manifest_of Tag alg) ≡ Some text
      → Contains first (Put (manifest_of Tag alg) text)
  was_put ends alg text at = elim (mid_from (manifest_of Tag alg) text at) [
    | inl has ↦ has
    | inr stayed ↦ absurd (elim (first_or_later k all (Remove (manifest_of Tag alg))
        (open_in bag renewal alg (ap is_some stayed.0))) [
          | inl has ↦ stayed.1 (Remove (manifest_of Tag alg)) has refl
          | inr has ↦ tag_not_removed bag renewal alg (ends (Remove (manifest_of Tag alg)) has)
        ])
  ]

  -- ---- no tag manifest names the file that is begun

  no_new_begun : HasFile new begun_file → ⊥
  no_new_begun there =
      let c = content_of (file new begun_file) there in
      elim ((these_files bag renewal begun_file c.0).0 c.1) [
        | inl old ↦ elim old.1 [
          | inl of_it ↦ no_payload_name begun_file refl of_it
          | inr is ↦ itself begun_file (stays_so begun_file is).begun
        ]
        | inr written ↦ no_begun written.0 written.1
      ]

  pub renewed_names : NamesItsFiles new
  renewed_names =
      names_files bag renewal can.can.is_bag can.can.nameable (names_its_payload bag can.can.damaged) can.can.listed
      has_known

  pub new_begun : NoneNamesBegun new
  new_begun alg names =
      let n = named_by new Tag alg begun_file names in
      no_new_begun ((renewed_names.told Tag alg n.0 n.1).there begun_file
      (subst (λ o. Contains (named (rules_in new) Tag alg (lines_or_none o)) begun_file) n.1 names)).0

  pub same_folders : mid.folders ≡ bag.folders
  same_folders =
      (all_level bag first bag (first_are bag k all (are_of_files bag renewal can.way))
      (itself_level bag can.can.is_bag)).folders

  -- ---- where the rules stay, so does the declaration

  module _ (keeps_it : keeps bag renewal ≡ true) where
    declaration_kept : is_kept bag renewal bagit_txt ≡ true
    declaration_kept = and_from (keeps bag renewal) (has_file bag bagit_txt) keeps_it has_declaration

    renewed_declaration : file new bagit_txt ≡ file bag bagit_txt
    renewed_declaration = elim (kept_or_written bag renewal bagit_txt declaration_text) [
      | inl was ↦ declared bag renewal ∙ sym was.1
      | inr new ↦ absurd (false≢true (sym new.0 ∙ declaration_kept))
    ]

    declaration_stays : file mid bagit_txt ≡ file bag bagit_txt
    declaration_stays =
        let c =
        content_of (file mid bagit_txt) (still_there bagit_txt has_declaration (λ has.
        not_removed bag renewal Declaration tt (in_first k all (Remove bagit_txt) has))) in
        elim (either bagit_txt c.0 c.1) [
          | inl old ↦ c.1 ∙ sym old
          | inr at ↦ c.1 ∙ sym at ∙ renewed_declaration
        ]

    -- tag manifests are put beside what the renewed bag has
    when_closing : AllIn later (back bag renewal) → (alg : Alg) (text : List ℕ)
        → file mid (manifest_of Tag alg) ≡ Some text → IsTagManifestOf new mid alg text
    when_closing ends alg text at =
        let has = was_put ends alg text at in record {
          text_is = put_is_new (manifest_of Tag alg) text has;
          files = λ q other unbegun. elim (dropped_or_not bag renewal k) [
            | inl drops ↦ absurd (tag_not_put bag renewal alg text (drops (Put (manifest_of Tag alg) text) has))
            | inr closes ↦ as_renewed q (λ d more.
                closing_names bag renewal declaration_kept q other d (closes d more))
          ];
        }

    tag_manifests_of : (alg : Alg) (text : List ℕ) → file mid (manifest_of Tag alg) ≡ Some text
        → IsTagManifestOf bag mid alg text ⊎ IsTagManifestOf new mid alg text
    tag_manifests_of alg text at = elim (opened_or_not bag renewal k) [
      | inl opens ↦ inl (while_opening opens alg text at)
      | inr ends ↦ inr (when_closing ends alg text at)
    ]

    is_as_bag : AreAlike mid bag
    is_as_bag = as_bag declaration_stays

    is_as_new : AreAlike mid new
    is_as_new = as_new (declaration_stays ∙ sym renewed_declaration)

    rules_stay : rules_in mid ≡ rules_in bag
    rules_stay = same_rules mid bag declaration_stays

    -- until manifests are dropped, all old payload manifests are there
    module _ (puts : AllIn first (till_put bag renewal)) (alg : Alg) where
      is_old_one : HasFile bag (manifest_of Payload alg)
          → file mid (manifest_of Payload alg) ≡ file bag (manifest_of Payload alg)
      is_old_one there =
          let path = manifest_of Payload alg in
          let c =
          content_of (file mid path) (still_there path there (λ removed.
          payload_not_removed bag renewal (name alg) (puts (Remove path) removed))) in
          elim (either path c.0 c.1) [
            | inl old ↦ c.1 ∙ sym old
            | inr made ↦ elim (old_or_anew bag renewal alg c.0 made) [
              | inl was ↦ c.1 ∙ sym was.1
              | inr anew ↦ absurd (false≢true (sym anew
                  ∙ and_from (keeps bag renewal) (has_file bag path) keeps_it there))
            ]
          ]

      named_till_put : (path : List ℕ) → Names bag Payload alg path → Names mid Payload alg path
      named_till_put path names =
          let there = ap is_some (named_by bag Payload alg path names).1 in
          names_now mid bag is_as_bag Payload alg (is_old_one there) path names

    -- and then all new ones are
    module _ (drops : AllIn later (after_put bag renewal)) (alg : Alg) where
      is_new_one : (text : List ℕ) → file new (manifest_of Payload alg) ≡ Some text
          → file mid (manifest_of Payload alg) ≡ Some text
      is_new_one text at = elim (new_from (manifest_of Payload alg) text at) [
        | inl puts ↦ absurd (payload_not_put bag renewal (name alg) text
            (drops (Put (manifest_of Payload alg) text) puts))
        | inr there ↦ there.0
      ]

      named_after_put : (path : List ℕ) → Names new Payload alg path → Names mid Payload alg path
      named_after_put path names =
          let n = named_by new Payload alg path names in
          names_now mid new is_as_new Payload alg (is_new_one n.0 n.1 ∙ sym n.1) path names

    -- so what they leave out by the rules of 0.97, all old ones did, or all new ones do
    left_out : IsByV097 bag → (path : List ℕ) → IsLeftOutByAll mid path
        → IsUnlistedByV097 bag path ⊎ IsUnlistedByV097 new path
    left_out v097 path out = elim (put_or_not bag renewal k) [
      | inl puts ↦ inl (
        v097,
        (
          some_manifest bag can.can.damaged,
          λ named. out.1 (named.0, named_till_put puts named.0 path named.1),
        ),
      )
      | inr drops ↦ inr (
        same_rules new bag renewed_declaration ∙ v097,
        (one_manifest bag renewal can.can.some_alg, λ named. out.1 (named.0, named_after_put drops named.0 path named.1)),
      )
    ]

    by_rules : (rules : Rules) → rules_in bag ≡ rules → IsByV10 mid ⊎ IsBetweenByV097 mid bag new
    by_rules V10 is = inl (rules_stay ∙ is)
    by_rules V097 is =
        inr (record { rules = rules_stay ∙ is; left_out = λ path may out. left_out is path out })

    pub between : IsBetween mid bag new
    between = record {
      rules = by_rules (rules_in bag) refl;
      as_old = is_as_bag;
      as_new = is_as_new;
      folders = same_folders;
      declaration = declaration_stays;
      info = info_is;
      either = λ q c unbegun at. either q c at;
      no_manifest = no_manifest;
      tags = tag_manifests_of;
      old_begun = can.begun;
      new_begun = new_begun;
    }
