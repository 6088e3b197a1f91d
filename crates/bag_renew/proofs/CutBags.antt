-- What a power cut leaves of a bag that is renewed can be renewed so again.
use Rattle.bag_renew.proofs.Common.{◌≡◌, ◌⊎◌, ◌∙◌, ◌<◌, ◌||◌, inl, inr, ℕ, Bool, true, false, not, List, is_some}
use Rattle.bag_renew.proofs.Common.{refl, sym, ap, subst, Contains, and_parts, any_from, false≢true}
use Rattle.bag_renew.proofs.Common.{tag_path, Payload, Tag, Fetch, Info, Manifest, Alg, Bag, IsBag, file, has_folder}
use Rattle.bag_renew.proofs.Common.{begun_file, is_kept, is_kept_alg, is_new_alg, keeps, new_algs, new_rules}
use Rattle.bag_renew.proofs.Common.{rules_in, writes_info, Renewal, changes, IsOutOfTheWay}
use Rattle.std.specs.FinSet as set
use Rattle.std.specs.Prelude.{◌^◌}
use Rattle.bag_text.specs.declared.rules.Rules.{Rules}
use Rattle.bag_text.specs.declared.rules.Rules.TheVariants.{V10, V097}
use Rattle.bag_read.specs.Manifest.{named}
use Rattle.bag_stages.proofs.BagLists.{same_or_not}
use Rattle.bag_stages.specs.LeftOut.{IsNamedBySome}
use Rattle.bag_stages.specs.MetadataStage.{IsOfMetadata}
use Rattle.bag_stages.specs.Payload.{oxum, oxum_of_files}
use Rattle.bag_stages.specs.TagFiles.{lines_in, lines_or_none, manifest_of}
use Rattle.bag_tags.specs.Writable.{is_unnameable}
use Rattle.bag_tree.specs.Bag.{LacksFile}
use Rattle.bag_tree.specs.FileChanges.{IsAfterFirst}
use Rattle.bag_renew.specs.Again.{CutBagsCanBeRenewed}
use Rattle.bag_changes.specs.Obstacles.{HasNoPercent, has_percent}
use Rattle.bag_renew.specs.OnTheWay.{CanRenewInPlace, NoTagManifestNamesBegun}
use Rattle.bag_renewed.specs.Renewed.{is_v10, renewed, writes_payload_manifest}
use Rattle.bag_renewed.specs.Request.{is_bad_request}
use Rattle.bag_changes.specs.Telling.{AreNameable, AreStillListed, IsNamedByKept, IsToBeNamed, NamesItsFiles}
use Rattle.bag_changes.specs.Valid.{HasGoodElements, HasGoodInfo}
use Rattle.bag_changes.proofs.AlgsWhere.{alg_in, passes}
use Rattle.bag_renew.proofs.BetweenFaults.{IsBetween, named_by, names_begun}
use Rattle.bag_facts.proofs.Found.{content_of}
use Rattle.bag_changes.proofs.KeptOr.{kept_rules}
use Rattle.bag_renew.proofs.NewRules.{renewed_keeps}
use Rattle.bag_renew.proofs.OldBag.{known, names_its_payload}
use Rattle.bag_renew.proofs.OnTheWay.{cut_on_its_way, each_cut_has_old_faults}
use Rattle.bag_renew.proofs.OnTheWayFiles.{same_rules}
use Rattle.bag_renew.proofs.OnTheWayFromV097.{renewed_percent}
use Rattle.bag_renew.proofs.RenewedAgain.{cut_alike}
use Rattle.bag_renew.proofs.RenewedAlike.{AreRenewedAlike, same_algs, same_payload, same_renewed}
use Rattle.bag_renew.proofs.RenewedNames.{are_nameable, by_new_rules, names_files, new_text, one_manifest, same_file}
use Rattle.bag_renew.proofs.RenewedNames.{same_manifest}
use Rattle.bag_renew.proofs.Telling.{some_named}
use Rattle.bag_changes.specs.NewInfo.{CanBeWritten}

begun_nameable : (rules : Rules) → is_unnameable rules begun_file ≡ false
begun_nameable V10 = refl
begun_nameable V097 = refl

-- a bag between two others, of which each path can be named, and in whose way no folder is
module _ (left old new : Bag) (between : IsBetween left old new) where
  nameable_between : (rules : Rules) → AreNameable rules old → AreNameable rules new → AreNameable rules left
  nameable_between rules old_are new_are path there = elim (same_or_not path begun_file) [
    | inl is ↦ ap (is_unnameable rules) is ∙ begun_nameable rules
    | inr other ↦ (let c = content_of (file left path) there in
        elim (between.either path c.0 other c.1) [
          | inl was ↦ old_are path (ap is_some was)
          | inr made ↦ new_are path (ap is_some made)
        ])
  ]

  -- nor has one a %
  percent_between : HasNoPercent old → HasNoPercent new → HasNoPercent left
  percent_between old_none new_none path there = elim (same_or_not path begun_file) [
    | inl is ↦ ap has_percent is
    | inr other ↦ (let c = content_of (file left path) there in
        elim (between.either path c.0 other c.1) [
          | inl was ↦ old_none path (ap is_some was)
          | inr made ↦ new_none path (ap is_some made)
        ])
  ]

  none_names_begun : NoTagManifestNamesBegun left
  none_names_begun alg names =
      let n = named_by left Tag alg begun_file names in
      elim (between.tags alg n.0 n.1) [
        | inl is ↦ names_begun left old between.as_old between.old_begun alg n.0 n.1 is names
        | inr is ↦ names_begun left new between.as_new between.new_begun alg n.0 n.1 is names
      ]

module _ (bag : Bag) (renewal : Renewal) (left : Bag) (can : CanRenewInPlace bag renewal)
    (asked : is_bad_request renewal.elements ≡ false)
    (good : writes_info bag renewal ≡ true → HasGoodElements bag renewal)
    (cut : IsAfterFirst begun_file (changes bag renewal) bag left) where
  abbrev new : Bag
  new = renewed bag renewal

  are : AreRenewedAlike left bag renewal
  are = cut_alike bag renewal can asked good left cut

  on : IsBetween left bag new ⊎ IsBetween left new new
  on = cut_on_its_way bag renewal can left cut

  same : renewed left renewal ≡ new
  same = same_renewed left bag renewal are

  -- ---- each path can be named

  new_nameable : AreNameable (new_rules bag renewal) new
  new_nameable = are_nameable bag renewal can.can.is_bag can.can.nameable

  nameable : AreNameable (new_rules left renewal) left
  nameable =
      subst (λ rules. AreNameable rules left) (sym are.rules)
      (elim on [
        | inl between ↦ nameable_between left bag new between (new_rules bag renewal) can.can.nameable new_nameable
        | inr between ↦ nameable_between left new new between (new_rules bag renewal) new_nameable new_nameable
      ])

  -- ---- it keeps what needs no change, or is spelled the same

  abbrev IsSpelled : Type 0
  IsSpelled =
      ((keeps left renewal ≡ true) ⊎ HasNoPercent left)
      × ((keeps left renewal ≡ true) ⊎ LacksFile left (tag_path Fetch))

  by_between : IsBetween left bag new → IsSpelled
  by_between between =
      let same_keeps : keeps left renewal ≡ keeps bag renewal =
      ap (λ rules. is_v10 rules || not renewal.to_1_0) (same_rules left bag between.declaration) in (
        elim can.spelled [
          | inl keeps_it ↦ inl (same_keeps ∙ keeps_it)
          | inr none ↦ inr (percent_between left bag new between none (renewed_percent bag renewal none))
        ],
        elim can.can.fetch [
          | inl keeps_it ↦ inl (same_keeps ∙ keeps_it)
          | inr lacks ↦ inr (ap is_some between.as_old.fetch ∙ lacks)
        ],
      )

  by_new : IsBetween left new new → IsSpelled
  by_new between =
      let keeps_it =
      renewed_keeps bag renewal left (same_rules left new between.declaration ∙ by_new_rules bag renewal) in
      (inl keeps_it, inl keeps_it)

  spelled : IsSpelled
  spelled = elim on [ inl between ↦ by_between between | inr between ↦ by_new between ]

  -- ---- a payload manifest is still to be written, or those that are kept name all of the payload

  names_new : NamesItsFiles new
  names_new =
      names_files bag renewal can.can.is_bag can.can.nameable (names_its_payload bag can.can.damaged) can.can.listed
      (known bag can.can.damaged)

  module _ (none_written : writes_payload_manifest left renewal ≡ false) (path : List ℕ)
      (is : IsToBeNamed left Payload path) where
    -- the renewed bag's manifest of an algorithm is that which is kept
    kept_by : (alg : Alg) → is_new_alg left renewal alg ≡ true → (b : Bool) → is_kept_alg left renewal alg ≡ b
        → is_kept_alg left renewal alg ≡ true
    kept_by alg new_one true kept = kept
    kept_by alg new_one false anew =
        absurd (false≢true (sym none_written
        ∙ any_from (λ a. not (is_kept_alg left renewal a)) (new_algs left renewal) alg
        (alg_in (is_new_alg left renewal) alg new_one) (ap not anew)))

    named_still : IsNamedBySome new path → IsNamedByKept left renewal path
    named_still (alg, names) =
        let manifest_path = manifest_of Payload alg in
        let n = named_by new Payload alg path names in
        let new_one =
        are.algs alg ∙ passes (is_new_alg bag renewal) alg (new_text bag renewal (Manifest Payload alg) n.0 tt n.1).0 in
        let kept = kept_by alg new_one (is_kept_alg left renewal alg) refl in
        let of_it = (and_parts (is_new_alg left renewal alg) (is_kept left renewal manifest_path) kept).1 in
        let rules : rules_in new ≡ rules_in left =
        by_new_rules bag renewal ∙ sym are.rules ∙ kept_rules left renewal manifest_path of_it in
        let file_is : file new manifest_path ≡ file left manifest_path =
        sym (ap (λ b. file b manifest_path) same) ∙ same_manifest left renewal alg kept in (
          alg,
          kept,
          subst (λ o. Contains (named (rules_in left) Payload alg (lines_or_none o)) path) file_is
              (subst (λ r. Contains (named r Payload alg (lines_in new manifest_path)) path) rules names),
        )

    named_in_new : IsToBeNamed new Payload path
    named_in_new =
        (ap is_some (sym (ap (λ b. file b path) same) ∙ same_file left renewal path is.1) ∙ is.0, is.1)

    named_by_kept : IsNamedByKept left renewal path
    named_by_kept = named_still (some_named new names_new (one_manifest bag renewal can.can.some_alg) path named_in_new)

  still_listed : (writes : Bool) → writes_payload_manifest left renewal ≡ writes → AreStillListed left renewal
  still_listed true writes = inr (inl writes)
  still_listed false none = inr (inr (named_by_kept none))

  -- ---- nothing is in the way

  same_folder : (name : List ℕ) → has_folder left name ≡ has_folder bag name
  same_folder name = ap (λ s. set.contains s name) are.folders

  way : IsOutOfTheWay left
  way name has = same_folder name ∙ can.way name has

  names_none : NoTagManifestNamesBegun left
  names_none = elim on [
    | inl between ↦ none_names_begun left bag new between
    | inr between ↦ none_names_begun left new new between
  ]

  -- ---- the elements can be written

  good_info : HasGoodInfo left renewal
  good_info = record {
    text = λ content at. can.info.text content (sym (ap (λ b. file b (tag_path Info)) same) ∙ at);
    no_fault = λ f is. can.info.no_fault f (subst (λ b. IsOfMetadata b f) same is);
  }

  same_oxum : oxum left ≡ oxum bag
  same_oxum = ap oxum_of_files (same_payload left bag renewal are)

  good_elements : writes_info left renewal ≡ true → HasGoodElements left renewal
  good_elements writes =
      let old = good (are.writes writes) in
      let again = sym (are.written writes) in record {
        written = subst CanBeWritten again old.written;
        set = old.set;
        appended = old.appended;
        known = record {
          count = subst (λ size. size.streams < 2 ^ 64) (sym same_oxum) old.known.count;
          size = subst (λ size. size.octets < 2 ^ 64) (sym same_oxum) old.known.size;
        };
      }

  can_again : IsBag left → CanRenewInPlace left renewal
  can_again is = record {
    can = record {
      is_bag = is;
      damaged = λ f has. (each_cut_has_old_faults bag renewal left can cut f has).0;
      fetch = spelled.1;
      nameable = nameable;
      listed = still_listed (writes_payload_manifest left renewal) refl;
      some_alg = λ none. can.can.some_alg (sym (same_algs left bag renewal are) ∙ none);
    };
    spelled = spelled.0;
    info = good_info;
    way = way;
    begun = names_none;
  }

pub cut_bags_can_be_renewed : CutBagsCanBeRenewed
cut_bags_can_be_renewed bag renewal left can asked good cut is =
    (can_again bag renewal left can asked good cut is, good_elements bag renewal left can asked good cut)
