-- Each bag on the way becomes the same renewed bag.
use Rattle.bag_renew.proofs.Common.{◌≡◌, ◌≢◌, ◌⊎◌, ◌∷◌, ◌&&◌, ◌||◌, ◌∙◌, inl, inr, ℕ, Bool, true, false, not, cond}
use Rattle.bag_renew.proofs.Common.{List, [], Option, None, Some, is_some, refl, sym, ap, subst, false≢true}
use Rattle.bag_renew.proofs.Common.{has_member, is_manifest_name, is_payload_path, Payload, Tag, Info, Alg, name, Bag}
use Rattle.bag_renew.proofs.Common.{HasFile, file, File, begun_file, declaration_file, is_new_alg, keeps, kept_or}
use Rattle.bag_renew.proofs.Common.{manifest_by, new_rules, payload, payload_manifest, stays, with_path, writes_info}
use Rattle.bag_renew.proofs.Common.{Renewal, after, changes, create}
use Rattle.std.specs.Option.{unwrap_or}
use Rattle.bag_text.specs.declared.rules.Rules.TheVariants.{V10}
use Rattle.bag_facts.specs.Facts.{IsByV10, rules_in}
use Rattle.bag_stages.specs.MetadataStage.{bag_info_txt}
use Rattle.bag_stages.specs.TagFiles.{bagit_txt, manifest_of}
use Rattle.bag_tags.specs.Declaration.{declaration_text}
use Rattle.bag_tree.specs.FileChanges.{IsAfterFirst}
use Rattle.bag_renew.specs.Again.{RenewingAgainMakesTheSame}
use Rattle.bag_renewed.specs.Elements.{asks_nothing}
use Rattle.bag_changes.specs.Obstacles.{HasNoPercent}
use Rattle.bag_renew.specs.OnTheWay.{CanRenewInPlace}
use Rattle.bag_renewed.specs.Renewed.{file_at, is_v10, renewed}
use Rattle.bag_renewed.specs.Request.{is_bad_request}
use Rattle.bag_changes.specs.Valid.{HasGoodElements}
use Rattle.bag_renew.proofs.BetweenFaults.{IsBetween, no_manifest_begun, other_kind}
use Rattle.bag_changes.proofs.KeptOr.{becomes_v10, v10_keeps}
use Rattle.bag_renew.proofs.NewRules.{still_v10}
use Rattle.bag_renew.proofs.OnTheWayBegun.{at_manifest, elsewhere, stays_elsewhere, with_begun}
use Rattle.bag_renew.proofs.OnTheWayChanges.{AllIn, left as yet_to_make, tags_put}
use Rattle.bag_renew.proofs.OnTheWayFiles.{between, manifest_stays, same_rules, stays_as_it_was}
use Rattle.bag_renew.proofs.OnTheWayFromV097.{by_v10, early_between, early_or_late, late_between, put_all}
use Rattle.bag_renew.proofs.PayloadFiles.{payload_alike}
use Rattle.bag_renew.proofs.RenewedNames.{declared, same_file}
use Rattle.bag_changes.proofs.Staying.{no_begun}
use Rattle.bag_renew.proofs.TagNames.{not_tag_manifest}
use Rattle.bag_facts.proofs.ListedPaths.{same_truth}
use Rattle.bag_renew.proofs.RenewedAlike.{AreRenewedAlike, HasInfoOf, from_left, has_or_added, info_so, kept_is}
use Rattle.bag_renew.proofs.RenewedAlike.{manifest_there, new_info, new_manifest, same_renewed, text}
use Rattle.bag_renew.proofs.RenewedAlike.{to_left, written_again, written_is}

-- ---- a bag on the way: its files are those of the bag or of the renewed one, and none of those that
-- a renewal reads is lost

pub record IsOnTheWay (left bag : Bag) (renewal : Renewal) : Type 0 where
  pub between : IsBetween left bag (renewed bag renewal)
  pub same : (q : List ℕ) → stays q ≡ true → file left q ≡ file bag q
  pub manifests : (alg : Alg) → has_member renewal.dropped alg ≡ false → HasFile bag (manifest_of Payload alg)
      → HasFile left (manifest_of Payload alg)

module _ (left bag : Bag) (renewal : Renewal) (on : IsOnTheWay left bag renewal)
    (asked : is_bad_request renewal.elements ≡ false)
    (good : writes_info bag renewal ≡ true → HasGoodElements bag renewal) where
  rules_are : rules_in left ≡ rules_in bag
  rules_are = same_rules left bag on.between.declaration

  same_keeps : keeps left renewal ≡ keeps bag renewal
  same_keeps = ap (λ rules. is_v10 rules || not renewal.to_1_0) rules_are

  same_new : new_rules left renewal ≡ new_rules bag renewal
  same_new = ap (λ rules. cond renewal.to_1_0 V10 rules) rules_are

  payload_is : payload left ≡ payload bag
  payload_is = payload_alike left bag on.between.as_old.payload_file

  same_alg : (alg : Alg) → is_new_alg left renewal alg ≡ is_new_alg bag renewal alg
  same_alg alg =
      same_truth (is_new_alg left renewal alg) (is_new_alg bag renewal alg)
      (from_left bag renewal alg left
      (λ c at. on.between.either (manifest_of Payload alg) c (no_manifest_begun Payload (name alg)) at))
      (to_left bag renewal alg left (on.manifests alg))

  same_writes : writes_info left renewal ≡ writes_info bag renewal
  same_writes = ap (λ k. not (k && asks_nothing renewal.elements)) same_keeps

  info_of : HasInfoOf left bag ⊎ HasInfoOf left (renewed bag renewal)
  info_of = elim on.between.info [
    | inl old ↦ inl (on.between.as_old, old)
    | inr made ↦ inr (on.between.as_new, made)
  ]

  -- where all is kept, and where nothing is
  module _ (declaration : declaration_file left renewal ≡ declaration_file bag renewal)
      (manifests : (alg : Alg) → is_new_alg bag renewal alg ≡ true
      → payload_manifest left renewal alg ≡ payload_manifest bag renewal alg) where
    kept_info : writes_info bag renewal ≡ false → file left bag_info_txt ≡ file bag bag_info_txt
    kept_info keeps_it = elim on.between.info [
      | inl old ↦ old
      | inr made ↦ made ∙ new_info bag renewal ∙ ap (info_so bag renewal) keeps_it
    ]

    abbrev files_so : Bool → List File
    files_so writes = cond writes ((bag_info_txt, text bag renewal) ∷ []) (file_at bag bag_info_txt)

    alike_so : AreRenewedAlike left bag renewal
    alike_so = record {
      payload_file = on.between.as_old.payload_file;
      kept = on.same;
      folders = on.between.folders;
      rules = same_new;
      declaration = declaration;
      algs = same_alg;
      manifests = manifests;
      writes = λ is. sym same_writes ∙ is;
      written = λ is.
          written_again left bag renewal asked good on.between.as_old.payload_file info_of (sym same_writes ∙ is);
      kept_info = λ keeps_it.
          let too = sym same_writes ∙ keeps_it in
          ap (with_path bag_info_txt) (kept_info too) ∙ sym (ap files_so too);
    }

  -- what would be written
  module _ (alg : Alg) where
    abbrev at_path : List ℕ
    at_path = manifest_of Payload alg

    abbrev anew : Bag → List ℕ
    anew b = manifest_by (new_rules b renewal) alg (payload b)

    same_anew : anew left ≡ anew bag
    same_anew =
        ap (λ rules. manifest_by rules alg (payload left)) same_new ∙ ap (manifest_by (new_rules bag renewal) alg) payload_is

  module _ (keeps_bag : keeps bag renewal ≡ true) where
    keeps_left : keeps left renewal ≡ true
    keeps_left = same_keeps ∙ keeps_bag

    kept_declaration : kept_or left renewal bagit_txt declaration_text ≡ kept_or bag renewal bagit_txt declaration_text
    kept_declaration =
        kept_is left renewal bagit_txt declaration_text keeps_left
        ∙ ap (λ o. unwrap_or o declaration_text) on.between.declaration
        ∙ sym (kept_is bag renewal bagit_txt declaration_text keeps_bag)

    -- the manifest is the old one, or the one that is written
    module _ (alg : Alg) (is : is_new_alg bag renewal alg ≡ true) where
      abbrev new_one : List ℕ
      new_one = anew alg bag

      by_file : (now was : Option (List ℕ)) → file left (at_path alg) ≡ now → file bag (at_path alg) ≡ was
          → kept_or left renewal (at_path alg) new_one ≡ kept_or bag renewal (at_path alg) new_one
      by_file (Some c) was at there =
          kept_is left renewal (at_path alg) new_one keeps_left ∙ ap (λ o. unwrap_or o new_one) at
          ∙ elim (on.between.either (at_path alg) c (no_manifest_begun Payload (name alg)) at) [
            | inl old ↦ sym (kept_is bag renewal (at_path alg) new_one keeps_bag ∙ ap (λ o. unwrap_or o new_one) old)
            | inr made ↦ (new_manifest bag renewal alg c made).1
          ]
      by_file None None at there =
          kept_is left renewal (at_path alg) new_one keeps_left ∙ ap (λ o. unwrap_or o new_one) (at ∙ sym there)
          ∙ sym (kept_is bag renewal (at_path alg) new_one keeps_bag)
      by_file None (Some c) at there =
          absurd (false≢true (sym (ap is_some at)
          ∙ on.manifests alg (has_or_added bag renewal alg bag is).1 (ap is_some there)))

      kept_manifest : payload_manifest left renewal alg ≡ payload_manifest bag renewal alg
      kept_manifest =
          λ i. (
            at_path alg,
            (ap (kept_or left renewal (at_path alg)) (same_anew alg)
                ∙ by_file (file left (at_path alg)) (file bag (at_path alg)) refl refl) i,
          )

    pub alike_kept : AreRenewedAlike left bag renewal
    alike_kept = alike_so (λ i. (bagit_txt, kept_declaration i)) kept_manifest

  module _ (keeps_none : keeps bag renewal ≡ false) where
    left_none : keeps left renewal ≡ false
    left_none = same_keeps ∙ keeps_none

    new_declaration : kept_or left renewal bagit_txt declaration_text ≡ kept_or bag renewal bagit_txt declaration_text
    new_declaration =
        written_is left renewal bagit_txt declaration_text left_none
        ∙ sym (written_is bag renewal bagit_txt declaration_text keeps_none)

    written_manifest : (alg : Alg) → is_new_alg bag renewal alg ≡ true
        → payload_manifest left renewal alg ≡ payload_manifest bag renewal alg
    written_manifest alg is =
        λ i. (
          at_path alg,
          (written_is left renewal (at_path alg) (anew alg left) left_none ∙ same_anew alg
              ∙ sym (written_is bag renewal (at_path alg) (anew alg bag) keeps_none)) i,
        )

    pub alike_written : AreRenewedAlike left bag renewal
    alike_written = alike_so (λ i. (bagit_txt, new_declaration i)) written_manifest

-- ---- or all is that of the renewed bag, but for tag manifests and a file that is begun

pub record IsPutAll (left bag : Bag) (renewal : Renewal) : Type 0 where
  pub between : IsBetween left (renewed bag renewal) (renewed bag renewal)
  pub same : (q : List ℕ) → stays q ≡ true → file left q ≡ file bag q
  pub put : (q : List ℕ) → is_manifest_name Tag q ≡ false → q ≢ begun_file → file left q ≡ file (renewed bag renewal) q

module _ (left bag : Bag) (renewal : Renewal) (none_kept : keeps bag renewal ≡ false) (on : IsPutAll left bag renewal)
    (asked : is_bad_request renewal.elements ≡ false)
    (good : writes_info bag renewal ≡ true → HasGoodElements bag renewal) where
  left_v10 : IsByV10 left
  left_v10 = same_rules left (renewed bag renewal) on.between.declaration ∙ by_v10 bag renewal none_kept

  all_kept : keeps left renewal ≡ true
  all_kept = v10_keeps left renewal left_v10

  -- so bag-info.txt was written
  writes : writes_info bag renewal ≡ true
  writes = ap (λ k. not (k && asks_nothing renewal.elements)) none_kept

  as_payload : (q : List ℕ) → is_payload_path q ≡ true → file left q ≡ file bag q
  as_payload q of_it = on.between.as_old.payload_file q of_it ∙ same_file bag renewal q of_it

  folders_are : left.folders ≡ bag.folders
  unfolding renewed
  folders_are = on.between.folders

  put_info : file left bag_info_txt ≡ file (renewed bag renewal) bag_info_txt
  put_info = on.put bag_info_txt (not_tag_manifest Info tt) (λ same. no_begun Info (sym same))

  module _ (path anew : List ℕ) where
    -- what was written is kept
    was_written : (c : List ℕ) → file left path ≡ Some c → kept_or left renewal path anew ≡ c
    was_written c at = kept_is left renewal path anew all_kept ∙ ap (λ o. unwrap_or o anew) at

  declaration_is : kept_or left renewal bagit_txt declaration_text ≡ kept_or bag renewal bagit_txt declaration_text
  declaration_is =
      was_written bagit_txt declaration_text (kept_or bag renewal bagit_txt declaration_text)
      (on.between.declaration ∙ declared bag renewal)

  module _ (alg : Alg) where
    put_manifest : file left (manifest_of Payload alg) ≡ file (renewed bag renewal) (manifest_of Payload alg)
    put_manifest =
        on.put (manifest_of Payload alg) (other_kind (name alg)) (no_manifest_begun Payload (name alg))

    alg_is : is_new_alg left renewal alg ≡ is_new_alg bag renewal alg
    alg_is =
        same_truth (is_new_alg left renewal alg) (is_new_alg bag renewal alg)
        (from_left bag renewal alg left (λ c at. inr (sym put_manifest ∙ at)))
        (λ is. to_left bag renewal alg left
        (λ stays_in has. ap is_some (put_manifest ∙ manifest_there bag renewal alg is)) is)

    manifest_is : is_new_alg bag renewal alg ≡ true
        → payload_manifest left renewal alg ≡ payload_manifest bag renewal alg
    manifest_is is =
        let path = manifest_of Payload alg in
        let text = kept_or bag renewal path (manifest_by (new_rules bag renewal) alg (payload bag)) in
        let anew = manifest_by (new_rules left renewal) alg (payload left) in
        λ i. (
          path,
          was_written path anew text (put_manifest ∙ manifest_there bag renewal alg is) i,
        )

  abbrev files_of_info : Bool → List File
  files_of_info is = cond is ((bag_info_txt, text bag renewal) ∷ []) (file_at bag bag_info_txt)

  pub alike_put : AreRenewedAlike left bag renewal
  alike_put = record {
    payload_file = as_payload;
    kept = on.same;
    folders = folders_are;
    rules = still_v10 left renewal left_v10 ∙ sym (becomes_v10 bag renewal none_kept);
    declaration = λ i. (bagit_txt, declaration_is i);
    algs = alg_is;
    manifests = manifest_is;
    writes = λ is. writes;
    written = λ is. written_again left bag renewal asked good as_payload (inr (on.between.as_old, put_info)) writes;
    kept_info = λ keeps_it.
        ap (with_path bag_info_txt) (put_info ∙ new_info bag renewal ∙ ap (info_so bag renewal) writes)
        ∙ sym (ap files_of_info writes);
  }

-- ---- each cut leaves such a bag

module _ (bag : Bag) (renewal : Renewal) (can : CanRenewInPlace bag renewal) (k : ℕ) where
  abbrev mid : Bag
  mid = after bag renewal k

  on_the_way : IsBetween mid bag (renewed bag renewal) → IsOnTheWay mid bag renewal
  on_the_way between = record {
    between = between;
    same = stays_as_it_was bag renewal k can;
    manifests = manifest_stays bag renewal k can;
  }

  -- also with a file that is begun beside the others
  module _ (found : List ℕ) where
    with_a_begun : IsBetween mid bag (renewed bag renewal) → IsOnTheWay (create begun_file found mid) bag renewal
    with_a_begun here =
        let new = renewed bag renewal in record {
          between = with_begun mid bag new found here;
          same = λ q is.
              stays_elsewhere mid bag new found here q is ∙ stays_as_it_was bag renewal k can q is;
          manifests = λ alg keeps_it there.
              ap is_some (at_manifest mid bag new found here Payload alg)
              ∙ manifest_stays bag renewal k can alg keeps_it there;
        }

  module _ (changes_rules : keeps bag renewal ≡ false) (none : HasNoPercent bag)
      (late : AllIn (yet_to_make bag renewal k) (tags_put bag renewal))
    where
      abbrev here : IsBetween mid (renewed bag renewal) (renewed bag renewal)
      here = late_between bag renewal k can changes_rules none late

      put_so : IsPutAll mid bag renewal
      put_so = record {
        between = here;
        same = stays_as_it_was bag renewal k can;
        put = λ q other unbegun. put_all bag renewal k can changes_rules none late q other;
      }

      put_with_begun : (found : List ℕ) → IsPutAll (create begun_file found mid) bag renewal
      put_with_begun found =
          let new = renewed bag renewal in record {
            between = with_begun mid new new found here;
            same = λ q is.
                stays_elsewhere mid new new found here q is ∙ stays_as_it_was bag renewal k can q is;
            put = λ q other unbegun.
                elsewhere mid new new found here q unbegun ∙ put_all bag renewal k can changes_rules none late q other;
          }

module _ (bag : Bag) (renewal : Renewal) (can : CanRenewInPlace bag renewal)
    (asked : is_bad_request renewal.elements ≡ false)
    (good : writes_info bag renewal ≡ true → HasGoodElements bag renewal) where
  abbrev IsAlike : Bag → Type 0
  IsAlike left = AreRenewedAlike left bag renewal

  of_kept : keeps bag renewal ≡ true → (left : Bag) → IsOnTheWay left bag renewal → IsAlike left
  of_kept keeps_it left on = alike_kept left bag renewal on asked good keeps_it

  of_written : keeps bag renewal ≡ false → (left : Bag) → IsOnTheWay left bag renewal → IsAlike left
  of_written changes_rules left on = alike_written left bag renewal on asked good changes_rules

  of_put : keeps bag renewal ≡ false → (left : Bag) → IsPutAll left bag renewal → IsAlike left
  of_put changes_rules left on = alike_put left bag renewal changes_rules on asked good

  -- the bag after the first changes, and with a file that is begun
  abbrev BothAlike : ℕ → Type 0
  BothAlike k =
      IsAlike (after bag renewal k) × ((found : List ℕ) → IsAlike (create begun_file found (after bag renewal k)))

  both_kept : (k : ℕ) → keeps bag renewal ≡ true → BothAlike k
  both_kept k keeps_it =
      let is = between bag renewal k can keeps_it in (
        of_kept keeps_it (after bag renewal k) (on_the_way bag renewal can k is),
        λ found. of_kept keeps_it (create begun_file found (after bag renewal k))
            (with_a_begun bag renewal can k found is),
      )

  both_written : (k : ℕ) → keeps bag renewal ≡ false → HasNoPercent bag → BothAlike k
  both_written k changes_rules none = elim (early_or_late bag renewal k can changes_rules none) [
    | inl early ↦ (
        let is = early_between bag renewal k can changes_rules none early in (
          of_written changes_rules (after bag renewal k) (on_the_way bag renewal can k is),
          λ found. of_written changes_rules (create begun_file found (after bag renewal k))
              (with_a_begun bag renewal can k found is),
        ))
    | inr late ↦ (
      of_put changes_rules (after bag renewal k) (put_so bag renewal can k changes_rules none late),
      λ found. of_put changes_rules (create begun_file found (after bag renewal k))
          (put_with_begun bag renewal can k changes_rules none late found),
    )
  ]

  by_rules : (k : ℕ) (keeps_it : Bool) → keeps bag renewal ≡ keeps_it → (keeps bag renewal ≡ true) ⊎ HasNoPercent bag
      → BothAlike k
  by_rules k true is spelled = both_kept k is
  by_rules k false isnt (inl is) = absurd (false≢true (sym isnt ∙ is))
  by_rules k false isnt (inr none) = both_written k isnt none

  pub cut_alike : (left : Bag) → IsAfterFirst begun_file (changes bag renewal) bag left
      → AreRenewedAlike left bag renewal
  cut_alike left cut =
      let both = by_rules cut.k (keeps bag renewal) refl can.spelled in
      elim cut.is [
        | inl whole ↦ subst IsAlike (sym whole) both.0
        | inr begun ↦ subst IsAlike (sym begun.1) (both.1 begun.0)
      ]

pub renewing_again : RenewingAgainMakesTheSame
renewing_again bag renewal left can asked good cut =
    same_renewed left bag renewal (cut_alike bag renewal can asked good left cut)
