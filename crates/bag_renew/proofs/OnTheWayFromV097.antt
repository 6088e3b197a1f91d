-- Each bag on the way from one of 0.97: until the declaration is put, it is judged by the rules of
-- 0.97, by which what is written says the same; and then it is the renewed bag, but for tag
-- manifests.
use Rattle.bag_renew.proofs.Common.{◌≡◌, ◌⊎◌, ◌∙◌, inl, inr, ℕ, Bool, true, false, List, Option, None}
use Rattle.bag_renew.proofs.Common.{Some, is_some, refl, ap, sym, subst, ◌&&◌, false≢true}
use Rattle.bag_renew.proofs.Common.{contains_nothing, is_manifest_name, manifest_name}
use Rattle.bag_renew.proofs.Common.{tag_path, Kind, Payload, Tag, TagName, Declaration, Fetch, Info, Manifest, Alg, name}
use Rattle.bag_renew.proofs.Common.{Bag, file, has_file, FileChange, Put, Remove, after, changes}
use Rattle.bag_renew.proofs.Common.{is_kept, keeps, Renewal}
use Rattle.bag_text.specs.declared.alg.Alg.TheVariants.{Md5, Sha1, Sha224, Sha256, Sha384, Sha512}
use Rattle.bag_text.specs.declared.code.Code.TheVariants.{InfoLine}
use Rattle.bag_text.specs.declared.rules.Rules.TheVariants.{V10, V097}
use Rattle.bag_read.proofs.ManifestName.{is_named}
use Rattle.bag_read.specs.Info.{IsInfoFault}
use Rattle.bag_read.specs.declared.line_fault.LineFault.{LineFault}
use Rattle.bag_facts.proofs.Found.{content_of}
use Rattle.bag_facts.specs.Facts.{IsByV10, rules_in}
use Rattle.bag_facts.specs.FactsOfBag.{IsByV097}
use Rattle.bag_faults.specs.declared.fault.Fault.{Fault}
use Rattle.bag_report.specs.Report.{asks}
use Rattle.bag_stages.specs.CompletenessStage.{IsPayloadFile}
use Rattle.bag_stages.specs.FetchStage.{fetch_txt}
use Rattle.bag_stages.specs.LeftOut.{IsLeftOutByAll, IsNamedBySome}
use Rattle.bag_stages.specs.MetadataStage.{IsOfMetadata, MetadataHolds, bag_info_txt}
use Rattle.bag_stages.specs.TagFiles.{HasSupported, Names, bagit_txt, lines_in, lines_or_none, manifest_of}
use Rattle.bag_tree.specs.Bag.{LacksFile}
use Rattle.bag_changes.specs.Obstacles.{HasNoPercent, has_percent}
use Rattle.bag_renew.specs.OnTheWay.{CanRenewInPlace}
use Rattle.bag_renewed.specs.Renewed.{renewed}
use Rattle.bag_changes.specs.Telling.{NamesFiles, NamesItsFiles}
use Rattle.bag_changes.specs.Valid.{HasGoodInfo}
use Rattle.bag_renew.proofs.AlikeFaults.{AreAlike, names_now}
use Rattle.bag_renew.proofs.BetweenFaults.{IsBetween, IsTagManifestOf, IsUnlistedByV097, MayBeListed, named_by}
use Rattle.bag_renew.proofs.BetweenFaults.{other_kind}
use Rattle.bag_changes.proofs.Contents.{these_files}
use Rattle.bag_renew.proofs.InChanges.{open_in}
use Rattle.bag_changes.proofs.KeptOr.{becomes_v10, is_old}
use Rattle.bag_renew.proofs.ManyChanges.{not_named}
use Rattle.bag_renew.proofs.OnTheWayChanges.{AllIn, declaration_unnamed, declared_or_not, first_or_later, left, made}
use Rattle.bag_renew.proofs.OnTheWayChanges.{no_remove_last, opened_or_not, payload_not_put, payload_not_removed}
use Rattle.bag_renew.proofs.OnTheWayChanges.{put_or_not, tag_not_put, tags_names, tags_put, till_dropped}
use Rattle.bag_renew.proofs.OnTheWayFiles.{as_bag, as_new, at_mid, fetch_stays, fetch_will_be, has_known, info_is}
use Rattle.bag_renew.proofs.OnTheWayFiles.{either, mid_from, new_begun, new_from, no_manifest, payload_will_be}
use Rattle.bag_renew.proofs.OnTheWayFiles.{put_is_new, renewed_names, same_folders, same_rules, still_there, was_put}
use Rattle.bag_renew.proofs.OnTheWayFiles.{as_renewed, while_opening}
use Rattle.bag_renew.proofs.ReadAlike.{ReadAlike, SplitAlike, info_alike, manifest_alike}
use Rattle.bag_renew.proofs.RenewedNames.{by_new_rules, one_manifest}
use Rattle.bag_renew.proofs.TagNames.{not_tag_manifest}
use Rattle.bag_renew.proofs.Telling.{v10_named}

-- ---- a name without a %

tag_percent : (tag : TagName) → has_percent (tag_path tag) ≡ false
tag_percent Declaration = refl
tag_percent Info = refl
tag_percent Fetch = refl
tag_percent (Manifest Payload Md5) = refl
tag_percent (Manifest Payload Sha1) = refl
tag_percent (Manifest Payload Sha224) = refl
tag_percent (Manifest Payload Sha256) = refl
tag_percent (Manifest Payload Sha384) = refl
tag_percent (Manifest Payload Sha512) = refl
tag_percent (Manifest Tag Md5) = refl
tag_percent (Manifest Tag Sha1) = refl
tag_percent (Manifest Tag Sha224) = refl
tag_percent (Manifest Tag Sha256) = refl
tag_percent (Manifest Tag Sha384) = refl
tag_percent (Manifest Tag Sha512) = refl

pub renewed_percent : (bag : Bag) (renewal : Renewal) → HasNoPercent bag → HasNoPercent (renewed bag renewal)
renewed_percent bag renewal none path has =
    let c = content_of (file (renewed bag renewal) path) has in
    elim ((these_files bag renewal path c.0).0 c.1) [
      | inl stayed ↦ none path (ap is_some stayed.0)
      | inr written ↦ ap has_percent written.1 ∙ tag_percent written.0
    ]

-- ---- what is written is read alike by the rules of 0.97

module _ (bag : Bag) (renewal : Renewal) (none : HasNoPercent bag) (info : HasGoodInfo bag renewal)
    (names : NamesItsFiles (renewed bag renewal)) (v10 : IsByV10 (renewed bag renewal)) where
  abbrev new : Bag
  new = renewed bag renewal

  manifest_by : (kind : Kind) (alg : Alg) (o : Option (List ℕ)) → file new (manifest_of kind alg) ≡ o
      → ReadAlike V097 V10 kind alg (lines_or_none o)
  manifest_by kind alg None at = λ line has some. absurd (contains_nothing line has)
  manifest_by kind alg (Some text) at =
      let told = subst (λ rules. NamesFiles rules new kind alg text) v10 (names.told kind alg text at) in
      manifest_alike kind alg text told.no_fault (λ path named.
      renewed_percent bag renewal none path (told.there path named).0)

  pub manifests_alike : (kind : Kind) (alg : Alg) → ReadAlike V097 V10 kind alg (lines_in new (manifest_of kind alg))
  manifests_alike kind alg = manifest_by kind alg (file new (manifest_of kind alg)) refl

  no_info_fault : (text : List ℕ) → file new bag_info_txt ≡ Some text → (f : LineFault) → f.code ≡ InfoLine
      → IsInfoFault V10 text f → ⊥
  unfolding IsOfMetadata MetadataHolds asks
  no_info_fault text at f is wrong =
      let f_so : LineFault = record { line = f.line; code = InfoLine; detail = f.detail } in
      let same : f ≡ f_so = λ i. record { line = f.line; code = is i; detail = f.detail } in
      let fault : Fault = record { code = InfoLine; path = bag_info_txt; alg = None; line = f.line; detail = f.detail }
      in
      info.no_fault fault (
        refl,
        refl,
        (
          text,
          at,
          subst (λ rules. IsInfoFault rules text f_so) (sym v10)
              (subst (IsInfoFault V10 text) same wrong),
        ),
      ) refl

  info_by : (o : Option (List ℕ)) → file new bag_info_txt ≡ o → SplitAlike V097 V10 (lines_or_none o)
  info_by None at = λ line has begins. absurd (contains_nothing line has)
  info_by (Some text) at = info_alike text (no_info_fault text at)

  pub metadata_alike : SplitAlike V097 V10 (lines_in new bag_info_txt)
  metadata_alike = info_by (file new bag_info_txt) refl

-- ---- nothing is kept

module _ (bag : Bag) (renewal : Renewal) (changes_rules : keeps bag renewal ≡ false) where
  unkept_path : (path : List ℕ) → is_kept bag renewal path ≡ false
  unkept_path path = ap (λ b. b && has_file bag path) changes_rules

  -- the renewed bag is of 1.0
  pub by_v10 : IsByV10 (renewed bag renewal)
  by_v10 = by_new_rules bag renewal ∙ becomes_v10 bag renewal changes_rules

-- ---- the bags on the way

module _ (bag : Bag) (renewal : Renewal) (k : ℕ) (can : CanRenewInPlace bag renewal)
    (changes_rules : keeps bag renewal ≡ false) (none : HasNoPercent bag) where
  abbrev mid : Bag
  mid = after bag renewal k

  abbrev now : Bag
  now = renewed bag renewal

  abbrev first : List FileChange
  first = made bag renewal k

  abbrev later : List FileChange
  later = left bag renewal k

  v097 : IsByV097 bag
  v097 = is_old bag renewal changes_rules

  now_v10 : IsByV10 now
  now_v10 = by_v10 bag renewal changes_rules

  names_new : NamesItsFiles now
  names_new = renewed_names bag renewal k can

  no_old_list : LacksFile bag fetch_txt
  no_old_list = elim can.can.fetch [
    | inl keeps_it ↦ absurd (false≢true (sym changes_rules ∙ keeps_it))
    | inr lacks ↦ lacks
  ]

  pub no_list : LacksFile mid fetch_txt
  no_list = ap is_some (fetch_stays bag renewal k can) ∙ no_old_list

  -- ---- until the declaration is put

  module _ (early : AllIn first (till_dropped bag renewal)) where
    declaration_stays : file mid bagit_txt ≡ file bag bagit_txt
    declaration_stays =
        at_mid bag renewal k can bagit_txt
        ∙ not_named first bagit_txt (file bag bagit_txt) (λ d has. declaration_unnamed bag renewal d (early d has))

    mid_v097 : IsByV097 mid
    mid_v097 = same_rules mid bag declaration_stays ∙ v097

    as_old : AreAlike mid bag
    as_old = as_bag bag renewal k can declaration_stays

    as_now : AreAlike mid now
    as_now = record {
      v10 = λ ruled. now_v10;
      manifests = λ kind alg.
          subst (λ rules. ReadAlike rules (rules_in now) kind alg (lines_in now (manifest_of kind alg))) (sym mid_v097)
          (subst (λ rules. ReadAlike V097 rules kind alg (lines_in now (manifest_of kind alg)))
          (sym now_v10) (manifests_alike bag renewal none can.info names_new now_v10 kind alg));
      metadata =
          subst (λ rules. SplitAlike rules (rules_in now) (lines_in now bag_info_txt)) (sym mid_v097)
          (subst (λ rules. SplitAlike V097 rules (lines_in now bag_info_txt)) (sym now_v10)
          (metadata_alike bag renewal none can.info names_new now_v10));
      list = λ has.
          absurd (false≢true (sym no_list ∙ ap is_some (fetch_will_be bag renewal k can) ∙ has));
      fetch = fetch_will_be bag renewal k can;
      payload_file = payload_will_be bag renewal k can;
    }

    -- ---- what payload manifests leave out

    module _ (path : List ℕ) (there : IsPayloadFile mid path) where
      -- a manifest that was put names each file of the payload
      put_names : (alg : Alg) (c : List ℕ) → file mid (manifest_of Payload alg) ≡ Some c
          → file now (manifest_of Payload alg) ≡ Some c → Names mid Payload alg path
      put_names alg c at written =
          names_now mid now as_now Payload alg (at ∙ sym written) path
          (v10_named now names_new now_v10 alg path (ap is_some written)
          (ap is_some (sym (payload_will_be bag renewal k can path there.1)) ∙ there.0, there.1))

      module _ (unnamed : ¬ (IsNamedBySome mid path)) where
        -- so none was put
        was_there : (alg : Alg) → HasSupported mid Payload alg
            → file mid (manifest_of Payload alg) ≡ file bag (manifest_of Payload alg)
        was_there alg has =
            let c = content_of (file mid (manifest_of Payload alg)) has in
            elim (either bag renewal k can (manifest_of Payload alg) c.0 c.1) [
              | inl old ↦ c.1 ∙ sym old
              | inr written ↦ absurd (unnamed (alg, put_names alg c.0 c.1 written))
            ]

        -- and none was removed, since that comes after
        none_named : (alg : Alg) → Names bag Payload alg path → ⊥
        none_named alg names = elim (put_or_not bag renewal k) [
          | inl puts ↦ (
              let has =
              still_there bag renewal k can (manifest_of Payload alg)
              (ap is_some (named_by bag Payload alg path names).1)
              (λ removed. payload_not_removed bag renewal (name alg) (puts (Remove (manifest_of Payload alg)) removed))
              in
              unnamed (alg, names_now mid bag as_old Payload alg (was_there alg has) path names))
          | inr drops ↦ (
              let one = one_manifest bag renewal can.can.some_alg in
              let text = content_of (file now (manifest_of Payload one.0)) one.1 in
              elim (new_from bag renewal k can (manifest_of Payload one.0) text.0 text.1) [
                | inl puts ↦ payload_not_put bag renewal (name one.0) text.0
                    (drops (Put (manifest_of Payload one.0) text.0) puts)
                | inr stays_put ↦ unnamed (one.0, put_names one.0 text.0 stays_put.0 text.1)
              ])
        ]

      left_out : IsLeftOutByAll mid path → IsLeftOutByAll bag path
      left_out ((alg, has), unnamed) =
          ((alg, ap is_some (sym (was_there unnamed alg has)) ∙ has), λ named. none_named unnamed named.0 named.1)

    unlisted : (path : List ℕ) → MayBeListed mid path → IsLeftOutByAll mid path
        → IsUnlistedByV097 bag path ⊎ IsUnlistedByV097 now path
    unlisted path (inl there) out = inl (v097, left_out path there out)
    unlisted path (inr has_list) out = absurd (false≢true (sym no_list ∙ has_list))

    early_tags : (alg : Alg) (text : List ℕ) → file mid (manifest_of Tag alg) ≡ Some text
        → IsTagManifestOf bag mid alg text
    early_tags alg text at = elim (opened_or_not bag renewal k) [
      | inl opens ↦ while_opening bag renewal k can opens alg text at
      | inr ends ↦ absurd (tag_not_put bag renewal alg text
          (early (Put (manifest_of Tag alg) text) (was_put bag renewal k can ends alg text at)))
    ]

    pub early_between : IsBetween mid bag now
    early_between = record {
      rules = inr (record {
        rules = mid_v097;
        left_out = unlisted;
      });
      as_old = as_old;
      as_new = as_now;
      folders = same_folders bag renewal k can;
      declaration = declaration_stays;
      info = info_is bag renewal k can;
      either = λ q c unbegun at. either bag renewal k can q c at;
      no_manifest = no_manifest bag renewal k can;
      tags = λ alg text at. inl (early_tags alg text at);
      old_begun = can.begun;
      new_begun = new_begun bag renewal k can;
    }

  -- ---- and after that

  module _ (late : AllIn later (tags_put bag renewal)) where
    -- all but tag manifests is that of the renewed bag
    pub put_all : (q : List ℕ) → is_manifest_name Tag q ≡ false → file mid q ≡ file now q
    put_all q other = as_renewed bag renewal k can q (λ d more. tags_names bag renewal q other d (late d more))

    -- and so is each tag manifest that is there
    tag_manifest_put : (alg : Alg) (c : List ℕ) → file mid (manifest_of Tag alg) ≡ Some c
        → file now (manifest_of Tag alg) ≡ Some c
    tag_manifest_put alg c at = elim (mid_from bag renewal k can (manifest_of Tag alg) c at) [
      | inl has ↦ put_is_new bag renewal k can (manifest_of Tag alg) c has
      | inr stayed ↦ absurd (elim (first_or_later k (changes bag renewal) (Remove (manifest_of Tag alg))
          (open_in bag renewal alg (ap is_some stayed.0))) [
            | inl has ↦ stayed.1 (Remove (manifest_of Tag alg)) has refl
            | inr has ↦ no_remove_last bag renewal (manifest_of Tag alg) (late (Remove (manifest_of Tag alg)) has)
          ])
    ]

    of_now : (q c : List ℕ) → file mid q ≡ Some c → file now q ≡ Some c
    of_now q c at = by_test (is_manifest_name Tag q) refl
      where
        by_alg : (alg : List ℕ) → q ≡ manifest_name Tag alg → (a : Alg) × (alg ≡ name a) → file now q ≡ Some c
        by_alg alg named (a, is) =
            let path : q ≡ manifest_of Tag a = named ∙ ap (manifest_name Tag) is in
            ap (file now) path ∙ tag_manifest_put a c (ap (file mid) (sym path) ∙ at)

        of_tag : is_manifest_name Tag q ≡ true → file now q ≡ Some c
        of_tag is =
            let n = is_named Tag q is in
            elim (either bag renewal k can q c at) [
              | inl old ↦ by_alg n.0 n.2
                  (has_known bag renewal k can Tag n.0 (n.1, ap (λ p. has_file bag p) (sym n.2) ∙ ap is_some old))
              | inr written ↦ written
            ]

        by_test : (b : Bool) → is_manifest_name Tag q ≡ b → file now q ≡ Some c
        by_test true is = of_tag is
        by_test false other = sym (put_all q other) ∙ at

    declaration_put : file mid bagit_txt ≡ file now bagit_txt
    declaration_put = put_all bagit_txt (not_tag_manifest Declaration tt)

    as_now_too : AreAlike mid now
    as_now_too = as_new bag renewal k can declaration_put

    now_folders : mid.folders ≡ now.folders
    unfolding renewed
    now_folders = same_folders bag renewal k can

    late_tags : (alg : Alg) (text : List ℕ) → file mid (manifest_of Tag alg) ≡ Some text
        → IsTagManifestOf now mid alg text
    late_tags alg text at = record {
      text_is = of_now (manifest_of Tag alg) text at;
      files = λ q other unbegun. put_all q other;
    }

    pub late_between : IsBetween mid now now
    late_between = record {
      rules = inl (same_rules mid now declaration_put ∙ now_v10);
      as_old = as_now_too;
      as_new = as_now_too;
      folders = now_folders;
      declaration = declaration_put;
      info = inl (put_all bag_info_txt (not_tag_manifest Info tt));
      either = λ q c unbegun at. inl (of_now q c at);
      no_manifest = λ lacks. inl (λ alg has.
          lacks alg (has.0, ap is_some (put_all (manifest_name Payload alg) (other_kind alg)) ∙ has.1));
      tags = λ alg text at. inl (late_tags alg text at);
      old_begun = new_begun bag renewal k can;
      new_begun = new_begun bag renewal k can;
    }

  pub early_or_late : AllIn first (till_dropped bag renewal) ⊎ AllIn later (tags_put bag renewal)
  early_or_late = declared_or_not bag renewal k (unkept_path bag renewal changes_rules bagit_txt)

  pub between_v097 : IsBetween mid bag now ⊎ IsBetween mid now now
  between_v097 = elim early_or_late [
    | inl early ↦ inl (early_between early)
    | inr late ↦ inr (late_between late)
  ]
