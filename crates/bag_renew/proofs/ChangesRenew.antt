-- All changes of a renewal make the renewed bag.
use Rattle.bag_renew.proofs.Common.{◌≡◌, ◌≢◌, ◌++◌, ◌∷◌, ◌⊎◌, inl, inr, ℕ, Bool, true, false, not, cond, List, []}
use Rattle.bag_renew.proofs.Common.{map, Option, Some, is_some, refl, sym, ap, ◌∙◌, subst, Contains, ◌||◌, or_left}
use Rattle.bag_renew.proofs.Common.{take, under, unwrap_or, and_from, and_parts, false_from_ne_true, false≢true}
use Rattle.bag_renew.proofs.Common.{bytes_eq, bytes_eq-Decides, nat_list_cmp_total, fold-append, AllByRecursion}
use Rattle.bag_renew.proofs.Common.{contains_either, contains_mapped, paths_differ, has_member, is_payload_path}
use Rattle.bag_renew.proofs.Common.{is_manifest_name, manifest_name, tag_path, Kind, Payload, Tag, TagName}
use Rattle.bag_renew.proofs.Common.{Declaration, Info, Fetch, Manifest, Alg, Bag, IsBag, HasFile, file, has_file}
use Rattle.bag_renew.proofs.Common.{exact_texts, after_changes, FileChange, Put, Remove, changes, clearing}
use Rattle.bag_renew.proofs.Common.{closing, dropping, opening, put, putting, unkept, ChangesKeepPayload}
use Rattle.bag_renew.proofs.Common.{ChangesRenew, HasKnownManifests, IsOutOfTheWay, File, begun_file}
use Rattle.bag_renew.proofs.Common.{algs_where, has_payload_manifest, has_tag_manifest, is_kept}
use Rattle.bag_renew.proofs.Common.{is_new_alg, keeps, kept_or, manifest_by, new_algs, new_rules, payload}
use Rattle.bag_renew.proofs.Common.{payload_manifests, is_dropped_alg}
use Rattle.bag_renew.proofs.Common.{stays, tag_manifests, writes_info, Renewal, last_files, written_info}
use Rattle.bag_renewed.specs.Renewed.{renewed}
use Rattle.std.specs.FinMap as fin
use Rattle.bag_tags.specs.Declaration.{declaration_text}
use Rattle.bag_changes.proofs.AlgsWhere.{alg_in, passes}
use Rattle.bag_read.proofs.ManifestName.{is_named}
use Rattle.bag_changes.specs.Contents.{IsNew, IsNewText, Stands}
use Rattle.bag_changes.proofs.Contents.{both_new, these_files}
use Rattle.bag_renew.proofs.ChangedNames.{back, info_text, are_of_files, of_changes}
use Rattle.bag_renew.proofs.InChanges.{put_in_back, put_in_changes, in_back, declaration_in, info_in, manifest_in}
use Rattle.bag_renew.proofs.InChanges.{tag_manifest_in, drop_in, open_in, clear_in, remove_in_puts}
use Rattle.bag_renew.proofs.ManyChanges.{came_from, not_named, not_named_all, put_stays}
use Rattle.bag_changes.proofs.Members.{tag_listed}
use Rattle.bag_changes.proofs.Staying.{IsWritten, itself, no_begun, no_payload_name, no_payload_tag, so_it_stays}
use Rattle.bag_changes.proofs.Staying.{stays_so, written_goes}
use Rattle.bag_facts.proofs.Found.{content_of, same_option}
use Rattle.bag_renew.proofs.OneChange.{all_level, at_changes, first_are, itself_level, name_of, stays_below}
use Rattle.bag_renew.proofs.OneChange.{with_change, with_changes}

true_unless : (b : Bool) → (b ≡ false → ⊥) → b ≡ true
true_unless true other = refl
true_unless false other = absurd (other refl)

module _ (bag : Bag) (renewal : Renewal) where
  abbrev last : List FileChange
  last = back bag renewal

  abbrev new_info : List ℕ
  new_info = info_text bag renewal

  -- ---- what no change is of stays

  module _ (known : HasKnownManifests bag) (q c : List ℕ) (at : file bag q ≡ Some c)
      (none : (d : FileChange) → Contains (changes bag renewal) d → q ≢ name_of d) where
    there : HasFile bag q
    there = ap is_some at

    -- what is kept has the bytes that it had
    kept_text : (path new : List ℕ) → q ≡ path → is_kept bag renewal path ≡ true → c ≡ kept_or bag renewal path new
    kept_text path new same is =
        sym (ap (λ b. cond b (unwrap_or (file bag path) new) new) (and_parts (keeps bag renewal) (has_file bag path) is).0
        ∙ ap (λ o. unwrap_or o new) (ap (file bag) (sym same) ∙ at))

    as_declaration : q ≡ tag_path Declaration → IsNew bag renewal q c
    as_declaration same = (
      Declaration,
      same,
      kept_text (tag_path Declaration) declaration_text same
          (true_unless (is_kept bag renewal (tag_path Declaration))
          (λ out. none _ (in_back bag renewal _ (declaration_in bag renewal out)) same)),
    )

    as_info : q ≡ tag_path Info → IsNew bag renewal q c
    as_info same = (Info, same, by_test (writes_info bag renewal) refl)
      where
        by_test : (b : Bool) → writes_info bag renewal ≡ b
            → cond (writes_info bag renewal) (Some new_info) (file bag (tag_path Info)) ≡ Some c
        by_test true is =
            absurd (none _ (in_back bag renewal _ (info_in bag renewal is new_info
            (ap (λ b. cond b (Some new_info) (file bag (tag_path Info))) is))) same)
        by_test false is =
            ap (λ b. cond b (Some new_info) (file bag (tag_path Info))) is ∙ ap (file bag) (sym same) ∙ at

    as_manifest : (alg : Alg) → q ≡ tag_path (Manifest Payload alg) → IsNew bag renewal q c
    as_manifest alg same = (Manifest Payload alg, same, (new, kept_text path text same by_kept))
      where
        path : List ℕ
        path = tag_path (Manifest Payload alg)

        text : List ℕ
        text = manifest_by (new_rules bag renewal) alg (payload bag)

        has : HasFile bag (tag_path (Manifest Payload alg))
        has = subst (HasFile bag) same there

        not_dropped : has_member renewal.dropped alg ≡ false
        not_dropped =
            false_from_ne_true _ (λ dropped. none _ (in_back bag renewal _ (drop_in bag renewal alg has dropped)) same)

        new : Contains (new_algs bag renewal) alg
        new =
            alg_in (is_new_alg bag renewal) alg
            (and_from (has_payload_manifest bag alg || has_member renewal.added alg)
            (not (has_member renewal.dropped alg))
            (or_left (has_payload_manifest bag alg) (has_member renewal.added alg) has) (ap not not_dropped))

        by_kept : is_kept bag renewal (tag_path (Manifest Payload alg)) ≡ true
        by_kept =
            true_unless (is_kept bag renewal (tag_path (Manifest Payload alg)))
            (λ out. none _ (in_back bag renewal _ (manifest_in bag renewal alg new out)) same)

    named_manifest : (kind : Kind) → is_manifest_name kind q ≡ true
        → (alg : Alg) × (q ≡ tag_path (Manifest kind alg))
    named_manifest kind is =
        let n = is_named kind q is in
        let a = known kind n.0 (n.1, subst (HasFile bag) n.2 there) in (a.0, n.2 ∙ ap (manifest_name kind) a.1)

    it_stays : is_payload_path q ≡ false → bytes_eq q (tag_path Declaration) ≡ false
        → bytes_eq q (tag_path Info) ≡ false → is_manifest_name Payload q ≡ false → stays q ≡ true
    it_stays outside other no_info no_manifest = so_it_stays q (record {
      outside = ap not outside;
      declaration = ap not other;
      info = ap not no_info;
      payload_manifest = ap not no_manifest;
      tag_manifest = ap not (false_from_ne_true _ (λ is.
          let m = named_manifest Tag is in none _ (open_in bag renewal m.0 (subst (HasFile bag) m.1 there)) m.1));
      begun = ap not (false_from_ne_true _ (λ is.
          let same = (bytes_eq-Decides q begun_file).0 is in
          none _ (clear_in bag renewal (subst (HasFile bag) same there)) same));
    })

    pub it_stands : Stands bag renewal q c
    it_stands =
        by_test (is_payload_path q) (bytes_eq q (tag_path Declaration)) (bytes_eq q (tag_path Info))
        (is_manifest_name Payload q) refl refl refl refl
      where
        by_test : (in_it declares informs names : Bool) → is_payload_path q ≡ in_it
            → bytes_eq q (tag_path Declaration) ≡ declares → bytes_eq q (tag_path Info) ≡ informs
            → is_manifest_name Payload q ≡ names → Stands bag renewal q c
        by_test true d i n in_it declares informs names = inl (at, inl in_it)
        by_test false true i n in_it declares informs names =
            inr (as_declaration ((bytes_eq-Decides q (tag_path Declaration)).0 declares))
        by_test false false true n in_it declares informs names =
            inr (as_info ((bytes_eq-Decides q (tag_path Info)).0 informs))
        by_test false false false true in_it declares informs names =
            inr (let m = named_manifest Payload names in as_manifest m.0 m.1)
        by_test false false false false in_it declares informs names =
            inl (at, inr (it_stays in_it declares informs names))

  -- ---- and the other way round

  -- the file is left as it is: it stands there, and is no tag manifest
  abbrev IsLeft : TagName → List ℕ → Type 0
  IsLeft tag c = (file bag (tag_path tag) ≡ Some c) × ((alg : Alg) → tag ≢ Manifest Tag alg)

  still_there : (path new c : List ℕ) → is_kept bag renewal path ≡ true → c ≡ kept_or bag renewal path new → file bag path ≡ Some c
  still_there path new c is text =
      let both = and_parts (keeps bag renewal) (has_file bag path) is in
      let content = content_of (file bag path) both.1 in
      content.1
      ∙ ap Some (sym (text ∙ ap (λ b. cond b (unwrap_or (file bag path) new) new) both.0
      ∙ ap (λ o. unwrap_or o new) content.1))

  new_in : (tag : TagName) (c : List ℕ) → IsNewText bag renewal tag c
      → Contains last (Put (tag_path tag) c) ⊎ IsLeft tag c
  new_in Declaration c h = by_test (is_kept bag renewal (tag_path Declaration)) refl
    where
      by_test : (b : Bool) → is_kept bag renewal (tag_path Declaration) ≡ b
          → Contains last (Put (tag_path Declaration) c) ⊎ IsLeft Declaration c
      by_test true is =
          inr (
            still_there (tag_path Declaration) declaration_text c is h,
            λ alg same. let clash : Declaration ≡ Manifest Tag alg = same in cc,
          )
      by_test false out =
          inl (subst (λ c. Contains last (Put (tag_path Declaration) c)) (sym h) (declaration_in bag renewal out))
  new_in Info c h = by_test (writes_info bag renewal) refl
    where
      by_test : (b : Bool) → writes_info bag renewal ≡ b
          → Contains last (Put (tag_path Info) c) ⊎ IsLeft Info c
      by_test true is = inl (info_in bag renewal is c h)
      by_test false is =
          inr (
            sym (ap (λ b. cond b (Some new_info) (file bag (tag_path Info))) is) ∙ h,
            λ alg same. let clash : Info ≡ Manifest Tag alg = same in cc,
          )
  new_in Fetch c h = absurd h
  new_in (Manifest Payload a) c h = by_test (is_kept bag renewal (tag_path (Manifest Payload a))) refl
    where
      by_test : (b : Bool) → is_kept bag renewal (tag_path (Manifest Payload a)) ≡ b
          → Contains last (Put (tag_path (Manifest Payload a)) c) ⊎ IsLeft (Manifest Payload a) c
      by_test true is =
          inr (
            still_there (tag_path (Manifest Payload a)) (manifest_by (new_rules bag renewal) a (payload bag)) c is h.1,
            λ alg same. let clash : Manifest Payload a ≡ Manifest Tag alg = same in cc,
          )
      by_test false out =
          inl (subst (λ c. Contains last (Put (tag_path (Manifest Payload a)) c)) (sym h.1)
          (manifest_in bag renewal a h.0 out))
  new_in (Manifest Tag a) c h =
      inl (subst (λ c. Contains last (Put (tag_path (Manifest Tag a)) c)) (sym h.1)
      (tag_manifest_in bag renewal _ (tag_listed bag renewal a h.0)))

  -- the changes before them leave such a file
  module _ (tag : TagName) (other : (alg : Alg) → tag ≢ Manifest Tag alg) (o : Option (List ℕ)) where
    past_opening : with_changes (opening bag renewal) (tag_path tag) o ≡ o
    past_opening =
        not_named (opening bag renewal) (tag_path tag) o (λ d has same.
        let m =
        contains_mapped (λ alg. Remove (tag_path (Manifest Tag alg))) (algs_where (has_tag_manifest bag)) d has in
        other m.0 (paths_differ tag (Manifest Tag m.0) (same ∙ ap name_of (sym m.2))))

    past_clearing : with_changes (clearing bag renewal) (tag_path tag) o ≡ o
    past_clearing =
        not_named_all (clearing bag renewal) (tag_path tag) o (not_begun (has_file bag begun_file))
      where
        not_begun : (b : Bool)
            → AllByRecursion (λ d. tag_path tag ≢ name_of d) (cond b (Remove begun_file ∷ []) [])
        not_begun true = (λ same. no_begun tag (sym same), tt)
        not_begun false = tt

  not_dropped : (alg : Alg) → Contains (new_algs bag renewal) alg → has_member renewal.dropped alg ≡ true → ⊥
  not_dropped alg has dropped =
      let test =
      and_parts (has_payload_manifest bag alg || has_member renewal.added alg)
      (not (has_member renewal.dropped alg)) (passes (is_new_alg bag renewal) alg has) in
      false≢true (sym (ap not dropped) ∙ test.1)

  none_removed : (q c : List ℕ) → IsNew bag renewal q c → Contains last (Remove q) → ⊥
  none_removed q c (tag, path, text) has =
      elim (contains_either (putting bag renewal) (dropping bag renewal ++ closing bag renewal) (Remove q) has) [
        | inl puts ↦ removed_in_two (written_info bag renewal) (unkept bag renewal (payload_manifests bag renewal)) puts
        | inr more ↦ elim (contains_either (dropping bag renewal) (closing bag renewal) (Remove q) more) [
          | inl drops ↦ dropped_one (contains_mapped (λ alg. Remove (tag_path (Manifest Payload alg)))
              (algs_where (is_dropped_alg bag renewal)) (Remove q) drops)
          | inr ends ↦ removed_in_two (last_files bag renewal) (tag_manifests bag renewal) ends
        ]
      ]
    where
      removed_in_two : (es fs : List File) → Contains (map put es ++ map put fs) (Remove q) → ⊥
      removed_in_two es fs two = elim (contains_either (map put es) (map put fs) (Remove q) two) [
        | inl one ↦ remove_in_puts bag renewal es q one
        | inr one ↦ remove_in_puts bag renewal fs q one
      ]

      same_path : (n : List ℕ) → Remove n ≡ Remove q → n ≡ q
      same_path n same = cc

      dropped_one : (alg : Alg) × Contains (algs_where (is_dropped_alg bag renewal)) alg
          × (Remove (tag_path (Manifest Payload alg)) ≡ Remove q) → ⊥
      dropped_one (alg, in_it, same) =
          let tag_is : tag ≡ Manifest Payload alg =
          paths_differ tag (Manifest Payload alg)
          (sym path ∙ sym (same_path (tag_path (Manifest Payload alg)) same)) in
          not_dropped alg (subst (λ t. IsNewText bag renewal t c) tag_is text).0
          (and_parts (has_payload_manifest bag alg) (has_member renewal.dropped alg)
          (passes (is_dropped_alg bag renewal) alg in_it)).1

  pub to_stand : (q c : List ℕ) → Stands bag renewal q c
      → with_changes (changes bag renewal) q (file bag q) ≡ Some c
  to_stand q c (inl old) =
      not_named_all (changes bag renewal) q (file bag q)
      (of_changes bag renewal (λ n. q ≢ n) (λ tag written same. not_tag tag written same) not_begun) ∙ old.0
    where
      not_begun : q ≢ begun_file
      not_begun same = elim old.1 [
        | inl is ↦ no_payload_name begun_file refl (ap is_payload_path (sym same) ∙ is)
        | inr is ↦ itself begun_file (stays_so begun_file (ap stays (sym same) ∙ is)).begun
      ]

      not_tag : (tag : TagName) → IsWritten tag → q ≡ tag_path tag → ⊥
      not_tag tag written same = elim old.1 [
        | inl is ↦ no_payload_tag tag (ap is_payload_path (sym same) ∙ is)
        | inr is ↦ written_goes tag written (ap stays (sym same) ∙ is)
      ]
  to_stand q c (inr new) =
      parts
      ∙ put_stays last q c _ (put_or_left (new_in new.0 c new.2))
      (λ d has. both_new bag renewal q d c (put_in_back bag renewal q d has) new) (none_removed q c new)
    where
      opened : List ℕ → Option (List ℕ)
      opened p = with_changes (opening bag renewal) p (file bag p)

      put_or_left : Contains last (Put (tag_path new.0) c) ⊎ IsLeft new.0 c
          → Contains last (Put q c) ⊎ (with_changes (clearing bag renewal) q (opened q) ≡ Some c)
      put_or_left (inl has) = inl (subst (λ p. Contains last (Put p c)) (sym new.1) has)
      put_or_left (inr left) =
          inr (subst (λ p. with_changes (clearing bag renewal) p (opened p) ≡ Some c) (sym new.1)
          (past_clearing new.0 left.1 (opened (tag_path new.0))
          ∙ past_opening new.0 left.1 (file bag (tag_path new.0)) ∙ left.0))

      parts : with_changes (changes bag renewal) q (file bag q)
          ≡ with_changes last q (with_changes (clearing bag renewal) q (opened q))
      parts =
          fold-append (λ o change. with_change change q o) (file bag q) (opening bag renewal)
          (clearing bag renewal ++ last)
          ∙ fold-append (λ o change. with_change change q o) (with_changes (opening bag renewal) q (file bag q))
          (clearing bag renewal) last

  pub from_stand : HasKnownManifests bag → (q c : List ℕ)
      → with_changes (changes bag renewal) q (file bag q) ≡ Some c → Stands bag renewal q c
  from_stand known q c at = elim (came_from (changes bag renewal) q c (file bag q) at) [
    | inl has ↦ inr (put_in_changes bag renewal q c has)
    | inr stayed ↦ it_stands known q c stayed.0 stayed.1
  ]

  same_files : IsBag bag → HasKnownManifests bag → IsOutOfTheWay bag → (q : List ℕ)
      → file (after_changes (changes bag renewal) bag) q ≡ file (renewed bag renewal) q
  same_files is known way q =
      let at = at_changes bag (changes bag renewal) bag (are_of_files bag renewal way) (itself_level bag is) q in
      same_option _ _
      (λ c stands. (these_files bag renewal q c).1 (from_stand known q c (sym at ∙ stands)))
      (λ c stands. at ∙ to_stand q c ((these_files bag renewal q c).0 stands))

  renewed_folders : (renewed bag renewal).folders ≡ bag.folders
  unfolding renewed
  renewed_folders = refl

  pub they_renew : IsBag bag → HasKnownManifests bag → IsOutOfTheWay bag
      → after_changes (changes bag renewal) bag ≡ renewed bag renewal
  they_renew is known way =
      let files =
      fin.same_map nat_list_cmp_total exact_texts (after_changes (changes bag renewal) bag).files
      (renewed bag renewal).files (same_files is known way) in
      let folders =
      (all_level bag (changes bag renewal) bag (are_of_files bag renewal way) (itself_level bag is)).folders
      ∙ sym renewed_folders in (λ i. record { files = files i; folders = folders i })

pub changes_renew : ChangesRenew
changes_renew bag renewal is known way = they_renew bag renewal is known way

pub payload_stays : ChangesKeepPayload
payload_stays bag renewal k folder rest is way =
    let are = first_are bag k (changes bag renewal) (are_of_files bag renewal way) in
    at_changes bag (take k (changes bag renewal)) bag are (itself_level bag is) (under folder rest)
    ∙ stays_below bag (take k (changes bag renewal)) folder rest (file bag (under folder rest)) are
