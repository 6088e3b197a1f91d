-- Which of the changes of a renewal are made first, and what each of its parts puts and removes.
use Rattle.bag_renew.proofs.Common.{◌≡◌, ◌≢◌, ◌++◌, ◌∷◌, ◌⊎◌, ◌∙◌, inl, inr, ℕ, zero, suc, Bool, true, false, cond}
use Rattle.bag_renew.proofs.Common.{List, [], Option, None, Some, is_some, refl, sym, ap, subst, Contains, take, map}
use Rattle.bag_renew.proofs.Common.{append_assoc, and_parts, not, false≢true, eq_by_cmp, text_cmp, one_text}
use Rattle.bag_renew.proofs.Common.{contains_back, contains_behind, contains_cases, contains_either, contains_first}
use Rattle.bag_renew.proofs.Common.{contains_front, contains_mapped, contains_nothing, paths_differ, has_member}
use Rattle.bag_renew.proofs.Common.{tag_path, Kind, Payload, is_manifest_name, manifest_name, name, name_is_text}
use Rattle.bag_renew.proofs.Common.{TagName, Tag, Declaration, Info, Manifest, Alg, Bag, file, has_file, FileChange}
use Rattle.bag_renew.proofs.Common.{Put, Remove, changes, clearing, closing, dropping, opening, put, putting, unkept}
use Rattle.bag_renew.proofs.Common.{File, begun_file, declaration_file, algs_where, has_payload_manifest}
use Rattle.bag_renew.proofs.Common.{has_tag_manifest, is_kept, manifest_by, named_tag_files, new_algs, new_rules, payload_manifest}
use Rattle.bag_renew.proofs.Common.{payload_manifests, tag_manifests, with_path, writes_info, Renewal, last_files}
use Rattle.bag_renew.proofs.Common.{written_info, is_dropped_alg}
use Rattle.std.proofs.Common.{drop, take-append-drop}
use Rattle.bag_facts.proofs.Mapped.{kept}
use Rattle.bag_read.proofs.ManifestName.{named_is}
use Rattle.bag_changes.proofs.AlgsWhere.{passes}
use Rattle.bag_renew.proofs.BetweenFaults.{no_manifest_begun}
use Rattle.bag_renew.proofs.ChangedNames.{back, info_text}
use Rattle.bag_renew.proofs.OneChange.{name_of, with_change, with_changes}
use Rattle.bag_changes.proofs.Staying.{no_begun}
use Rattle.bag_renew.proofs.TagNames.{IsPlain, no_manifest_name, one_kind}

-- ---- the first changes and the others

module _ (k : ℕ) (cs : List FileChange) (d : FileChange) where
  pub in_first : Contains (take k cs) d → Contains cs d
  in_first has =
      subst (λ l. Contains l d) (take-append-drop k cs) (contains_front (take k cs) (drop k cs) d has)

  pub first_or_later : Contains cs d → Contains (take k cs) d ⊎ Contains (drop k cs) d
  first_or_later has =
      contains_either (take k cs) (drop k cs) d (subst (λ l. Contains l d) (sym (take-append-drop k cs)) has)

in_dropped : (k : ℕ) (xs : List FileChange) (d : FileChange) → Contains (drop k xs) d → Contains xs d
in_dropped k xs d has =
    subst (λ l. Contains l d) (take-append-drop k xs) (contains_back (take k xs) (drop k xs) d has)

abbrev pub AllIn : List FileChange → List FileChange → Type 0
AllIn xs ys = (d : FileChange) → Contains xs d → Contains ys d

-- those that are made are of the front, or those that aren't are of the rest
first_or_rest : (k : ℕ) (xs ys : List FileChange) → AllIn (take k (xs ++ ys)) xs ⊎ AllIn (drop k (xs ++ ys)) ys
first_or_rest k [] ys = inr (in_dropped k ys)
first_or_rest zero (x ∷ xs) ys = inl (λ d has. absurd (contains_nothing d has))
first_or_rest (suc k) (x ∷ xs) ys = elim (first_or_rest k xs ys) [
  | inl first ↦ inl (λ d has. elim (contains_cases x (take k (xs ++ ys)) d has) [
    | inl same ↦ subst (Contains (x ∷ xs)) same (contains_first x xs)
    | inr more ↦ contains_behind x xs d (first d more)
  ])
  | inr rest ↦ inr rest
]

-- those that are made are of the front, or those that aren't are of the rest after one more
first_or_after : (k : ℕ) (xs : List FileChange) (d : FileChange) (ys : List FileChange)
    → AllIn (take k (xs ++ (d ∷ ys))) xs ⊎ AllIn (drop k (xs ++ (d ∷ ys))) ys
first_or_after zero xs d ys = inl (λ e has. absurd (contains_nothing e has))
first_or_after (suc k) [] d ys = inr (in_dropped k ys)
first_or_after (suc k) (x ∷ xs) d ys = elim (first_or_after k xs d ys) [
  | inl first ↦ inl (λ e has. elim (contains_cases x (take k (xs ++ (d ∷ ys))) e has) [
    | inl same ↦ subst (Contains (x ∷ xs)) same (contains_first x xs)
    | inr more ↦ contains_behind x xs e (first e more)
  ])
  | inr rest ↦ inr rest
]

-- what stands there and isn't removed still stands there
pub never_lost : (cs : List FileChange) (q : List ℕ) (o : Option (List ℕ)) → is_some o ≡ true
    → (Contains cs (Remove q) → ⊥) → is_some (with_changes cs q o) ≡ true
never_lost [] q o there none = there
never_lost (d ∷ cs) q o there none =
    never_lost cs q (with_change d q o) (one d refl) (λ more. none (contains_behind d cs (Remove q) more))
  where
    by_put : (bytes : List ℕ) (t : Bool) → is_some (cond t (Some bytes) o) ≡ true
    by_put bytes true = refl
    by_put bytes false = there

    by_remove : (name : List ℕ) → d ≡ Remove name → (t : Bool) → eq_by_cmp text_cmp q name ≡ t
        → is_some (cond t None o) ≡ true
    by_remove name is true same =
        absurd (none (subst (Contains (d ∷ cs)) (is ∙ ap Remove (sym (one_text q name same))) (contains_first d cs)))
    by_remove name is false differ = there

    one : (e : FileChange) → d ≡ e → is_some (with_change d q o) ≡ true
    one (Put name bytes) is =
        subst (λ e. is_some (with_change e q o) ≡ true) (sym is) (by_put bytes (eq_by_cmp text_cmp q name))
    one (Remove name) is =
        subst (λ e. is_some (with_change e q o) ≡ true) (sym is) (by_remove name is (eq_by_cmp text_cmp q name) refl)

no_put : (q : List ℕ) (e : File) → Remove q ≡ put e → ⊥
no_put q e same = cc

same_removed : (p q : List ℕ) → Remove p ≡ Remove q → p ≡ q
same_removed p q same = cc

same_put : (q c : List ℕ) (e : File) → Put q c ≡ put e → q ≡ e.0
same_put q c e same = cc

not_a_remove : (q c p : List ℕ) → Put q c ≡ Remove p → ⊥
not_a_remove q c p same = cc

module _ (bag : Bag) (renewal : Renewal) where
  -- ---- what each part changes

  abbrev pub Removes : Kind → FileChange → Type 0
  Removes kind d = (alg : Alg) × (d ≡ Remove (tag_path (Manifest kind alg)))

  abbrev pub PutsAt : (List ℕ → Type 0) → FileChange → Type 0
  PutsAt P d = (e : File) × (d ≡ put e) × P e.0

  in_opening : (d : FileChange) → Contains (opening bag renewal) d → Removes Tag d
  in_opening d has =
      let m =
      contains_mapped (λ alg. Remove (tag_path (Manifest Tag alg))) (algs_where (has_tag_manifest bag)) d has in
      (m.0, sym m.2)

  in_clearing : (d : FileChange) → Contains (clearing bag renewal) d → d ≡ Remove begun_file
  in_clearing d has = by_test (has_file bag begun_file) has
    where
      by_test : (b : Bool) → Contains (cond b (Remove begun_file ∷ []) []) d → d ≡ Remove begun_file
      by_test true has = elim (contains_cases (Remove begun_file) [] d has) [
        | inl same ↦ sym same
        | inr none ↦ absurd (contains_nothing d none)
      ]
      by_test false has = absurd (contains_nothing d has)

  in_puts : (es : List File) (d : FileChange) → Contains (map put es) d → (e : File) × Contains es e × (d ≡ put e)
  in_puts es d has = let m = contains_mapped put es d has in (m.0, m.1, sym m.2)

  -- the metadata, or a payload manifest
  abbrev pub IsPutName : List ℕ → Type 0
  IsPutName q = (q ≡ tag_path Info) ⊎ ((alg : Alg) × (q ≡ tag_path (Manifest Payload alg)))

  info_named : (b : Bool) (text : List ℕ) (there : Option (List ℕ)) (e : File)
      → Contains (cond b (cond b ((tag_path Info, text) ∷ []) (with_path (tag_path Info) there)) []) e
      → e.0 ≡ tag_path Info
  info_named true text there e has = elim (contains_cases {A = File} (tag_path Info, text) [] e has) [
    | inl same ↦ sym (ap (λ (y : File). y.0) same)
    | inr none ↦ absurd (contains_nothing {A = File} e none)
  ]
  info_named false text there e has = absurd (contains_nothing {A = File} e has)

  manifest_named : (e : File) → Contains (unkept bag renewal (payload_manifests bag renewal)) e
      → (alg : Alg) × (e.0 ≡ tag_path (Manifest Payload alg))
  manifest_named e has =
      let m =
      contains_mapped {B = File} (payload_manifest bag renewal) (new_algs bag renewal) e
      (kept (λ (e : File). not (is_kept bag renewal e.0)) (payload_manifests bag renewal) e has).1 in
      (m.0, sym (ap (λ (y : File). y.0) m.2))

  in_putting : (d : FileChange) → Contains (putting bag renewal) d → PutsAt IsPutName d
  in_putting d has =
      elim (contains_either (map put (written_info bag renewal)) (map put (unkept bag renewal (payload_manifests bag renewal))) d
      has) [
        | inl info ↦ (
            let p = in_puts (written_info bag renewal) d info in (
              p.0,
              p.2,
              inl (info_named (writes_info bag renewal) (info_text bag renewal) (file bag (tag_path Info)) p.0 p.1),
            ))
        | inr more ↦ (
            let p = in_puts (unkept bag renewal (payload_manifests bag renewal)) d more in
            (p.0, p.2, inr (manifest_named p.0 p.1)))
      ]

  abbrev pub Drops : FileChange → Type 0
  Drops d =
      (alg : Alg) × (d ≡ Remove (tag_path (Manifest Payload alg))) × (has_member renewal.dropped alg ≡ true)

  in_dropping : (d : FileChange) → Contains (dropping bag renewal) d → Drops d
  in_dropping d has =
      let m =
      contains_mapped (λ alg. Remove (tag_path (Manifest Payload alg))) (algs_where (is_dropped_alg bag renewal)) d has in (
        m.0,
        sym m.2,
        (and_parts (has_payload_manifest bag m.0) (has_member renewal.dropped m.0)
            (passes (is_dropped_alg bag renewal) m.0 m.1)).1,
      )

  -- the declaration, where it isn't kept, or a tag manifest
  abbrev pub IsClosingName : List ℕ → Type 0
  IsClosingName q =
      ((q ≡ tag_path Declaration) × (is_kept bag renewal q ≡ false))
      ⊎ ((alg : Alg) × (q ≡ tag_path (Manifest Tag alg)))

  unnegated : (b : Bool) → not b ≡ true → b ≡ false
  unnegated false e = refl
  unnegated true e = cc

  declaration_named : (e : File) → Contains (last_files bag renewal) e
      → (e.0 ≡ tag_path Declaration) × (is_kept bag renewal e.0 ≡ false)
  declaration_named e has =
      let k = kept (λ (e : File). not (is_kept bag renewal e.0)) (declaration_file bag renewal ∷ []) e has in (
        elim (contains_cases (declaration_file bag renewal) [] e k.1) [
          | inl same ↦ sym (ap (λ (y : File). y.0) same)
          | inr none ↦ absurd (contains_nothing {A = File} e none)
        ],
        unnegated (is_kept bag renewal e.0) k.0,
      )

  in_closing : (d : FileChange) → Contains (closing bag renewal) d → PutsAt IsClosingName d
  in_closing d has =
      elim (contains_either (map put (last_files bag renewal)) (map put (tag_manifests bag renewal)) d
      has) [
        | inl one ↦ (
            let p = in_puts (last_files bag renewal) d one in
            (p.0, p.2, inl (declaration_named p.0 p.1)))
        | inr tags ↦ (
            let p = in_puts (tag_manifests bag renewal) d tags in
            let m =
            contains_mapped {B = File}
            (λ alg. (tag_path (Manifest Tag alg), manifest_by (new_rules bag renewal) alg (named_tag_files bag renewal)))
            (new_algs bag renewal) p.0 p.1 in (p.0, p.2, inr (m.0, sym (ap (λ (y : File). y.0) m.2))))
      ]

  -- ---- the parts, first to last

  -- up to when the tag manifests are removed, the files are put, and the manifests are dropped
  abbrev pub till_opened : List FileChange
  till_opened = opening bag renewal ++ clearing bag renewal

  abbrev pub till_put : List FileChange
  till_put = till_opened ++ putting bag renewal

  abbrev pub till_dropped : List FileChange
  till_dropped = till_put ++ dropping bag renewal

  -- and what is made after that
  abbrev pub after_put : List FileChange
  after_put = dropping bag renewal ++ closing bag renewal

  after_opened : till_opened ++ back bag renewal ≡ changes bag renewal
  after_opened = append_assoc (opening bag renewal) (clearing bag renewal) (back bag renewal)

  put_then : till_put ++ after_put ≡ changes bag renewal
  put_then = append_assoc till_opened (putting bag renewal) after_put ∙ after_opened

  dropped_then : till_dropped ++ closing bag renewal ≡ changes bag renewal
  dropped_then = append_assoc till_put (dropping bag renewal) (closing bag renewal) ∙ put_then

  -- the tag manifests are put last
  abbrev pub tags_put : List FileChange
  tags_put = map put (tag_manifests bag renewal)

  declared_then : is_kept bag renewal (tag_path Declaration) ≡ false
      → till_dropped ++ (put (declaration_file bag renewal) ∷ tags_put) ≡ changes bag renewal
  declared_then out =
      ap (λ b. till_dropped ++ (map put (cond (not b) (declaration_file bag renewal ∷ []) []) ++ tags_put)) (sym out)
      ∙ dropped_then

  module _ (k : ℕ) where
    -- the changes that are made, and those that aren't yet
    abbrev pub made : List FileChange
    made = take k (changes bag renewal)

    abbrev pub left : List FileChange
    left = drop k (changes bag renewal)

    split : (xs ys : List FileChange) → xs ++ ys ≡ changes bag renewal → AllIn made xs ⊎ AllIn left ys
    split xs ys whole = subst (λ cs. AllIn (take k cs) xs ⊎ AllIn (drop k cs) ys) whole (first_or_rest k xs ys)

    pub opened_or_not : AllIn made till_opened ⊎ AllIn left (back bag renewal)
    opened_or_not = split till_opened (back bag renewal) after_opened

    pub put_or_not : AllIn made till_put ⊎ AllIn left after_put
    put_or_not = split till_put after_put put_then

    pub dropped_or_not : AllIn made till_dropped ⊎ AllIn left (closing bag renewal)
    dropped_or_not = split till_dropped (closing bag renewal) dropped_then

    -- where the declaration isn't kept, it isn't put yet, or only tag manifests are left
    pub declared_or_not : is_kept bag renewal (tag_path Declaration) ≡ false → AllIn made till_dropped ⊎ AllIn left tags_put
    declared_or_not out =
        subst (λ cs. AllIn (take k cs) till_dropped ⊎ AllIn (drop k cs) tags_put) (declared_then out)
        (first_or_after k till_dropped (put (declaration_file bag renewal)) tags_put)

  -- ---- what is removed and put

  -- the begun file, or a tag manifest
  pub in_opened : (d : FileChange) → Contains till_opened d → (d ≡ Remove begun_file) ⊎ Removes Tag d
  in_opened d has = elim (contains_either (opening bag renewal) (clearing bag renewal) d has) [
    | inl opens ↦ inr (in_opening d opens)
    | inr clears ↦ inl (in_clearing d clears)
  ]

  -- of those that a renewal writes, all but the payload manifests of algorithms that are dropped stay
  removed_later : (q : List ℕ) → Contains (back bag renewal) (Remove q) → Drops (Remove q)
  removed_later q has = elim (contains_either (putting bag renewal) after_put (Remove q) has) [
    | inl puts ↦ let p = in_putting (Remove q) puts in absurd (no_put q p.0 p.1)
    | inr more ↦ elim (contains_either (dropping bag renewal) (closing bag renewal) (Remove q) more) [
      | inl drops ↦ in_dropping (Remove q) drops
      | inr ends ↦ let p = in_closing (Remove q) ends in absurd (no_put q p.0 p.1)
    ]
  ]

  -- a plain tag file isn't removed
  pub not_removed : (tag : TagName) → IsPlain tag → Contains (changes bag renewal) (Remove (tag_path tag)) → ⊥
  not_removed tag plain has =
      elim (contains_either till_opened (back bag renewal) (Remove (tag_path tag))
      (subst (λ cs. Contains cs (Remove (tag_path tag))) (sym after_opened) has)) [
        | inl opens ↦ elim (in_opened (Remove (tag_path tag)) opens) [
          | inl begun ↦ no_begun tag (sym (same_removed (tag_path tag) begun_file begun))
          | inr m ↦ by_manifest Tag m
        ]
        | inr later ↦ let m = removed_later (tag_path tag) later in by_manifest Payload (m.0, m.1)
      ]
    where
      by_manifest : (kind : Kind) → Removes kind (Remove (tag_path tag)) → ⊥
      by_manifest kind (alg, same) =
          no_manifest_name tag plain kind (name alg)
          (same_removed (tag_path tag) (tag_path (Manifest kind alg)) same)

  -- a tag manifest is removed at first, if at all
  pub tag_not_removed : (alg : Alg) → Contains (back bag renewal) (Remove (tag_path (Manifest Tag alg))) → ⊥
  tag_not_removed alg has =
      let m = removed_later (tag_path (Manifest Tag alg)) has in
      one_kind (name m.0) (name alg)
      (sym (same_removed (tag_path (Manifest Tag alg)) (tag_path (Manifest Payload m.0)) m.1))

  -- a payload manifest is removed after all that is put but tag manifests
  pub payload_not_removed : (alg : List ℕ) → Contains till_put (Remove (manifest_name Payload alg)) → ⊥
  payload_not_removed alg has =
      elim (contains_either till_opened (putting bag renewal) (Remove (manifest_name Payload alg)) has) [
        | inl opens ↦ elim (in_opened (Remove (manifest_name Payload alg)) opens) [
          | inl begun ↦ no_manifest_begun Payload alg (same_removed (manifest_name Payload alg) begun_file begun)
          | inr m ↦ one_kind alg (name m.0)
              (same_removed (manifest_name Payload alg) (tag_path (Manifest Tag m.0)) m.1)
        ]
        | inr puts ↦ (let p = in_putting (Remove (manifest_name Payload alg)) puts in
            no_put (manifest_name Payload alg) p.0 p.1)
      ]

  -- one of an algorithm that isn't dropped isn't removed
  pub kept_not_removed : (alg : Alg) → has_member renewal.dropped alg ≡ false
      → Contains (changes bag renewal) (Remove (tag_path (Manifest Payload alg))) → ⊥
  kept_not_removed alg keeps has =
      let path = tag_path (Manifest Payload alg) in
      elim (contains_either till_opened (back bag renewal) (Remove path)
      (subst (λ cs. Contains cs (Remove path)) (sym after_opened) has)) [
        | inl opens ↦ payload_not_removed (name alg)
            (contains_front till_opened (putting bag renewal) (Remove path) opens)
        | inr later ↦ (let m = removed_later path later in
            let tag = paths_differ (Manifest Payload alg) (Manifest Payload m.0)
            (same_removed path (tag_path (Manifest Payload m.0)) m.1) in
            let same : alg ≡ m.0 = cc in
            false≢true (sym keeps ∙ ap (has_member renewal.dropped) same ∙ m.2))
      ]

  -- nothing is put while tag manifests are removed
  pub not_put : (q c : List ℕ) → Contains till_opened (Put q c) → ⊥
  not_put q c has = elim (in_opened (Put q c) has) [
    | inl begun ↦ not_a_remove q c begun_file begun
    | inr m ↦ not_a_remove q c (tag_path (Manifest Tag m.0)) m.1
  ]

  -- and no tag manifest until all else is changed
  pub tag_not_put : (alg : Alg) (c : List ℕ) → Contains till_dropped (Put (tag_path (Manifest Tag alg)) c) → ⊥
  tag_not_put alg c has =
      elim (contains_either till_put (dropping bag renewal) (Put q c) has) [
        | inl first ↦ elim (contains_either till_opened (putting bag renewal) (Put q c) first) [
          | inl opens ↦ not_put q c opens
          | inr puts ↦ (let p = in_putting (Put q c) puts in of_put p.0 (same_put q c p.0 p.1) p.2)
        ]
        | inr drops ↦ (let m = in_dropping (Put q c) drops in
            not_a_remove q c (tag_path (Manifest Payload m.0)) m.1)
      ]
    where
      q : List ℕ
      q = tag_path (Manifest Tag alg)

      of_put : (e : File) → q ≡ e.0 → IsPutName e.0 → ⊥
      of_put e same (inl info) = no_manifest_name Info tt Tag (name alg) (sym (same ∙ info))
      of_put e same (inr (m, path)) = one_kind (name m) (name alg) (sym (same ∙ path))

  -- no payload manifest is put after that
  pub payload_not_put : (alg c : List ℕ) → Contains after_put (Put (manifest_name Payload alg) c) → ⊥
  payload_not_put alg c has =
      elim (contains_either (dropping bag renewal) (closing bag renewal) (Put q c) has) [
        | inl drops ↦ (let m = in_dropping (Put q c) drops in
            not_a_remove q c (tag_path (Manifest Payload m.0)) m.1)
        | inr ends ↦ (let p = in_closing (Put q c) ends in of_put p.0 (same_put q c p.0 p.1) p.2)
      ]
    where
      q : List ℕ
      q = manifest_name Payload alg

      of_put : (e : File) → q ≡ e.0 → IsClosingName e.0 → ⊥
      of_put e same (inl declared) = no_manifest_name Declaration tt Payload alg (sym (same ∙ declared.0))
      of_put e same (inr (m, path)) = one_kind alg (name m) (same ∙ path)

  -- where the declaration is kept, last of all tag manifests are put, and nothing else
  pub closing_names : is_kept bag renewal (tag_path Declaration) ≡ true → (q : List ℕ) → is_manifest_name Tag q ≡ false
      → (d : FileChange) → Contains (closing bag renewal) d → q ≢ name_of d
  closing_names is_there q other d has same =
      let p = in_closing d has in of_put p.0 (same ∙ ap name_of p.1) p.2
    where
      of_put : (e : File) → q ≡ e.0 → IsClosingName e.0 → ⊥
      of_put e path (inl (declared, out)) =
          false≢true (sym out ∙ ap (is_kept bag renewal) declared ∙ is_there)
      of_put e path (inr (alg, named)) =
          false≢true (sym other ∙ named_is Tag q (name alg) (name_is_text alg, path ∙ named))

  -- where it isn't, only these are put after it
  pub tags_names : (q : List ℕ) → is_manifest_name Tag q ≡ false → (d : FileChange) → Contains tags_put d
      → q ≢ name_of d
  tags_names q other d has same =
      let p = in_puts (tag_manifests bag renewal) d has in
      let m =
      contains_mapped {B = File} (λ alg. (tag_path (Manifest Tag alg), manifest_by (new_rules bag renewal) alg (named_tag_files bag renewal)))
      (new_algs bag renewal) p.0 p.1 in
      let named : q ≡ tag_path (Manifest Tag m.0) = same ∙ ap name_of p.2 ∙ sym (ap (λ (y : File). y.0) m.2) in
      false≢true (sym other ∙ named_is Tag q (name m.0) (name_is_text m.0, named))

  pub no_remove_last : (q : List ℕ) → Contains tags_put (Remove q) → ⊥
  no_remove_last q has = let p = in_puts (tag_manifests bag renewal) (Remove q) has in no_put q p.0 p.2

  -- and nothing before it is of the declaration
  pub declaration_unnamed : (d : FileChange) → Contains till_dropped d → tag_path Declaration ≢ name_of d
  declaration_unnamed d has same =
      elim (contains_either till_put (dropping bag renewal) d has) [
        | inl first ↦ elim (contains_either till_opened (putting bag renewal) d first) [
          | inl opens ↦ elim (in_opened d opens) [
            | inl begun ↦ no_begun Declaration (sym (same ∙ ap name_of begun))
            | inr m ↦ of_manifest Tag m.0 (same ∙ ap name_of m.1)
          ]
          | inr puts ↦ (let p = in_putting d puts in of_put p.0 (same ∙ ap name_of p.1) p.2)
        ]
        | inr drops ↦ (let m = in_dropping d drops in of_manifest Payload m.0 (same ∙ ap name_of m.1))
      ]
    where
      of_manifest : (kind : Kind) (alg : Alg) → tag_path Declaration ≡ tag_path (Manifest kind alg) → ⊥
      of_manifest kind alg path = no_manifest_name Declaration tt kind (name alg) path

      of_put : (e : File) → tag_path Declaration ≡ e.0 → IsPutName e.0 → ⊥
      of_put e path (inl info) =
          let same_tag : Declaration ≡ Info = paths_differ Declaration Info (path ∙ info) in cc
      of_put e path (inr (alg, named)) = of_manifest Payload alg (path ∙ named)
