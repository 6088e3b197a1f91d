-- The files of the renewed bag, as a list.
use Rattle.bag_changes.proofs.Common.{◌≡◌, ◌++◌, ◌∷◌, inl, inr, ℕ, Bool, true, false, cond, List, [], Option, None}
use Rattle.bag_changes.proofs.Common.{Some, sym, ap, subst, Contains, contains_back, contains_nothing}
use Rattle.bag_changes.proofs.Common.{contains_behind, contains_cases, contains_either, contains_first}
use Rattle.bag_changes.proofs.Common.{contains_front, contains_mapped, mapped_contains, is_payload_path, tag_path}
use Rattle.bag_changes.proofs.Common.{Payload, Tag, TagName, Declaration, Info, Fetch, Manifest, Alg, payload, Bag}
use Rattle.bag_changes.proofs.Common.{file, files_of, File, declaration_file, info_files, kept_tag_files, manifest_by}
use Rattle.bag_changes.proofs.Common.{named_tag_files, new_algs, new_elements, new_rules, new_tag_files, payload_manifest}
use Rattle.bag_changes.proofs.Common.{payload_manifests, stays, tag_manifests, with_path, writes_info, Renewal}
use Rattle.bag_facts.proofs.Mapped.{kept, passed}
use Rattle.bag_changes.specs.Contents.{IsNew, IsNewText, IsOld, Stands}
use Rattle.bag_facts.proofs.Found.{held_at, listed}
use Rattle.bag_tags.specs.OnLines.{text_on_lines}

-- ---- the file that is written, or that is there

module _ (path text : List ℕ) where
  abbrev one_file : Bool → Option (List ℕ) → List File
  one_file is_written there = cond is_written ((path, text) ∷ []) (with_path path there)

  abbrev text_of : Bool → Option (List ℕ) → Option (List ℕ)
  text_of is_written there = cond is_written (Some text) there

  only_one : (only q c : List ℕ) → Contains {X = File} ((path, only) ∷ []) (q, c) → (q ≡ path) × (Some only ≡ Some c)
  only_one only q c h = elim (contains_cases {A = File} (path, only) [] (q, c) h) [
    | inl e ↦ (sym (ap (λ (y : File). y.0) e), ap (λ (y : File). Some y.1) e)
    | inr none ↦ absurd (contains_nothing {A = File} (q, c) none)
  ]

  pub of_one : (is_written : Bool) (there : Option (List ℕ)) (q c : List ℕ) → Contains (one_file is_written there) (q, c)
      → (q ≡ path) × (text_of is_written there ≡ Some c)
  of_one true there q c h = only_one text q c h
  of_one false None q c h = absurd (contains_nothing {A = File} (q, c) h)
  of_one false (Some old) q c h = only_one old q c h

  the_only : (only c : List ℕ) → Some only ≡ Some c → Contains {X = File} ((path, only) ∷ []) (path, c)
  the_only only c e =
      let content : only ≡ c = cc in
      subst (λ t. Contains {X = File} ((path, only) ∷ []) (path, t)) content (contains_first {A = File} (path, only) [])

  in_one : (is_written : Bool) (there : Option (List ℕ)) (c : List ℕ) → text_of is_written there ≡ Some c
      → Contains (one_file is_written there) (path, c)
  in_one true there c e = the_only text c e
  in_one false None c e = let clash : None ≡ Some c = e in cc
  in_one false (Some old) c e = the_only old c e

module _ (bag : Bag) (renewal : Renewal) where
  abbrev kept_files : List File
  kept_files = kept_tag_files bag

  abbrev manifests : List File
  manifests = payload_manifests bag renewal ++ tag_manifests bag renewal

  abbrev old_files : List File
  old_files = payload bag

  abbrev pub all : List File
  all = old_files ++ (kept_files ++ new_tag_files bag renewal)

  -- ---- the members of the list

  pub payload_new : (q c : List ℕ) → Contains (payload_manifests bag renewal) (q, c) → IsNew bag renewal q c
  payload_new q c h =
      let m = contains_mapped {B = File} (payload_manifest bag renewal) (new_algs bag renewal) (q, c) h in
      (Manifest Payload m.0, sym (ap (λ (y : File). y.0) m.2), (m.1, sym (ap (λ (y : File). y.1) m.2)))

  pub tag_new : (q c : List ℕ) → Contains (tag_manifests bag renewal) (q, c) → IsNew bag renewal q c
  tag_new q c h =
      let m =
      contains_mapped {B = File} (λ alg. (tag_path (Manifest Tag alg), manifest_by (new_rules bag renewal) alg (named_tag_files bag renewal)))
      (new_algs bag renewal) (q, c) h in
      (Manifest Tag m.0, sym (ap (λ (y : File). y.0) m.2), (m.1, sym (ap (λ (y : File). y.1) m.2)))

  pub declaration_new : (q c : List ℕ) → ◌≡◌ {A = File} (declaration_file bag renewal) (q, c) → IsNew bag renewal q c
  declaration_new q c e = (Declaration, sym (ap (λ (y : File). y.0) e), sym (ap (λ (y : File). y.1) e))

  abbrev info_text : List ℕ
  info_text = text_on_lines (new_elements bag renewal)

  pub info_new : (q c : List ℕ) → Contains (info_files bag renewal) (q, c) → IsNew bag renewal q c
  info_new q c h =
      let found = of_one (tag_path Info) info_text (writes_info bag renewal) (file bag (tag_path Info)) q c h in
      (Info, found.0, found.1)

  new_member : (q c : List ℕ) → Contains (new_tag_files bag renewal) (q, c) → IsNew bag renewal q c
  new_member q c h =
      elim (contains_cases (declaration_file bag renewal) (info_files bag renewal ++ manifests) (q, c) h) [
        | inl e ↦ declaration_new q c e
        | inr k ↦ elim (contains_either (info_files bag renewal) manifests (q, c) k) [
          | inl i ↦ info_new q c i
          | inr l ↦ elim (contains_either (payload_manifests bag renewal) (tag_manifests bag renewal) (q, c) l) [
            | inl p ↦ payload_new q c p
            | inr t ↦ tag_new q c t
          ]
        ]
      ]

  old_payload : (q c : List ℕ) → Contains (payload bag) (q, c) → IsOld bag q c
  old_payload q c h =
      let k = kept (λ (e : File). is_payload_path e.0) (files_of bag) (q, c) h in
      (held_at bag.files q c k.1, inl k.0)

  old_kept : (q c : List ℕ) → Contains kept_files (q, c) → IsOld bag q c
  old_kept q c h =
      let k = kept (λ (e : File). stays e.0) (files_of bag) (q, c) h in (held_at bag.files q c k.1, inr k.0)

  pub from_all : (q c : List ℕ) → Contains all (q, c) → Stands bag renewal q c
  from_all q c h =
      elim (contains_either old_files (kept_files ++ new_tag_files bag renewal) (q, c) h) [
        | inl p ↦ inl (old_payload q c p)
        | inr k ↦ elim (contains_either kept_files (new_tag_files bag renewal) (q, c) k) [
          | inl o ↦ inl (old_kept q c o)
          | inr n ↦ inr (new_member q c n)
        ]
      ]

  -- ---- and back

  pub payload_listed : (alg : Alg) → Contains (new_algs bag renewal) alg
      → Contains (payload_manifests bag renewal) (payload_manifest bag renewal alg)
  payload_listed alg h = mapped_contains {B = File} (payload_manifest bag renewal) (new_algs bag renewal) alg h

  pub info_listed : (c : List ℕ) → IsNewText bag renewal Info c → Contains (info_files bag renewal) (tag_path Info, c)
  info_listed c h = in_one (tag_path Info) info_text (writes_info bag renewal) (file bag (tag_path Info)) c h

  pub tag_listed : (alg : Alg) → Contains (new_algs bag renewal) alg
      → Contains (tag_manifests bag renewal) (tag_path (Manifest Tag alg), manifest_by (new_rules bag renewal) alg (named_tag_files bag renewal))
  tag_listed alg h =
      mapped_contains {B = File} (λ alg. (tag_path (Manifest Tag alg), manifest_by (new_rules bag renewal) alg (named_tag_files bag renewal)))
      (new_algs bag renewal) alg h

  behind_two : (e : File) → Contains manifests e → Contains (new_tag_files bag renewal) e
  behind_two e h =
      contains_behind (declaration_file bag renewal) (info_files bag renewal ++ manifests) e
      (contains_back (info_files bag renewal) manifests e h)

  new_listed : (tag : TagName) (c : List ℕ) → IsNewText bag renewal tag c
      → Contains (new_tag_files bag renewal) (tag_path tag, c)
  new_listed Declaration c h =
      subst (λ t. Contains (new_tag_files bag renewal) (tag_path Declaration, t)) (sym h)
      (contains_first (declaration_file bag renewal) (info_files bag renewal ++ manifests))
  new_listed Info c h =
      contains_behind (declaration_file bag renewal) (info_files bag renewal ++ manifests) (tag_path Info, c)
      (contains_front (info_files bag renewal) manifests (tag_path Info, c) (info_listed c h))
  new_listed (Manifest Payload alg) c h =
      subst (λ t. Contains (new_tag_files bag renewal) (tag_path (Manifest Payload alg), t)) (sym h.1)
      (behind_two (payload_manifest bag renewal alg)
      (contains_front (payload_manifests bag renewal) (tag_manifests bag renewal) (payload_manifest bag renewal alg)
      (payload_listed alg h.0)))
  new_listed (Manifest Tag alg) c h =
      let one : File = (tag_path (Manifest Tag alg), manifest_by (new_rules bag renewal) alg (named_tag_files bag renewal)) in
      subst (λ t. Contains (new_tag_files bag renewal) (tag_path (Manifest Tag alg), t)) (sym h.1)
      (behind_two one
      (contains_back (payload_manifests bag renewal) (tag_manifests bag renewal) one (tag_listed alg h.0)))
  new_listed Fetch c h = absurd h

  old_listed : (q c : List ℕ) → IsOld bag q c → Contains all (q, c)
  old_listed q c (at, inl is) =
      contains_front old_files (kept_files ++ new_tag_files bag renewal) (q, c)
      (passed (λ (e : File). is_payload_path e.0) (files_of bag) (q, c) is (listed bag.files q c at))
  old_listed q c (at, inr is) =
      contains_back old_files (kept_files ++ new_tag_files bag renewal) (q, c)
      (contains_front kept_files (new_tag_files bag renewal) (q, c)
      (passed (λ (e : File). stays e.0) (files_of bag) (q, c) is (listed bag.files q c at)))

  pub to_all : (q c : List ℕ) → Stands bag renewal q c → Contains all (q, c)
  to_all q c (inl old) = old_listed q c old
  to_all q c (inr (tag, at, text)) =
      contains_back old_files (kept_files ++ new_tag_files bag renewal) (q, c)
      (contains_back kept_files (new_tag_files bag renewal) (q, c)
      (subst (λ p. Contains (new_tag_files bag renewal) (p, c)) (sym at) (new_listed tag c text)))
