-- What tag manifests name: the tag files that keep their bytes, and those that are put.
use Rattle.bag_changes.proofs.Common.{◌≡◌, ◌++◌, ◌∷◌, ◌∙◌, ◌⊎◌, inl, inr, ℕ, Bool, true, false, cond, not, List, []}
use Rattle.bag_changes.proofs.Common.{Some, refl, sym, ap, subst, Contains, map, filter, list_any, bytes_eq}
use Rattle.bag_changes.proofs.Common.{bytes_eq-Decides, and_from, and_parts, false≢true, false_from_ne_true, or_cases, or_left, or_right}
use Rattle.bag_changes.proofs.Common.{any_from, from_any, contains_back, contains_behind, contains_cases, contains_either}
use Rattle.bag_changes.proofs.Common.{contains_first, contains_front, contains_mapped, contains_nothing, mapped_contains}
use Rattle.bag_changes.proofs.Common.{find, get-from_entries, nat_list_cmp_total, exact_texts, text_cmp}
use Rattle.bag_changes.proofs.Common.{tag_path, TagName, Declaration, Info, Manifest, Payload, Alg, Bag, file, files_of}
use Rattle.bag_changes.proofs.Common.{payload, File, declaration_file, info_files, is_kept, is_new_alg, kept_or}
use Rattle.bag_changes.proofs.Common.{kept_tag_files, manifest_by, named_tag_files, new_algs, new_elements, new_rules, new_tag_files}
use Rattle.bag_changes.proofs.Common.{payload_manifest, payload_manifests, stays, tag_manifests, unkept, writes_info}
use Rattle.bag_changes.proofs.Common.{last_files, written_info, Renewal}
use Rattle.std.specs.FinMap as fin
use Rattle.bag_facts.proofs.Mapped.{kept, passed}
use Rattle.bag_tags.specs.Declaration.{declaration_text}
use Rattle.bag_tags.specs.OnLines.{text_on_lines}
use Rattle.bag_changes.proofs.AlgsWhere.{alg_in, passes}
use Rattle.bag_changes.proofs.Contents.{one_stands}
use Rattle.bag_facts.proofs.Found.{found, found_alone, held_at, listed, same_option}
use Rattle.bag_changes.proofs.KeptOr.{kept_or_written}
use Rattle.bag_changes.proofs.Members.{from_all, info_listed, of_one}
use Rattle.bag_changes.proofs.NoPayload.{no_payload_tag}
use Rattle.bag_changes.proofs.StaysSo.{stays_so}
use Rattle.bag_changes.specs.Composing.{first_files, is_tag_file, keeps_bytes, kept_names}
use Rattle.bag_changes.specs.Contents.{Stands}
use Rattle.bag_renewed.specs.Renewed.{algs_where, in_path_order, is_kept_alg}

-- ---- lists with the same files, of which none is there twice, are the same in the order of paths

module _ (xs ys : List File) (to : (q c : List ℕ) → Contains xs (q, c) → Contains ys (q, c))
    (from : (q c : List ℕ) → Contains ys (q, c) → Contains xs (q, c))
    (one : (q c d : List ℕ) → Contains ys (q, c) → Contains ys (q, d) → c ≡ d) where
  found_alike : (q : List ℕ) → find text_cmp q xs ≡ find text_cmp q ys
  found_alike q =
      same_option (find text_cmp q xs) (find text_cmp q ys)
      (λ c e.
      let there = to q c (found q c xs e) in
      found_alone q c ys there (λ d k. one q d c (found q d ys k) there))
      (λ c e.
      let there = found q c ys e in
      found_alone q c xs (from q c there) (λ d k. one q d c (to q d (found q d xs k)) there))

  pub same_in_order : in_path_order xs ≡ in_path_order ys
  same_in_order =
      ap fin.entries (fin.same_map nat_list_cmp_total exact_texts (fin.from_entries {R = text_cmp} xs)
      (fin.from_entries {R = text_cmp} ys) (λ q.
      get-from_entries nat_list_cmp_total xs q ∙ found_alike q ∙ sym (get-from_entries nat_list_cmp_total ys q)))

module _ (bag : Bag) (renewal : Renewal) where
  abbrev names : List TagName
  names = kept_names bag renewal

  abbrev keeps_path : File → Bool
  keeps_path e = keeps_bytes names e.0

  -- the tag files that keep their bytes
  abbrev pub old_files : List File
  old_files = filter keeps_path (filter is_tag_file (files_of bag))

  abbrev put_files : List File
  put_files = first_files bag renewal ++ last_files bag renewal

  abbrev others : List File
  others = info_files bag renewal ++ payload_manifests bag renewal

  abbrev named : List File
  named = kept_tag_files bag ++ (declaration_file bag renewal ∷ others)

  -- ---- each is there once

  named_stands : (q c : List ℕ) → Contains named (q, c) → Stands bag renewal q c
  named_stands q c h =
      let new_files = new_tag_files bag renewal in
      let behind = λ (k : Contains new_files (q, c)).
      contains_back (payload bag) (kept_tag_files bag ++ new_files) (q, c)
      (contains_back (kept_tag_files bag) new_files (q, c) k) in
      let manifests = payload_manifests bag renewal ++ tag_manifests bag renewal in
      from_all bag renewal q c (elim (contains_either (kept_tag_files bag) (declaration_file bag renewal ∷ others) (q, c) h) [
        | inl old ↦ contains_back (payload bag) (kept_tag_files bag ++ new_files) (q, c)
            (contains_front (kept_tag_files bag) new_files (q, c) old)
        | inr new ↦ behind (elim (contains_cases (declaration_file bag renewal) others (q, c) new) [
          | inl is ↦ subst (Contains new_files) is
              (contains_first (declaration_file bag renewal) (info_files bag renewal ++ manifests))
          | inr k ↦ contains_behind (declaration_file bag renewal) (info_files bag renewal ++ manifests) (q, c)
              (elim (contains_either (info_files bag renewal) (payload_manifests bag renewal) (q, c) k) [
                | inl info ↦ contains_front (info_files bag renewal) manifests (q, c) info
                | inr own ↦ contains_back (info_files bag renewal) manifests (q, c)
                    (contains_front (payload_manifests bag renewal) (tag_manifests bag renewal) (q, c) own)
              ])
        ])
      ])

  one_named : (q c d : List ℕ) → Contains named (q, c) → Contains named (q, d) → c ≡ d
  one_named q c d h k = one_stands bag renewal q c d (named_stands q c h) (named_stands q d k)

  -- ---- the names that are kept

  abbrev info_names : List TagName
  info_names = cond (writes_info bag renewal) [] (Info ∷ [])

  abbrev declaration_names : List TagName
  declaration_names = cond (is_kept bag renewal (tag_path Declaration)) (Declaration ∷ []) []

  abbrev manifest_names : List TagName
  manifest_names = map (Manifest Payload) (algs_where (is_kept_alg bag renewal))

  info_name : writes_info bag renewal ≡ false → Contains names Info
  info_name other =
      contains_back manifest_names (info_names ++ declaration_names) Info
      (contains_front info_names declaration_names Info
      (subst (λ b. Contains (cond b [] (Info ∷ [])) Info) (sym other) (contains_first Info [])))

  declaration_name : is_kept bag renewal (tag_path Declaration) ≡ true → Contains names Declaration
  declaration_name is =
      contains_back manifest_names (info_names ++ declaration_names) Declaration
      (contains_back info_names declaration_names Declaration
      (subst (λ b. Contains (cond b (Declaration ∷ []) []) Declaration) (sym is) (contains_first Declaration [])))

  manifest_name_in : (alg : Alg) → is_kept_alg bag renewal alg ≡ true → Contains names (Manifest Payload alg)
  manifest_name_in alg is =
      contains_front manifest_names (info_names ++ declaration_names) (Manifest Payload alg)
      (mapped_contains (Manifest Payload) (algs_where (is_kept_alg bag renewal)) alg
      (alg_in (is_kept_alg bag renewal) alg is))

  -- a name that is kept, and why
  abbrev IsKeptFor : TagName → Type 0
  IsKeptFor name =
      ((alg : Alg) × (is_kept_alg bag renewal alg ≡ true) × (Manifest Payload alg ≡ name))
      ⊎ (((writes_info bag renewal ≡ false) × (Info ≡ name))
      ⊎ ((is_kept bag renewal (tag_path Declaration) ≡ true) × (Declaration ≡ name)))

  info_by : (b : Bool) (name : TagName) → Contains (cond b [] (Info ∷ [])) name → (b ≡ false) × (Info ≡ name)
  info_by true name has = absurd (contains_nothing name has)
  info_by false name has = elim (contains_cases Info [] name has) [
    | inl is ↦ (refl, is)
    | inr none ↦ absurd (contains_nothing name none)
  ]

  declaration_by : (b : Bool) (name : TagName) → Contains (cond b (Declaration ∷ []) []) name
      → (b ≡ true) × (Declaration ≡ name)
  declaration_by false name has = absurd (contains_nothing name has)
  declaration_by true name has = elim (contains_cases Declaration [] name has) [
    | inl is ↦ (refl, is)
    | inr none ↦ absurd (contains_nothing name none)
  ]

  kept_for : (name : TagName) → Contains names name → IsKeptFor name
  kept_for name has = elim (contains_either manifest_names (info_names ++ declaration_names) name has) [
    | inl own ↦ (
        let m = contains_mapped (Manifest Payload) (algs_where (is_kept_alg bag renewal)) name own in
        inl (m.0, passes (is_kept_alg bag renewal) m.0 m.1, m.2))
    | inr rest ↦ inr (elim (contains_either info_names declaration_names name rest) [
      | inl info ↦ inl (info_by (writes_info bag renewal) name info)
      | inr declaration ↦ inr (declaration_by (is_kept bag renewal (tag_path Declaration)) name declaration)
    ])
  ]

  -- ---- what keeps its bytes is named

  old_in : (q c : List ℕ) → Contains old_files (q, c) → (keeps_bytes names q ≡ true) × (file bag q ≡ Some c)
  old_in q c h =
      let one = kept keeps_path (filter is_tag_file (files_of bag)) (q, c) h in
      (one.0, held_at bag.files q c (kept is_tag_file (files_of bag) (q, c) one.1).1)

  in_old : (name : TagName) (c : List ℕ) → Contains names name → file bag (tag_path name) ≡ Some c
      → Contains old_files (tag_path name, c)
  in_old name c has at =
      let q = tag_path name in
      passed keeps_path (filter is_tag_file (files_of bag)) (q, c)
      (or_right (stays q) _ (any_from (λ other. bytes_eq (tag_path other) q) names name has
      ((bytes_eq-Decides q q).1 refl)))
      (passed is_tag_file (files_of bag) (q, c) (ap not (false_from_ne_true _ (no_payload_tag name)))
      (listed bag.files q c at))

  stays_in_old : (q c : List ℕ) → Contains (kept_tag_files bag) (q, c) → Contains old_files (q, c)
  stays_in_old q c h =
      let one = kept (λ (e : File). stays e.0) (files_of bag) (q, c) h in
      passed keeps_path (filter is_tag_file (files_of bag)) (q, c)
      (or_left (stays q) (list_any (λ name. bytes_eq (tag_path name) q) names) one.0)
      (passed is_tag_file (files_of bag) (q, c) (stays_so q one.0).outside one.1)

  other_named : (e : File) → Contains others e → Contains named e
  other_named e h =
      contains_back (kept_tag_files bag) (declaration_file bag renewal ∷ others) e
      (contains_behind (declaration_file bag renewal) others e h)

  declaration_named : Contains named (declaration_file bag renewal)
  declaration_named =
      contains_back (kept_tag_files bag) (declaration_file bag renewal ∷ others) (declaration_file bag renewal)
      (contains_first (declaration_file bag renewal) others)

  info_named : (e : File) → Contains (info_files bag renewal) e → Contains named e
  info_named e h = other_named e (contains_front (info_files bag renewal) (payload_manifests bag renewal) e h)

  manifest_named : (e : File) → Contains (payload_manifests bag renewal) e → Contains named e
  manifest_named e h = other_named e (contains_back (info_files bag renewal) (payload_manifests bag renewal) e h)

  -- the bytes of a file that is kept
  kept_content : (path new c : List ℕ) → is_kept bag renewal path ≡ true → file bag path ≡ Some c → kept_or bag renewal path new ≡ c
  kept_content path new c is at = elim (kept_or_written bag renewal path new) [
    | inl kept ↦ (let both : Some (kept_or bag renewal path new) ≡ Some c = sym kept.1 ∙ at in cc)
    | inr written ↦ absurd (false≢true (sym written.0 ∙ is))
  ]

  abbrev kept_alg_parts : (alg : Alg) → is_kept_alg bag renewal alg ≡ true
      → (is_new_alg bag renewal alg ≡ true) × (is_kept bag renewal (tag_path (Manifest Payload alg)) ≡ true)
  kept_alg_parts alg is = and_parts (is_new_alg bag renewal alg) (is_kept bag renewal (tag_path (Manifest Payload alg))) is

  name_named : (name : TagName) (c : List ℕ) → IsKeptFor name → file bag (tag_path name) ≡ Some c
      → Contains named (tag_path name, c)
  name_named name c (inl (alg, is, same)) at =
      let path = tag_path (Manifest Payload alg) in
      let two = kept_alg_parts alg is in
      let content = kept_content path (manifest_by (new_rules bag renewal) alg (payload bag)) c two.1 (ap (λ n. file bag (tag_path n)) same ∙ at) in
      manifest_named (tag_path name, c) (subst (Contains (payload_manifests bag renewal))
      (λ i. (tag_path (same i), content i))
      (mapped_contains {B = File} (payload_manifest bag renewal) (new_algs bag renewal) alg
      (alg_in (is_new_alg bag renewal) alg two.0)))
  name_named name c (inr (inl (other, same))) at =
      subst (λ n. Contains named (tag_path n, c)) same
      (info_named (tag_path Info, c) (info_listed bag renewal c
      (ap (λ b. cond b (Some (text_on_lines (new_elements bag renewal))) (file bag (tag_path Info))) other
      ∙ ap (λ n. file bag (tag_path n)) same ∙ at)))
  name_named name c (inr (inr (is, same))) at =
      let content =
      kept_content (tag_path Declaration) declaration_text c is (ap (λ n. file bag (tag_path n)) same ∙ at) in
      subst (Contains named) (λ i. (tag_path (same i), content i)) declaration_named

  old_named : (q c : List ℕ) → Contains old_files (q, c) → Contains named (q, c)
  old_named q c h =
      let two = old_in q c h in
      elim (or_cases (stays q) (list_any (λ name. bytes_eq (tag_path name) q) names) two.0) [
        | inl so ↦ contains_front (kept_tag_files bag) (declaration_file bag renewal ∷ others) (q, c)
            (passed (λ (e : File). stays e.0) (files_of bag) (q, c) so (listed bag.files q c two.1))
        | inr some ↦ (
            let one = from_any (λ name. bytes_eq (tag_path name) q) names some in
            let path : tag_path one.0 ≡ q = (bytes_eq-Decides (tag_path one.0) q).0 one.2 in
            subst (λ p. Contains named (p, c)) path
            (name_named one.0 c (kept_for one.0 one.1) (ap (file bag) path ∙ two.1)))
      ]

  -- ---- and so is what is put

  info_put_by : (b : Bool) (e : File) → Contains (cond b (info_files bag renewal) []) e
      → Contains (info_files bag renewal) e
  info_put_by true e h = h
  info_put_by false e h = absurd (contains_nothing e h)

  put_named : (e : File) → Contains put_files e → Contains named e
  put_named e h =
      elim (contains_either (first_files bag renewal) (last_files bag renewal) e h) [
        | inl first ↦ elim (contains_either (written_info bag renewal) (unkept bag renewal (payload_manifests bag renewal)) e first) [
          | inl info ↦ info_named e (info_put_by (writes_info bag renewal) e info)
          | inr own ↦ manifest_named e
              (kept (λ (x : File). not (is_kept bag renewal x.0)) (payload_manifests bag renewal) e own).1
        ]
        | inr last ↦ elim (contains_cases (declaration_file bag renewal) [] e
            (kept (λ (x : File). not (is_kept bag renewal x.0)) (declaration_file bag renewal ∷ []) e last).1) [
              | inl is ↦ subst (Contains named) is declaration_named
              | inr none ↦ absurd (contains_nothing e none)
            ]
      ]

  -- ---- nothing else is named

  abbrev all_of : List File
  all_of = old_files ++ put_files

  in_put : (e : File) → Contains put_files e → Contains all_of e
  in_put e h = contains_back old_files put_files e h

  in_first : (e : File) → Contains (first_files bag renewal) e → Contains all_of e
  in_first e h = in_put e (contains_front (first_files bag renewal) (last_files bag renewal) e h)

  declaration_there : Contains all_of (declaration_file bag renewal)
  declaration_there = elim (kept_or_written bag renewal (tag_path Declaration) declaration_text) [
    | inl was ↦ contains_front old_files put_files (declaration_file bag renewal)
        (in_old Declaration (kept_or bag renewal (tag_path Declaration) declaration_text) (declaration_name was.0) was.1)
    | inr written ↦ in_put (declaration_file bag renewal)
        (contains_back (first_files bag renewal) (last_files bag renewal) (declaration_file bag renewal)
        (passed (λ (x : File). not (is_kept bag renewal x.0)) (declaration_file bag renewal ∷ []) (declaration_file bag renewal)
        (ap not written.0) (contains_first (declaration_file bag renewal) [])))
  ]

  info_there_by : (b : Bool) → writes_info bag renewal ≡ b → (q c : List ℕ) → Contains (info_files bag renewal) (q, c)
      → Contains all_of (q, c)
  info_there_by true is q c h =
      in_first (q, c) (contains_front (written_info bag renewal) (unkept bag renewal (payload_manifests bag renewal)) (q, c)
      (subst (λ b. Contains (cond b (info_files bag renewal) []) (q, c)) (sym is) h))
  info_there_by false is q c h =
      let text : List ℕ = text_on_lines (new_elements bag renewal) in
      let found = of_one (tag_path Info) text (writes_info bag renewal) (file bag (tag_path Info)) q c h in
      let at : file bag (tag_path Info) ≡ Some c =
      sym (ap (λ b. cond b (Some text) (file bag (tag_path Info))) is) ∙ found.1 in
      contains_front old_files put_files (q, c)
      (subst (λ p. Contains old_files (p, c)) (sym found.0) (in_old Info c (info_name is) at))

  manifest_there : (alg : Alg) → Contains (new_algs bag renewal) alg → Contains all_of (payload_manifest bag renewal alg)
  manifest_there alg has =
      let path = tag_path (Manifest Payload alg) in
      let one = payload_manifest bag renewal alg in
      elim (kept_or_written bag renewal path (manifest_by (new_rules bag renewal) alg (payload bag))) [
        | inl was ↦ contains_front old_files put_files one
            (in_old (Manifest Payload alg) (kept_or bag renewal path (manifest_by (new_rules bag renewal) alg (payload bag)))
            (manifest_name_in alg (and_from (is_new_alg bag renewal alg) (is_kept bag renewal path)
            (passes (is_new_alg bag renewal) alg has) was.0)) was.1)
        | inr written ↦ in_first one
            (contains_back (written_info bag renewal) (unkept bag renewal (payload_manifests bag renewal)) one
            (passed (λ (x : File). not (is_kept bag renewal x.0)) (payload_manifests bag renewal) one (ap not written.0)
            (mapped_contains {B = File} (payload_manifest bag renewal) (new_algs bag renewal) alg has)))
      ]

  named_there : (q c : List ℕ) → Contains named (q, c) → Contains all_of (q, c)
  named_there q c h = elim (contains_either (kept_tag_files bag) (declaration_file bag renewal ∷ others) (q, c) h) [
    | inl old ↦ contains_front old_files put_files (q, c) (stays_in_old q c old)
    | inr new ↦ elim (contains_cases (declaration_file bag renewal) others (q, c) new) [
      | inl is ↦ subst (Contains all_of) is declaration_there
      | inr k ↦ elim (contains_either (info_files bag renewal) (payload_manifests bag renewal) (q, c) k) [
        | inl info ↦ info_there_by (writes_info bag renewal) refl q c info
        | inr own ↦ (
            let m = contains_mapped {B = File} (payload_manifest bag renewal) (new_algs bag renewal) (q, c) own in
            subst (Contains all_of) m.2 (manifest_there m.0 m.1))
      ]
    ]
  ]

  -- what keeps its bytes, and what is put, are what tag manifests name
  pub all_named : in_path_order (old_files ++ (first_files bag renewal ++ last_files bag renewal)) ≡ named_tag_files bag renewal
  all_named =
      same_in_order all_of named (λ q c h. elim (contains_either old_files put_files (q, c) h) [
        | inl old ↦ old_named q c old
        | inr put ↦ put_named (q, c) put
      ]) named_there one_named
