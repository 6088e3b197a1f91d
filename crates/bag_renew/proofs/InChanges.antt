-- Which files a renewal puts and removes.
use Rattle.bag_renew.proofs.Common.{◌≡◌, ◌++◌, ◌∷◌, inl, inr, ℕ, Bool, true, false, not, cond, List, [], map, sym}
use Rattle.bag_renew.proofs.Common.{ap, subst, Contains, and_from, contains_back, contains_cases, contains_either}
use Rattle.bag_renew.proofs.Common.{contains_first, contains_front, contains_mapped, contains_nothing}
use Rattle.bag_renew.proofs.Common.{mapped_contains, has_member, tag_path, Kind, Payload, Tag, Declaration, Info}
use Rattle.bag_renew.proofs.Common.{Manifest, Alg, Bag, HasFile, has_file, FileChange, Put, Remove, changes}
use Rattle.bag_renew.proofs.Common.{clearing, closing, dropping, opening, put, putting, unkept, File, begun_file}
use Rattle.bag_renew.proofs.Common.{declaration_file, algs_where, has_payload_manifest, has_tag_manifest}
use Rattle.bag_renew.proofs.Common.{info_files, is_kept, new_algs, payload_manifest, payload_manifests}
use Rattle.bag_renew.proofs.Common.{tag_manifests, writes_info, Renewal, last_files, written_info, removals_of}
use Rattle.bag_renew.proofs.Common.{is_dropped_alg}
use Rattle.bag_facts.proofs.Mapped.{kept, passed}
use Rattle.bag_changes.proofs.AlgsWhere.{alg_in}
use Rattle.bag_changes.specs.Contents.{IsNew, IsNewText}
use Rattle.bag_renew.proofs.ChangedNames.{back}
use Rattle.bag_changes.proofs.Members.{declaration_new, info_listed, info_new, payload_listed, payload_new, tag_new}

module _ (bag : Bag) (renewal : Renewal) where
  abbrev last : List FileChange
  last = back bag renewal

  -- what is put
  abbrev manifests : List File
  manifests = unkept bag renewal (payload_manifests bag renewal)

  put_is : (e : File) (q c : List ℕ) → put e ≡ Put q c → e ≡ (q, c)
  put_is e q c same = let path : e.0 ≡ q = cc in let content : e.1 ≡ c = cc in (λ i. (path i, content i))

  no_put : (n q c : List ℕ) → Remove n ≡ Put q c → ⊥
  no_put n q c same = cc

  put_in_removes : (kind : Kind) (some : List Alg) (q c : List ℕ)
      → Contains (removals_of kind some) (Put q c) → ⊥
  put_in_removes kind some q c has =
      let m = contains_mapped (λ alg. Remove (tag_path (Manifest kind alg))) some (Put q c) has in
      no_put (tag_path (Manifest kind m.0)) q c m.2

  put_in_puts : (es : List File) (q c : List ℕ) → Contains (map put es) (Put q c) → Contains es (q, c)
  put_in_puts es q c has =
      let m = contains_mapped put es (Put q c) has in subst (Contains es) (put_is m.0 q c m.2) m.1

  pub remove_in_puts : (es : List File) (q : List ℕ) → Contains (map put es) (Remove q) → ⊥
  remove_in_puts es q has = let m = contains_mapped put es (Remove q) has in no_put q m.0.0 m.0.1 (sym m.2)

  put_in_clearing : (b : Bool) (q c : List ℕ) → Contains (cond b (Remove begun_file ∷ []) []) (Put q c) → ⊥
  put_in_clearing true q c has = elim (contains_cases (Remove begun_file) [] (Put q c) has) [
    | inl same ↦ no_put begun_file q c same
    | inr none ↦ contains_nothing (Put q c) none
  ]
  put_in_clearing false q c has = contains_nothing (Put q c) has

  put_in_unkept : (es : List File) (q c : List ℕ) → Contains (map put (unkept bag renewal es)) (Put q c)
      → Contains es (q, c)
  put_in_unkept es q c has =
      (kept (λ (e : File). not (is_kept bag renewal e.0)) es (q, c) (put_in_puts (unkept bag renewal es) q c has)).1

  info_in_put : (b : Bool) (es : List File) (e : File) → Contains (cond b es []) e → Contains es e
  info_in_put true es e has = has
  info_in_put false es e has = absurd (contains_nothing e has)

  put_in_putting : (q c : List ℕ) → Contains (putting bag renewal) (Put q c) → IsNew bag renewal q c
  put_in_putting q c has =
      elim (contains_either (map put (written_info bag renewal)) (map put manifests) (Put q c) has) [
        | inl info ↦ info_new bag renewal q c
            (info_in_put (writes_info bag renewal) (info_files bag renewal) (q, c) (put_in_puts (written_info bag renewal) q c info))
        | inr more ↦ payload_new bag renewal q c (put_in_unkept (payload_manifests bag renewal) q c more)
      ]

  put_in_closing : (q c : List ℕ) → Contains (closing bag renewal) (Put q c) → IsNew bag renewal q c
  put_in_closing q c has =
      elim (contains_either (map put (last_files bag renewal)) (map put (tag_manifests bag renewal)) (Put q c) has) [
        | inl one ↦ elim (contains_cases (declaration_file bag renewal) [] (q, c)
            (put_in_unkept (declaration_file bag renewal ∷ []) q c one)) [
              | inl same ↦ declaration_new bag renewal q c same
              | inr none ↦ absurd (contains_nothing {A = File} (q, c) none)
            ]
        | inr tags ↦ tag_new bag renewal q c (put_in_puts (tag_manifests bag renewal) q c tags)
      ]

  pub put_in_back : (q c : List ℕ) → Contains last (Put q c) → IsNew bag renewal q c
  put_in_back q c has =
      elim (contains_either (putting bag renewal) (dropping bag renewal ++ closing bag renewal) (Put q c) has) [
        | inl puts ↦ put_in_putting q c puts
        | inr later ↦ elim (contains_either (dropping bag renewal) (closing bag renewal) (Put q c) later) [
          | inl drops ↦ absurd (put_in_removes Payload (algs_where (is_dropped_alg bag renewal)) q c drops)
          | inr ends ↦ put_in_closing q c ends
        ]
      ]

  pub put_in_changes : (q c : List ℕ) → Contains (changes bag renewal) (Put q c) → IsNew bag renewal q c
  put_in_changes q c has =
      elim (contains_either (opening bag renewal) (clearing bag renewal ++ last) (Put q c) has) [
        | inl opens ↦ absurd (put_in_removes Tag (algs_where (has_tag_manifest bag)) q c opens)
        | inr more ↦ elim (contains_either (clearing bag renewal) last (Put q c) more) [
          | inl clears ↦ absurd (put_in_clearing (has_file bag begun_file) q c clears)
          | inr later ↦ put_in_back q c later
        ]
      ]

  pub in_back : (d : FileChange) → Contains last d → Contains (changes bag renewal) d
  in_back d has =
      contains_back (opening bag renewal) (clearing bag renewal ++ last) d
      (contains_back (clearing bag renewal) last d has)

  in_putting : (d : FileChange) → Contains (putting bag renewal) d → Contains last d
  in_putting d has = contains_front (putting bag renewal) (dropping bag renewal ++ closing bag renewal) d has

  in_closing : (d : FileChange) → Contains (closing bag renewal) d → Contains last d
  in_closing d has =
      contains_back (putting bag renewal) (dropping bag renewal ++ closing bag renewal) d
      (contains_back (dropping bag renewal) (closing bag renewal) d has)

  unkept_in : (es : List File) (e : File) → Contains es e → is_kept bag renewal e.0 ≡ false
      → Contains (map put (unkept bag renewal es)) (put e)
  unkept_in es e has out =
      mapped_contains put (unkept bag renewal es) e
      (passed (λ (e : File). not (is_kept bag renewal e.0)) es e (ap not out) has)

  pub declaration_in : is_kept bag renewal (tag_path Declaration) ≡ false → Contains last (put (declaration_file bag renewal))
  declaration_in out =
      in_closing (put (declaration_file bag renewal))
      (contains_front (map put (last_files bag renewal)) (map put (tag_manifests bag renewal))
      (put (declaration_file bag renewal))
      (unkept_in (declaration_file bag renewal ∷ []) (declaration_file bag renewal) (contains_first (declaration_file bag renewal) []) out))

  pub info_in : writes_info bag renewal ≡ true → (c : List ℕ) → IsNewText bag renewal Info c
      → Contains last (Put (tag_path Info) c)
  info_in written c new =
      let one : File = (tag_path Info, c) in
      in_putting (put one)
      (contains_front (map put (written_info bag renewal)) (map put manifests) (put one)
      (mapped_contains put (written_info bag renewal) one
      (subst (λ b. Contains (cond b (info_files bag renewal) []) one) (sym written) (info_listed bag renewal c new))))

  pub manifest_in : (alg : Alg) → Contains (new_algs bag renewal) alg
      → is_kept bag renewal (tag_path (Manifest Payload alg)) ≡ false
      → Contains last (put (payload_manifest bag renewal alg))
  manifest_in alg has out =
      let one = payload_manifest bag renewal alg in
      in_putting (put one)
      (contains_back (map put (written_info bag renewal)) (map put manifests) (put one)
      (unkept_in (payload_manifests bag renewal) one (payload_listed bag renewal alg has) out))

  pub tag_manifest_in : (e : File) → Contains (tag_manifests bag renewal) e → Contains last (put e)
  tag_manifest_in e has =
      in_closing (put e)
      (contains_back (map put (last_files bag renewal)) (map put (tag_manifests bag renewal)) (put e)
      (mapped_contains put (tag_manifests bag renewal) e has))

  pub drop_in : (alg : Alg) → HasFile bag (tag_path (Manifest Payload alg)) → has_member renewal.dropped alg ≡ true
      → Contains last (Remove (tag_path (Manifest Payload alg)))
  drop_in alg there dropped =
      let one = Remove (tag_path (Manifest Payload alg)) in
      contains_back (putting bag renewal) (dropping bag renewal ++ closing bag renewal) one
      (contains_front (dropping bag renewal) (closing bag renewal) one
      (mapped_contains (λ alg. Remove (tag_path (Manifest Payload alg))) (algs_where (is_dropped_alg bag renewal)) alg
      (alg_in (is_dropped_alg bag renewal) alg
      (and_from (has_payload_manifest bag alg) (has_member renewal.dropped alg) there dropped))))

  pub open_in : (alg : Alg) → HasFile bag (tag_path (Manifest Tag alg))
      → Contains (changes bag renewal) (Remove (tag_path (Manifest Tag alg)))
  open_in alg there =
      let one = Remove (tag_path (Manifest Tag alg)) in
      contains_front (opening bag renewal) (clearing bag renewal ++ last) one
      (mapped_contains (λ alg. Remove (tag_path (Manifest Tag alg))) (algs_where (has_tag_manifest bag)) alg
      (alg_in (has_tag_manifest bag) alg there))

  pub clear_in : has_file bag begun_file ≡ true → Contains (changes bag renewal) (Remove begun_file)
  clear_in there =
      contains_back (opening bag renewal) (clearing bag renewal ++ last) (Remove begun_file)
      (contains_front (clearing bag renewal) last (Remove begun_file)
      (subst (λ b. Contains (cond b (Remove begun_file ∷ []) []) (Remove begun_file)) (sym there)
      (contains_first (Remove begun_file) [])))
