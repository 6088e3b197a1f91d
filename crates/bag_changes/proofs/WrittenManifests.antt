-- The payload manifests that are put are those of the payload that was read.
use Rattle.bag_changes.proofs.Common.{arith, ◌≡◌, ◌&&◌, ◌∷◌, ◌∙◌, inl, inr, ℕ, Bool, true, false, cond, not, List, []}
use Rattle.bag_changes.proofs.Common.{Option, None, Some, map, filter, refl, sym, ap, subst, Contains}
use Rattle.bag_changes.proofs.Common.{contains_behind, contains_first, any_from, algs, is_payload_path}
use Rattle.bag_changes.proofs.Common.{and_parts, false≢true, or_left, tag_path, Payload, Tag, Info, Manifest, Alg, Bag, file}
use Rattle.bag_changes.proofs.Common.{files_of, payload, File, is_kept, is_new_alg, info_files, manifest_by, new_algs}
use Rattle.bag_changes.proofs.Common.{new_rules}
use Rattle.bag_changes.proofs.Common.{new_elements, payload_manifest, payload_manifests, unkept, with_path, written_info}
use Rattle.bag_changes.proofs.Common.{Renewal}
use Rattle.bag_text.proofs.AlgSets.{each_is_listed}
use Rattle.bag_text.specs.declared.rules.Rules.{Rules}
use Rattle.bag_tags.specs.Entry.{manifest_text_by}
use Rattle.bag_tags.specs.OnLines.{text_on_lines}
use Rattle.bag_tags.specs.Summed.{manifests_by, summed_entry, entries_of}
use Rattle.bag_renewed.proofs.AlgsMade.{any_where, has_member_where}
use Rattle.bag_changes.proofs.AlgsWhere.{alg_in, passes}
use Rattle.bag_changes.proofs.KeptOr.{kept_or_written}
use Rattle.bag_renewed.proofs.AlgsMade.{same_where}
use Rattle.bag_changes.proofs.SummedFiles.{filter_within}
use Rattle.bag_renewed.specs.Target.{written_algs}
use Rattle.bag_checked.specs.NewManifests.{manifests_for}
use Rattle.bag_renewed.specs.Renewed.{algs_where, drops_payload_manifest, is_kept_alg, reads_payload}
use Rattle.bag_renewed.specs.Renewed.{writes_payload_manifest}
use Rattle.bag_changes.specs.NewInfo.{IsNewInfo}
use Rattle.bag_checked.specs.Summed.{AreSummedBy, files_to_read, is_to_read, payload_of}
use Rattle.bag_tags.specs.declared.summed.SummedFile.{SummedFile}

-- what a manifest says of files with their digests
pub entries_are : (algs : List Alg) (alg : Alg) → Contains algs alg → (files : List File)
    (summed : List SummedFile) → AreSummedBy algs files summed
    → map (summed_entry alg) summed ≡ entries_of alg files
entries_are algs alg has [] [] h = refl
entries_are algs alg has (e ∷ files) (one ∷ summed) (s, rest) =
    grind (arith, s.path, s.sums alg has, entries_are algs alg has files summed rest)
entries_are algs alg has _ _ h = absurd h

-- two functions that agree on the members of a list
pub mapped_alike : {A B : Type 0} (f g : A → B) (xs : List A) → ((x : A) → Contains xs x → f x ≡ g x) → map f xs ≡ map g xs
mapped_alike f g [] same = refl
mapped_alike f g (x ∷ xs) same =
    let rest = mapped_alike f g xs (λ y c. same y (contains_behind x xs y c)) in
    λ i. same x (contains_first x xs) i ∷ rest i

-- the tag manifests that are put
pub tag_manifests_are : (rules : Rules) (algs : List Alg) (files : List File) (summed : List SummedFile)
    → AreSummedBy algs files summed
    → manifests_by rules Tag algs summed ≡ map (λ alg. (tag_path (Manifest Tag alg), manifest_by rules alg files)) algs
tag_manifests_are rules algs files summed are =
    mapped_alike {B = File} _ _ algs (λ alg has i.
    (tag_path (Manifest Tag alg), manifest_text_by rules (entries_are algs alg has files summed are i)))

no_members : {A : Type 0} (xs : List A) → ((x : A) → Contains xs x → ⊥) → xs ≡ []
no_members [] none = refl
no_members (x ∷ xs) none = absurd (none x (contains_first x xs))

module _ (bag : Bag) (renewal : Renewal) where
  abbrev path_of : Alg → List ℕ
  path_of alg = tag_path (Manifest Payload alg)

  -- the manifest of an algorithm that isn't kept
  abbrev new_manifest : Alg → File
  new_manifest alg = (path_of alg, manifest_by (new_rules bag renewal) alg (payload bag))

  abbrev is_written : Alg → Bool
  is_written alg = is_new_alg bag renewal alg && not (is_kept bag renewal (path_of alg))

  -- ---- which are written

  both_by : (new kept : Bool) → (new && not (new && kept)) ≡ (new && not kept)
  both_by true kept = refl
  both_by false kept = refl

  written_are : written_algs bag renewal ≡ algs_where is_written
  written_are =
      same_where _ is_written (λ alg.
      (λ i. has_member_where (is_new_alg bag renewal) alg i
      && not (has_member_where (is_kept_alg bag renewal) alg i))
      ∙ both_by (is_new_alg bag renewal alg) (is_kept bag renewal (path_of alg)))

  written_new : (alg : Alg) → Contains (algs_where is_written) alg → is_new_alg bag renewal alg ≡ true
  written_new alg has =
      (and_parts (is_new_alg bag renewal alg) (not (is_kept bag renewal (path_of alg))) (passes is_written alg has)).0

  manifest_is : (alg : Alg) → is_kept bag renewal (path_of alg) ≡ false → payload_manifest bag renewal alg ≡ new_manifest alg
  manifest_is alg other = elim (kept_or_written bag renewal (path_of alg) (manifest_by (new_rules bag renewal) alg (payload bag))) [
    | inl kept ↦ absurd (false≢true (sym other ∙ kept.0))
    | inr written ↦ λ i. (path_of alg, written.1 i)
  ]

  one_by : (alg : Alg) (new kept : Bool) (front : List Alg) (rest : List Alg) → is_kept bag renewal (path_of alg) ≡ kept
      → unkept bag renewal (map (payload_manifest bag renewal) front) ≡ map new_manifest rest
      → unkept bag renewal (map (payload_manifest bag renewal) (cond new (alg ∷ front) front))
      ≡ map new_manifest (cond (new && not kept) (alg ∷ rest) rest)
  one_by alg false kept front rest is same = same
  one_by alg true true front rest is same =
      ap (λ b. cond (not b) (payload_manifest bag renewal alg ∷ unkept bag renewal (map (payload_manifest bag renewal) front))
      (unkept bag renewal (map (payload_manifest bag renewal) front))) is ∙ same
  one_by alg true false front rest is same =
      ap (λ b. cond (not b) (payload_manifest bag renewal alg ∷ unkept bag renewal (map (payload_manifest bag renewal) front))
      (unkept bag renewal (map (payload_manifest bag renewal) front))) is ∙ (λ i. manifest_is alg is i ∷ same i)

  unkept_of : (some : List Alg)
      → unkept bag renewal (map (payload_manifest bag renewal) (filter (is_new_alg bag renewal) some))
      ≡ map new_manifest (filter is_written some)
  unkept_of [] = refl
  unkept_of (alg ∷ some) =
      one_by alg (is_new_alg bag renewal alg) (is_kept bag renewal (path_of alg)) (filter (is_new_alg bag renewal) some)
      (filter is_written some) refl (unkept_of some)

  unkept_are : unkept bag renewal (payload_manifests bag renewal) ≡ map new_manifest (algs_where is_written)
  unfolding algs_where
  unkept_are = unkept_of algs

  -- ---- none is written where the payload isn't read

  reads_where_written : (alg : Alg) → is_written alg ≡ true → reads_payload bag renewal ≡ true
  reads_where_written alg is =
      or_left (writes_payload_manifest bag renewal) (not renewal.unchecked && drops_payload_manifest bag renewal)
      (any_where (is_new_alg bag renewal) (λ alg. not (is_kept_alg bag renewal alg))
      ∙ any_from (λ alg. is_new_alg bag renewal alg && not (is_kept_alg bag renewal alg)) algs alg (each_is_listed alg)
      (both_by (is_new_alg bag renewal alg) (is_kept bag renewal (path_of alg)) ∙ is))

  -- ---- the manifests that are put, of the files that are read

  abbrev read_files : List File
  read_files = files_to_read (reads_payload bag renewal) (files_of bag)

  payload_read : reads_payload bag renewal ≡ true → payload_of read_files ≡ payload bag
  payload_read read =
      filter_within (λ (e : File). is_payload_path e.0) (λ e. is_to_read (reads_payload bag renewal) e.0) (λ e is.
      or_left (reads_payload bag renewal) (not (is_payload_path e.0)) read) (files_of bag)

  read_manifest : (alg : Alg) → Contains (algs_where is_written) alg
      → ◌≡◌ {A = File} (path_of alg, manifest_by (new_rules bag renewal) alg (payload_of read_files)) (new_manifest alg)
  read_manifest alg has =
      let read = reads_where_written alg (passes is_written alg has) in
      λ i. (path_of alg, manifest_by (new_rules bag renewal) alg (payload_read read i))

  pub manifests_put : manifests_for (new_rules bag renewal) (written_algs bag renewal) (payload_of read_files)
      ≡ unkept bag renewal (payload_manifests bag renewal)
  manifests_put =
      ap (λ some. manifests_for (new_rules bag renewal) some (payload_of read_files)) written_are
      ∙ mapped_alike {B = File} _ new_manifest (algs_where is_written) read_manifest ∙ sym unkept_are

  -- each is of a new algorithm
  pub written_is_new : (alg : Alg) → Contains (written_algs bag renewal) alg → Contains (new_algs bag renewal) alg
  written_is_new alg has =
      alg_in (is_new_alg bag renewal) alg
      (written_new alg (subst (λ (some : List Alg). Contains some alg) written_are has))

  -- ---- and the metadata

  abbrev info_text : List ℕ
  info_text = text_on_lines (new_elements bag renewal)

  pub info_put : (info : Option (List ℕ)) → IsNewInfo bag renewal info
      → with_path (tag_path Info) info ≡ written_info bag renewal
  info_put None other = sym (ap (λ b. cond b (info_files bag renewal) []) other)
  info_put (Some text) (writes, good, same) =
      (λ i. (tag_path Info, same i) ∷ [])
      ∙ sym (ap (λ b. cond b (cond b ((tag_path Info, info_text) ∷ [])
      (with_path (tag_path Info) (file bag (tag_path Info)))) []) writes)
