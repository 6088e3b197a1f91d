-- The names of the files that a renewal changes.
use Rattle.bag_renew.proofs.Common.{◌++◌, ◌∷◌, ℕ, Bool, true, false, not, cond, List, [], map, Option, refl}
use Rattle.bag_renew.proofs.Common.{filter, AllByRecursion, in_base, tag_path, Kind, Payload, Tag}
use Rattle.bag_renew.proofs.Common.{TagName, Declaration, Info, Manifest, Alg, Bag, file, has_file, FileChange}
use Rattle.bag_renew.proofs.Common.{Remove, changes, clearing, closing, dropping, opening, put, putting, unkept}
use Rattle.bag_renew.proofs.Common.{IsOutOfTheWay, File, begun_file, declaration_file, algs_where, removals_of}
use Rattle.bag_renew.proofs.Common.{has_tag_manifest, is_kept, kept_or, manifest_by}
use Rattle.bag_renew.proofs.Common.{named_tag_files, new_algs, new_elements, new_rules, payload, payload_manifests}
use Rattle.bag_renew.proofs.Common.{tag_manifests, with_path, writes_info, Renewal, last_files, written_info}
use Rattle.bag_renew.proofs.Common.{is_dropped_alg}
use Rattle.bag_tags.specs.OnLines.{text_on_lines}
use Rattle.bag_renew.proofs.ManyChanges.{all_both}
use Rattle.bag_changes.proofs.Staying.{IsWritten}
use Rattle.bag_changes.proofs.ReservedNames.{begun_is_reserved, is_reserved}
use Rattle.bag_renew.proofs.OneChange.{AreOfFiles, IsFileName, name_of}

module _ (bag : Bag) (renewal : Renewal) where
  abbrev pub back : List FileChange
  back = putting bag renewal ++ (dropping bag renewal ++ closing bag renewal)

  abbrev pub info_text : List ℕ
  info_text = text_on_lines (new_elements bag renewal)

  abbrev payload_text : Alg → List ℕ
  payload_text alg = kept_or bag renewal (tag_path (Manifest Payload alg)) (manifest_by (new_rules bag renewal) alg (payload bag))

  abbrev tag_text : Alg → List ℕ
  tag_text alg = manifest_by (new_rules bag renewal) alg (named_tag_files bag renewal)

  -- what holds of the names of tag files, and of that of the begun file, holds of each name
  module _ (P : List ℕ → Type 0) (tags : (tag : TagName) → IsWritten tag → P (tag_path tag)) where
    abbrev Of : FileChange → Type 0
    Of change = P (name_of change)

    abbrev OfFile : File → Type 0
    OfFile e = P e.0

    of_puts : (test : File → Bool) (es : List File) → AllByRecursion OfFile es
        → AllByRecursion Of (map put (filter test es))
    of_puts test [] all = tt
    of_puts test (e ∷ es) all = by_test (test e) (of_puts test es all.1)
      where
        by_test : (b : Bool) → AllByRecursion Of (map put (filter test es))
            → AllByRecursion Of (map put (cond b (e ∷ filter test es) (filter test es)))
        by_test true rest = (all.0, rest)
        by_test false rest = rest

    of_all_puts : (es : List File) → AllByRecursion OfFile es → AllByRecursion Of (map put es)
    of_all_puts [] all = tt
    of_all_puts (e ∷ es) all = (all.0, of_all_puts es all.1)

    of_manifests : (kind : Kind) (text : Alg → List ℕ) (some : List Alg)
        → AllByRecursion OfFile (map {B = File} (λ alg. (tag_path (Manifest kind alg), text alg)) some)
    of_manifests kind text [] = tt
    of_manifests kind text (alg ∷ some) = (tags (Manifest kind alg) tt, of_manifests kind text some)

    of_info : (b : Bool) (text : List ℕ) (there : Option (List ℕ))
        → AllByRecursion Of
        (map put (cond b (cond b ((tag_path Info, text) ∷ []) (with_path (tag_path Info) there)) []))
    of_info true text there = (tags Info tt, tt)
    of_info false text there = tt

    pub of_removes : (kind : Kind) (some : List Alg) → AllByRecursion Of (removals_of kind some)
    of_removes kind [] = tt
    of_removes kind (alg ∷ some) = (tags (Manifest kind alg) tt, of_removes kind some)

    of_putting : AllByRecursion Of (putting bag renewal)
    of_putting =
        all_both Of (map put (written_info bag renewal)) (map put (unkept bag renewal (payload_manifests bag renewal)))
        (of_info (writes_info bag renewal) info_text (file bag (tag_path Info)))
        (of_puts (λ e. not (is_kept bag renewal e.0)) (payload_manifests bag renewal)
        (of_manifests Payload payload_text (new_algs bag renewal)))

    of_closing : AllByRecursion Of (closing bag renewal)
    of_closing =
        all_both Of (map put (last_files bag renewal)) (map put (tag_manifests bag renewal))
        (of_puts (λ e. not (is_kept bag renewal e.0)) (declaration_file bag renewal ∷ []) (tags Declaration tt, tt))
        (of_all_puts (tag_manifests bag renewal) (of_manifests Tag tag_text (new_algs bag renewal)))

    pub of_back : AllByRecursion Of back
    of_back =
        all_both Of (putting bag renewal) (dropping bag renewal ++ closing bag renewal) of_putting
        (all_both Of (dropping bag renewal) (closing bag renewal)
        (of_removes Payload (algs_where (is_dropped_alg bag renewal))) of_closing)

    module _ (begun : P begun_file) where
      pub of_clearing : (b : Bool) → AllByRecursion Of (cond b (Remove begun_file ∷ []) [])
      of_clearing true = (begun, tt)
      of_clearing false = tt

      pub of_changes : AllByRecursion Of (changes bag renewal)
      of_changes =
          all_both Of (opening bag renewal) (clearing bag renewal ++ back)
          (of_removes Tag (algs_where (has_tag_manifest bag)))
          (all_both Of (clearing bag renewal) back (of_clearing (has_file bag begun_file)) of_back)

  pub are_of_files : IsOutOfTheWay bag → AreOfFiles bag (changes bag renewal)
  are_of_files way =
      of_changes (IsFileName bag) (λ tag written. (in_base tag, way (tag_path tag) (is_reserved tag written)))
      (refl, way begun_file begun_is_reserved)
