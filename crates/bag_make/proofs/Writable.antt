-- The manifests of a made bag can be written.
use Rattle.bag_make.proofs.Common.{◌≡◌, ℕ, Bool, true, false, not, List, [], ◌∷◌, map, is_some, refl, ap, sym, subst}
use Rattle.bag_make.proofs.Common.{codes, bytes_eq, IsUtf8, texts_ties, eq_by_cmp, AllByRecursion, list_any, or_from}
use Rattle.bag_make.proofs.Common.{not_from_true, All-from_recursion, IsUtf8-append, IsUtf8-from_is_utf8}
use Rattle.bag_make.proofs.Common.{is_utf8-from_IsUtf8, under, is_path, text_cmp, IsText, Alg, Md5, each_from_members}
use Rattle.bag_make.proofs.Common.{tag_path, Kind, Payload, Tag, Manifest, Bag, files_of, digest, NewElement, NewEntry}
use Rattle.bag_make.proofs.Common.{is_bad_path, is_bad_entry, is_bad_digest, may_name, begins_with_mark, paths, File}
use Rattle.bag_make.proofs.Common.{data_folder, new_payload, entries_of, manifest, AreInPathOrder, CanMake}
use Rattle.std.specs.Char.{encode_utf8}
use Rattle.std.specs.List.{IsDistinct}
use Rattle.std.specs.Str.{is_utf8, chars}
use Rattle.std.proofs.lemmas.Map.Keys.{IsDistinct-from_sorted}
use Rattle.std.proofs.lemmas.Simd.{map-map}
use Rattle.bag_tags.proofs.Digests.{good_digest}
use Rattle.bag_make.proofs.Entries.{AreWritable, listed}
use Rattle.bag_facts.proofs.Found.{held_at}
use Rattle.bag_make.proofs.Held.{payload_member}
use Rattle.bag_make.proofs.PathOrder.{manifests_ascend}
use Rattle.bag_make.proofs.PayloadIsTheFolder.{in_payload}

-- a path that a manifest of this kind can name: a text, and none that is bad
abbrev CanName : Kind → List ℕ → Type 0
CanName kind path = IsText path × (is_bad_path kind path ≡ false)

name_payload : (p : List ℕ) → is_path p ≡ true → IsUtf8 p → CanName Payload (under data_folder p)
unfolding is_utf8 chars encode_utf8
name_payload p is text = (
  is_utf8-from_IsUtf8 (under data_folder p)
      (IsUtf8-append (codes "data/") p (IsUtf8-from_is_utf8 (codes "data/") refl) text),
  or_from (not (may_name Payload (under data_folder p))) (begins_with_mark (under data_folder p))
      (not_from_true _ (in_payload p is)) refl,
)

-- the manifests that a tag manifest names
manifests_named : (text : Alg → List ℕ) (algs : List Alg)
    → AllByRecursion (λ (e : File). CanName Tag e.0)
    (map {B = File} (λ alg. (tag_path (Manifest Payload alg), text alg)) algs)
unfolding is_utf8 chars encode_utf8
manifests_named text [] = tt
manifests_named text (Md5 ∷ algs) = ((refl, refl), manifests_named text algs)
manifests_named text (_ ∷ algs) = ((refl, refl), manifests_named text algs)

good_entries : (kind : Kind) (alg : Alg) (es : List File) → AllByRecursion (λ (e : File). CanName kind e.0) es
    → AllByRecursion (λ (entry : NewEntry). IsText entry.1) (entries_of alg es)
    × (list_any (is_bad_entry kind alg) (entries_of alg es) ≡ false)
good_entries kind alg [] all = (tt, refl)
good_entries kind alg (e ∷ es) all =
    let more = good_entries kind alg es all.1 in (
      (all.0.0, more.0),
      or_from (is_bad_entry kind alg (digest alg e.1, e.0)) _
          (or_from (is_bad_digest alg (digest alg e.1)) (is_bad_path kind e.0) (good_digest alg e.1) all.0.1) more.1,
    )

-- in path order no path stands twice
each_once : (alg : Alg) (es : List File) → AreInPathOrder es → IsDistinct bytes_eq (paths (entries_of alg es))
each_once alg es up =
    let named : IsDistinct (eq_by_cmp text_cmp) (paths (entries_of alg es)) =
    rw map-map (IsDistinct-from_sorted text_cmp (map (λ (e : File). e.0) es) up) in
    subst (λ (eq : List ℕ → List ℕ → Bool). IsDistinct eq (paths (entries_of alg es))) (λ i p q. sym (texts_ties p q) i)
    named

module _ (bag : Bag) (algs : List Alg) (info : List NewElement) (can : CanMake bag algs info) where
  can_name : (kind : Kind) → AllByRecursion (λ (e : File). CanName kind e.0) (listed bag algs info kind)
  unfolding is_utf8 chars encode_utf8
  can_name Payload = each_from_members (λ (e : File). CanName Payload e.0) (new_payload (files_of bag)) (λ e h.
      let m = payload_member bag algs info e.0 e.1 h in
      let two = can.is_bag.paths m.0 (ap is_some (held_at bag.files m.0 e.1 m.2)) in
      subst (CanName Payload) (sym m.1) (name_payload m.0 two.0 two.1))
  can_name Tag = ((refl, refl), ((refl, refl), manifests_named (λ alg. manifest alg (new_payload (files_of bag))) algs))

  in_order : (kind : Kind) → AreInPathOrder (listed bag algs info kind)
  in_order Payload = (manifests_ascend bag algs info can.ascending).0
  in_order Tag = (manifests_ascend bag algs info can.ascending).1

  pub writable : AreWritable bag algs info
  writable kind alg =
      let good = good_entries kind alg (listed bag algs info kind) (can_name kind) in (
        All-from_recursion (λ (entry : NewEntry). IsText entry.1) (entries_of alg (listed bag algs info kind)) good.0,
        (good.1, each_once alg (listed bag algs info kind) (in_order kind)),
      )
