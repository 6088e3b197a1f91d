-- What manifests name is in path order.
use Rattle.std.proofs.Common.{arith}
use Rattle.bag_make.proofs.Common.{◌≡◌, ℕ, List, [], ◌∷◌, map, refl, ◌∙◌, entries_sorted, AllByRecursion, Less}
use Rattle.bag_make.proofs.Common.{rank_cmp, text_cmp, Alg, tag_path, Payload, Declaration, Info, Manifest, files_of}
use Rattle.bag_make.proofs.Common.{AreInPathOrder, ManifestsAscend, File, new_payload, manifest}
use Rattle.std.specs.List.Sorted.{IsStrictlySortedBy}
use Rattle.bag_tree.proofs.PathEntries.{t_true}
use Rattle.bag_make.proofs.PayloadIsTheFolder.{sorted_payload}
use Rattle.bag_facts.proofs.Found.{ascends}

abbrev path_of : Alg → List ℕ
path_of alg = tag_path (Manifest Payload alg)

module _ (text : Alg → List ℕ) where
  abbrev manifests : List Alg → List File
  manifests algs = map (λ alg. (path_of alg, text alg)) algs

  above : (q : List ℕ) (algs : List Alg) → ((alg : Alg) → text_cmp q (path_of alg) ≡ Less)
      → AllByRecursion (λ p. text_cmp q p ≡ Less) (map (λ (e : File). e.0) (manifests algs))
  above q [] h = tt
  above q (alg ∷ algs) h = (h alg, above q algs h)

  above_manifest : (a : Alg) (algs : List Alg) → AllByRecursion (λ b. rank_cmp a b ≡ Less) algs
      → AllByRecursion (λ p. text_cmp (path_of a) p ≡ Less) (map (λ (e : File). e.0) (manifests algs))
  above_manifest a [] up = tt
  above_manifest a (b ∷ algs) up = grind (arith, above_manifest a algs up.1)

  manifests_rise : (algs : List Alg) → IsStrictlySortedBy rank_cmp algs → AreInPathOrder (manifests algs)
  unfolding IsStrictlySortedBy
  manifests_rise [] up = tt
  manifests_rise (alg ∷ algs) up = (above_manifest alg algs up.0, manifests_rise algs up.1)

pub manifests_ascend : ManifestsAscend
unfolding IsStrictlySortedBy
manifests_ascend bag algs info up =
    let files = files_of bag in
    let text : Alg → List ℕ = λ alg. manifest alg (new_payload files) in (
      ascends (new_payload files) (sorted_payload files ∙ t_true _ (entries_sorted bag.files)),
      (
        (refl, above text (tag_path Info) algs (λ alg. refl)),
        (above text (tag_path Declaration) algs (λ alg. refl), manifests_rise text algs up),
      ),
    )
