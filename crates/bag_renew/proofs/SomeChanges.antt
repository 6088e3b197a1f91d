-- A renewal makes some change, and leaves no file that is begun.
use Rattle.bag_renew.proofs.Common.{◌≡◌, ◌≢◌, ◌++◌, ◌∷◌, inl, inr, ℕ, false, List, [], Option, None, Some, is_some, map}
use Rattle.bag_renew.proofs.Common.{refl, ap, begun_file, file, has_file, changes, clearing, dropping, opening, putting}
use Rattle.bag_renew.proofs.Common.{put, manifest_by, named_tag_files, new_algs, new_rules, renewed}
use Rattle.bag_renew.proofs.Common.{tag_path, Tag, Manifest, Alg, Bag, File, FileChange, Renewal, last_files}
use Rattle.bag_changes.proofs.Contents.{these_files}
use Rattle.bag_changes.proofs.Staying.{itself, no_begun, no_payload_name, stays_so}
use Rattle.bag_changes.specs.Contents.{Stands}

last_none : (xs ys : List FileChange) → xs ++ ys ≡ [] → ys ≡ []
last_none [] ys none = none
last_none (x ∷ xs) ys none = cc

none_mapped : (f : Alg → File) (algs : List Alg) → map put (map f algs) ≡ [] → algs ≡ []
none_mapped f [] none = refl
none_mapped f (alg ∷ algs) none = cc

-- the tag manifests are put
pub some_changes : (bag : Bag) (renewal : Renewal) → new_algs bag renewal ≢ [] → changes bag renewal ≢ []
some_changes bag renewal some none =
    let four = last_none (opening bag renewal) _ none in
    let three = last_none (clearing bag renewal) _ four in
    let two = last_none (putting bag renewal) _ three in
    let one = last_none (dropping bag renewal) _ two in
    some (none_mapped (λ alg. (tag_path (Manifest Tag alg), manifest_by (new_rules bag renewal) alg (named_tag_files bag renewal)))
    (new_algs bag renewal) (last_none (map put (last_files bag renewal)) _ one))

not_standing : (bag : Bag) (renewal : Renewal) (content : List ℕ) → Stands bag renewal begun_file content → ⊥
not_standing bag renewal content (inl (at, inl is)) = no_payload_name begun_file refl is
not_standing bag renewal content (inl (at, inr is)) = itself begun_file (stays_so begun_file is).begun
not_standing bag renewal content (inr (tag, same, text)) = no_begun tag same

-- nothing has the name of a file that is begun
pub none_begun : (bag : Bag) (renewal : Renewal) → has_file (renewed bag renewal) begun_file ≡ false
none_begun bag renewal = by_file (file (renewed bag renewal) begun_file) refl
  where
    by_file : (o : Option (List ℕ)) → file (renewed bag renewal) begun_file ≡ o
        → has_file (renewed bag renewal) begun_file ≡ false
    by_file None at = ap is_some at
    by_file (Some content) at =
        absurd (not_standing bag renewal content ((these_files bag renewal begun_file content).0 at))
