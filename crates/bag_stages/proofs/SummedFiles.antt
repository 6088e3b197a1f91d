-- The files whose digests are compared.
use Rattle.bag_stages.proofs.Common.{◌≢◌, ℕ, List, [], ◌∷◌, ap, is_some, refl, subst, Contains, Alg, contains_first}
use Rattle.bag_stages.proofs.Common.{contains_nothing, entry_named, Bag, Fault, rules_in, lines_in, manifest_of, Names}
use Rattle.bag_stages.proofs.Common.{AreNaming, kind_of, IsNamed, IsSummed, IsOfValidity}
use Rattle.bag_stages.proofs.NamesByKind.{names_by_kind}
use Rattle.bag_stages.proofs.ValidityFaults.{validity_of_entry}

-- of the algorithms whose manifests name a path there is one exactly where a manifest, of whatever kind, names it
module _ (bag : Bag) (path : List ℕ) where
  pub some_named : (set : List Alg) → AreNaming bag path set → set ≢ [] → IsNamed bag path
  some_named [] are some = absurd (some refl)
  some_named (alg ∷ set) are some = (kind_of path, alg, (are alg).0 (contains_first alg set))

  pub named_some : (set : List Alg) → AreNaming bag path set → IsNamed bag path → set ≢ []
  named_some set are (kind, alg, named) none =
      let one : Names bag (kind_of path) alg path =
      subst (λ k. Names bag k alg path) (names_by_kind bag kind alg path named) named in
      contains_nothing alg (subst (λ s. Contains s alg) none ((are alg).1 one))

-- each fault of a digest is of a file that is there and that a manifest names
module _ (bag : Bag) (f : Fault) where
  pub faulty_is_summed : IsOfValidity bag f → IsSummed bag f.path
  faulty_is_summed h =
      let (kind, (alg, (entry, listed, (content, there, differ, is)))) = validity_of_entry bag f h in
      rw (ap (λ (x : Fault). x.path) is) (
        ap is_some there,
        (kind, alg, entry_named (rules_in bag) kind alg (lines_in bag (manifest_of kind alg)) entry listed),
      )
