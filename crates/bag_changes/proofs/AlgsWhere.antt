-- The algorithms that pass.
use Rattle.bag_changes.proofs.Common.{◌≡◌, Bool, true, Contains, algs, Alg}
use Rattle.bag_renewed.specs.Renewed.{algs_where}
use Rattle.bag_facts.proofs.Mapped.{kept, passed}
use Rattle.bag_text.proofs.AlgSets.{each_is_listed}

pub passes : (p : Alg → Bool) (alg : Alg) → Contains (algs_where p) alg → p alg ≡ true
unfolding algs_where
passes p alg has = (kept p algs alg has).0

pub alg_in : (p : Alg → Bool) (alg : Alg) → p alg ≡ true → Contains (algs_where p) alg
unfolding algs_where
alg_in p alg is = passed p algs alg is (each_is_listed alg)
