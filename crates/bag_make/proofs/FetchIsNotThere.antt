-- Stage 4: a made bag has nothing to fetch.
use Rattle.bag_make.proofs.Common.{arith, ◌≡◌, ℕ, List, [], Some, Alg, Code, FetchNotInManifest, Fetch, Bag, Fault}
use Rattle.bag_make.proofs.Common.{NewElement, made}
use Rattle.std.specs.List.{slice_get}
use Rattle.bag_stages.specs.FetchStage.{InFetch, FetchHolds, IsOfFetch}
use Rattle.bag_make.proofs.Held.{no_fetch, tag_held}

pub no_line : (k : ℕ) (line : List ℕ) → slice_get {X = List ℕ} [] k ≡ Some line → ⊥
no_line k line e = cc

module _ (bag : Bag) (algs : List Alg) (info : List NewElement) (f : Fault) where
  not_there : InFetch (made bag algs info) f → ⊥
  not_there (at, alg, (bytes, held, wrong)) = tag_held bag algs info Fetch bytes held

  by_code : (code : Code) → FetchHolds (made bag algs info) f code → ⊥
  unfolding FetchHolds
  by_code FetchNotInManifest h = grind (arith, no_fetch, no_line)
  by_code _ h = search not_there

  pub no_fetch_fault : IsOfFetch (made bag algs info) f → ⊥
  unfolding IsOfFetch
  no_fetch_fault h = by_code f.code h
