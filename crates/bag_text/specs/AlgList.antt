-- Lists of algorithms that stand for sets.
use Rattle.std.specs.Prelude.{Bool, ◌||◌, ◌==◌, List, filter}
use Rattle.std.specs.List.{list_any}
use Rattle.bag_text.specs.declared.alg.Alg.{Alg}
use Rattle.bag_text.specs.Alg.{algs, rank}

abbrev pub same_alg : Alg → Alg → Bool
same_alg a b = rank a == rank b

abbrev pub has_member : List Alg → Alg → Bool
has_member set alg = list_any (same_alg alg) set

-- one more member, and all of them in their order
abbrev pub with_member : List Alg → Alg → List Alg
with_member set alg = filter (λ a. same_alg a alg || has_member set a) algs
