-- A set of algorithms, which has a flag for each.
use Rattle.std.specs.Prelude.{◌≡◌, ◌-◌, Bool, false, List, filter, length, map, slice_index_or}
use Rattle.bag_text.specs.declared.alg.Alg.{Alg}
use Rattle.bag_text.specs.declared.alg_set.AlgSet.TheInside.{Inside}
use Rattle.bag_text.specs.Alg.{algs, rank}
use Rattle.bag_text.specs.AlgList.{has_member}

-- there is a flag for each algorithm
abbrev pub IsTable : Inside → Type 0
IsTable set = length set.flags ≡ length algs

-- the flag of an algorithm
abbrev pub flag_of : Inside → Alg → Bool
flag_of set alg = slice_index_or set.flags (rank alg - 1) false

-- those whose flag is set, in their order
abbrev pub members : Inside → List Alg
members set = filter (flag_of set) algs

-- the flags of a list of members
abbrev pub table : List Alg → Inside
table set = record { flags = map (has_member set) algs }
