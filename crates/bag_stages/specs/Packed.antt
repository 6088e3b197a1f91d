-- How what manifests give for a file is kept in one piece of memory.
use Rattle.std.specs.Prelude.{ℕ, zero, suc, ◌-◌, List, [], ◌∷◌, length, take, get_or}
use Rattle.std.specs.List.{flat_map}
use Rattle.bag_text.specs.Alg.{algs, rank}
use Rattle.bag_text.specs.declared.alg.Alg.{Alg}
use Rattle.bag_text.specs.declared.alg.Alg.TheVariants.{Md5}
use Rattle.bag_stages.specs.Expected.{Expected, given}

-- what one manifest gives: the rank of its algorithm, how many bytes the digest has, and these
abbrev pub packed_one : Expected → List ℕ
packed_one one = rank one.alg ∷ length one.digest ∷ one.digest

-- what several give
abbrev pub packed : List Expected → List ℕ
packed expected = flat_map packed_one expected

-- the algorithm of a rank
abbrev pub alg_ranked : ℕ → Alg
alg_ranked place = get_or algs (place - 1) Md5

-- what bytes give, after so many of them
abbrev pub unpacked_after : ℕ → List ℕ → List Expected
unpacked_after (suc k) (b ∷ rest) = unpacked_after k rest
unpacked_after zero (place ∷ count ∷ rest) =
    given (alg_ranked place) (take count rest) ∷ unpacked_after count rest
unpacked_after _ _ = []

-- what bytes give
abbrev pub unpacked : List ℕ → List Expected
unpacked bytes = unpacked_after 0 bytes
