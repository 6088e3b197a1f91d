-- The digests of a file's bytes, by several algorithms.
use Rattle.std.specs.Prelude.{ℕ, ◌≡◌, ◌/◌, ◌-◌, List, Option, Some, None, Contains, slice_index_or}
use Rattle.bag_text.specs.Bytes.{Content, Digest}
use Rattle.bag_text.specs.Alg.{hex_len, rank}
use Rattle.bag_text.specs.declared.alg.Alg.{Alg}
use Rattle.bag_tree.specs.Digest.{digest}

-- the digest by an algorithm, of a list with a place for each algorithm in their order
abbrev pub sum_at : List (Option Digest) → Alg → Option Digest
sum_at sums alg = slice_index_or sums (rank alg - 1) None

-- these are the digests of the bytes: by each algorithm that was asked for, and by no other
pub record AreSumsOf (asked : List Alg) (bytes : Content) (sums : List (Option Digest)) : Type 0
  where
    pub each : (alg : Alg) → Contains asked alg → sum_at sums alg ≡ Some (digest alg bytes)
    pub no_other : (alg : Alg) → ¬ (Contains asked alg) → sum_at sums alg ≡ None

-- how many bytes a value has
abbrev pub hash_len : Alg → ℕ
hash_len alg = hex_len alg / 2
