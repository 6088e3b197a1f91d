-- What digests have taken.
use Rattle.std.specs.Prelude.{ℕ, ◌≡◌, ◌-◌, ◌<◌, List, All, Contains, Option, Some, None}
use Rattle.std.specs.Prelude.{slice_index_or, take}
use Rattle.bag_text.specs.Alg.{rank}
use Rattle.bag_text.specs.declared.alg.Alg.{Alg}
use Rattle.bag_tree.specs.Digest.{hash}
use Rattle.bag_tree.specs.DigestsOf.{hash_len}
use Rattle.bag_tree.specs.Hasher.{HoldsMessage}
use Rattle.bag_tree.specs.declared.hasher.Hasher.{Hasher}
use Rattle.bag_tree.specs.declared.digests.Digests.{Digests}

-- there is a hasher where the algorithm was asked for, and it holds the message
abbrev pub HoldsWhere : List Alg → Alg → List ℕ → Option Hasher → Type 0
HoldsWhere asked alg message None = ¬ (Contains asked alg)
HoldsWhere asked alg message (Some hasher) = Contains asked alg × HoldsMessage alg hasher message

-- there is a value where the algorithm was asked for, and it begins with that of the message
abbrev pub IsHashWhere : List Alg → Alg → List ℕ → Option (List ℕ) → Type 0
IsHashWhere asked alg message None = ¬ (Contains asked alg)
IsHashWhere asked alg message (Some bytes) =
    Contains asked alg × (take (hash_len alg) bytes ≡ hash alg message)

-- the hasher of an algorithm
abbrev pub hasher_at : Digests → Alg → Option Hasher
hasher_at digests alg = slice_index_or digests.hashers (rank alg - 1) None

-- for each of these algorithms, and for no other, a hasher holds these bytes
pub record HaveTaken (asked : List Alg) (digests : Digests) (message : List ℕ) : Type 0 where
  pub bytes : All (λ b. b < 256) message
  pub hashers : (alg : Alg) → HoldsWhere asked alg message (hasher_at digests alg)
