-- Sums by their algorithms.
use Rattle.bag_tree.proofs.Common.{arith, ◌≡◌, ◌-◌, ℕ, List, Option, Some, None, Contains, get_or, refl, take}
use Rattle.bag_tree.proofs.Common.{option_map, encode_lower, rank, Alg, Md5, digest, hash_len, sum_at, AreSumsOf}
use Rattle.bag_tree.proofs.Common.{IsHashWhere}
use Rattle.bag_tree.specs.Sums.{hex_digests}

-- a value in hex, without the zeros after it
abbrev spelled : Alg → Option (List ℕ) → Option (List ℕ)
spelled alg slot = option_map encode_lower (option_map (take (hash_len alg)) slot)

shown_at : (digests : List (Option (List ℕ))) (alg : Alg)
    → sum_at (hex_digests (record { digests = digests })) alg ≡ spelled alg (get_or digests (rank alg - 1) None)
shown_at digests Md5 = refl
shown_at digests _ = refl

spelled_asked : (asked : List Alg) (alg : Alg) (bytes : List ℕ) (slot : Option (List ℕ))
    → IsHashWhere asked alg bytes slot → Contains asked alg → spelled alg slot ≡ Some (digest alg bytes)
spelled_asked asked alg bytes slot is has = grind arith

spelled_other : (asked : List Alg) (alg : Alg) (bytes : List ℕ) (slot : Option (List ℕ))
    → IsHashWhere asked alg bytes slot → ¬ (Contains asked alg) → spelled alg slot ≡ None
spelled_other asked alg bytes slot is lacks = grind arith

-- the values of all algorithms, in hex
pub sums_of_hashes : (asked : List Alg) (bytes : List ℕ) (digests : List (Option (List ℕ)))
    → ((alg : Alg) → IsHashWhere asked alg bytes (get_or digests (rank alg - 1) None))
    → AreSumsOf asked bytes (hex_digests (record { digests = digests }))
sums_of_hashes asked bytes digests are = grind (arith, shown_at, spelled_asked, spelled_other)
