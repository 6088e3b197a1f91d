-- How contracts see sums.
use Rattle.std.specs.Prelude.{ℕ, ◌-◌, List, Option, None, map, take, slice_index_or}
use Rattle.std.specs.Option.{option_map}
use Rattle.bag_text.specs.Bytes.{Digest}
use Rattle.hex.specs.Hex.{encode_lower}
use Rattle.bag_text.specs.Alg.{algs, rank}
use Rattle.bag_text.specs.declared.alg.Alg.{Alg}
use Rattle.bag_tree.specs.DigestsOf.{hash_len}
use Rattle.bag_tree.specs.declared.sums.Sums.TheInside.{Inside}

-- the bytes of the digest by an algorithm, without the zeros after them
abbrev pub bytes_at : Inside → Alg → Option (List ℕ)
bytes_at sums alg =
    option_map (take (hash_len alg)) (slice_index_or sums.digests (rank alg - 1) None)

-- each digest in lower-case hex
abbrev pub hex_digests : Inside → List (Option Digest)
hex_digests sums = map (λ alg. option_map encode_lower (bytes_at sums alg)) algs
