use Rattle.bag_entries.proofs.Common.{◌≡◌, ◌*◌, take, str_to_ascii_lowercase, encode_lower}
use Rattle.bag_entries.proofs.digest.read_pairs.Given as goal

abbrev pub invariant-loop-k : goal.invariant-loop-k
invariant-loop-k l = encode_lower (take l.k l.bytes) ≡ str_to_ascii_lowercase (take (2 * l.k) l.digits)
