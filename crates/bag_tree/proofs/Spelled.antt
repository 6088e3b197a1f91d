-- Bytes that are spelled alike are the same.
use Rattle.bag_tree.proofs.Common.{arith, ◌≡◌, ℕ, List, IsBytes, encode_lower}
use Rattle.hex.proofs.HexLemmas.{decode_of-encode_lower}

pub one_spelled : (xs ys : List ℕ) → IsBytes xs → IsBytes ys → encode_lower xs ≡ encode_lower ys → xs ≡ ys
one_spelled xs ys first second alike = grind (arith, decode_of-encode_lower xs first, decode_of-encode_lower ys second)
