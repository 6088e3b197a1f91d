-- What bytes begin alike with, and sixteen bytes of a text.
use Rattle.bag_text.proofs.Common.{◌≡◌, ℕ, ◌+◌, ◌-◌, ◌==◌, ◌<◌, ◌≤◌, List, ◌++◌, length, take, drop, replicate, min}
use Rattle.bag_text.proofs.Common.{sym, ap, ◌∙◌, arith, common_prefix_len, drop-replicate, take-replicate}
use Rattle.bag_text.proofs.Common.{take-append-le, length-drop, common_prefix_len-le, take-append-add, common_front}
use Rattle.bag_text.proofs.Common.{front_of_sixteen}

pub padded : (bytes : List ℕ) → length bytes < 16
    → bytes ++ drop (length bytes) (replicate 16 0) ≡ front_of_sixteen bytes
padded bytes l =
    let sum : 16 ≡ length bytes + (16 - length bytes) = omega arith in
    let front =
    ap (λ n. take n (bytes ++ replicate 16 0)) sum ∙ take-append-add bytes (replicate 16 0) (16 - length bytes) in
    let zeros = drop-replicate (length bytes) 16 0 ∙ sym (take-replicate (16 - length bytes) 16 0 (omega arith)) in
    ap (λ rest. bytes ++ rest) zeros ∙ sym front

pub whole : (bytes : List ℕ) → 16 ≤ length bytes → take 16 bytes ≡ front_of_sixteen bytes
whole bytes l = sym (take-append-le 16 bytes (replicate 16 0) l)

-- so many places are alike, and what follows them has the rest
abbrev pub AreAlikeTo : List ℕ → List ℕ → ℕ → Type 0
AreAlikeTo first second place =
    common_prefix_len (λ a b. a == b) first second
    ≡ place + common_prefix_len (λ a b. a == b) (drop place first) (drop place second)

pub alike_all : (first second : List ℕ) → AreAlikeTo first second (min (length first) (length second))
    → take (min (length first) (length second)) first ≡ common_front first second
alike_all first second h = grind (arith, common_prefix_len-le, length-drop)
