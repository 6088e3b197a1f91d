-- The first line of a text, and the lines that follow it.
use Rattle.bag_text.proofs.Common.{Bool, List, Some, [], ap, append_assoc, arith, cond, drop, eqb, false, get_or}
use Rattle.bag_text.proofs.Common.{length, lit<, position, refl, subst, suc, take, true, zero, ℕ, ◌&&◌, ◌++◌, ◌+◌, ◌<◌}
use Rattle.bag_text.proofs.Common.{◌^◌, ◌∙◌, ◌∷◌, ◌≡◌, ◌≤◌, nat_tests, common_steps, recursion_from_All}
use Rattle.bag_text.proofs.Common.{IsCharBoundary-after_ascii, IsCharBoundary-before_ascii, onto_first, starts_with}
use Rattle.bag_text.proofs.Common.{IsCharBoundary, IsUtf8, end_len, is_line_end, HasNoEnd, IsEnd, lines}
use Rattle.std.proofs.lemmas.List.Quantifiers.{position-Some}
use Rattle.bag_text.proofs.LineLaws.{IsPlain, lines_plain, lines_end, lines_line}

-- a text splits as its first line, that line's end and the rest
pub lines_split : (line end after : List ℕ) → HasNoEnd line → IsEnd end after
    → lines (line ++ end ++ after) ≡ line ∷ lines after
lines_split line end after plain is = search (arith, append_assoc, lines_line, recursion_from_All, lines_end)

end_small : (c : ℕ) → is_line_end c ≡ true → c < 128
end_small c e = grind (arith, nat_tests)

-- a text may be cut before a line end
pub cut_before_end : (t : List ℕ) (i : ℕ) → i < length t → is_line_end (get_or t i 0) ≡ true → IsCharBoundary t i
cut_before_end t i l e = IsCharBoundary-before_ascii t i l (end_small _ e)

read_within : (t : List ℕ) (i c : ℕ) → get_or t i 0 ≡ c → 0 < c → i < length t
read_within t i c e p = grind (arith, common_steps)

ends_twice : (c d : ℕ) → (eqb c 13 && eqb d 10) ≡ true → d ≡ 10
ends_twice c d e = grind (arith, nat_tests)

cut_after : (t : List ℕ) (i : ℕ) (b : Bool) → IsUtf8 t → i < length t → is_line_end (get_or t i 0) ≡ true
    → (eqb (get_or t i 0) 13 && eqb (get_or t (i + 1) 0) 10) ≡ b → IsCharBoundary t (i + cond b 2 1)
cut_after t i true u l e h =
    let feed : get_or t (i + 1) 0 ≡ 10 = ends_twice _ _ h in
    let step : (i + 1) + 1 ≡ i + 2 = omega arith in
    subst (IsCharBoundary t) step
    (IsCharBoundary-after_ascii t (i + 1) u (read_within t (i + 1) 10 feed (lit< tt)) (rw feed (lit< tt)))
cut_after t i false u l e h = IsCharBoundary-after_ascii t i u l (end_small _ e)

-- and after it
pub cut_after_end : (t : List ℕ) (i : ℕ) → IsUtf8 t → i < length t → is_line_end (get_or t i 0) ≡ true
    → IsCharBoundary t (i + end_len t i)
cut_after_end t i u l e = cut_after t i _ u l e refl

plain_at : (c : ℕ) → is_line_end c ≡ false → IsPlain c
plain_at c e = ((λ feed. grind (arith, nat_tests)), (λ back. grind (arith, nat_tests)))

after_end-cons : (c : ℕ) (t : List ℕ) (i : ℕ)
    → drop (suc i + end_len (c ∷ t) (suc i)) (c ∷ t) ≡ drop (i + end_len t i) t
after_end-cons c t i = grind arith

-- the lines of a text whose first line ends at this place
pub lines_from_end : (t : List ℕ) (i : ℕ) → i < length t → is_line_end (get_or t i 0) ≡ true
    → ((k : ℕ) → k < i → is_line_end (get_or t k 0) ≡ false) → lines t ≡ take i t ∷ lines (drop (i + end_len t i) t)
lines_from_end [] i l e n = absurd (omega arith)
lines_from_end (c ∷ t) zero l e n = grind (arith, nat_tests)
lines_from_end (c ∷ t) (suc i) l e n =
    rw (
      lines_plain c t (plain_at c (n 0 (omega arith))),
      lines_from_end t i (omega arith) e (λ k h. n (suc k) (omega arith)),
      after_end-cons c t i,
    ) refl

-- a text without a line end is one line
pub one_line : (t : List ℕ) → 0 < length t → ((k : ℕ) → k < length t → is_line_end (get_or t k 0) ≡ false)
    → lines t ≡ t ∷ []
one_line [] l n = absurd (omega arith)
one_line (c ∷ []) l n = lines_plain c [] (plain_at c (n 0 (omega arith)))
one_line (c ∷ d ∷ t) l n =
    lines_plain c (d ∷ t) (plain_at c (n 0 (omega arith)))
    ∙ ap (onto_first c) (one_line (d ∷ t) (omega arith) (λ k h. n (suc k) (omega arith)))

-- what stands at the place that the search found
pub found : (t : List ℕ) (i : ℕ) → position is_line_end t ≡ Some i
    → (i < length t) × (is_line_end (get_or t i 0) ≡ true) × ((k : ℕ) → k < i → is_line_end (get_or t k 0) ≡ false)
found t i e = position-Some is_line_end t i 0 e

length-onto_first : (c : ℕ) (all : List (List ℕ)) (n : ℕ) → length all ≤ n → 0 < n → length (onto_first c all) ≤ n
length-onto_first c all n h p = grind arith

length-choice : (b : Bool) (xs ys : List (List ℕ)) (n : ℕ) → length xs ≤ n → length ys ≤ n → length (cond b xs ys) ≤ n
length-choice b xs ys n h k = grind arith

-- each line takes a character at least
pub length-lines : (t : List ℕ) → length (lines t) ≤ length t
length-lines [] = omega arith
length-lines (c ∷ t) =
    let more : length (lines t) ≤ length t = length-lines t in
    length-choice (eqb c 10) _ _ _ (omega arith)
    (length-choice (eqb c 13) _ _ _ (length-choice (starts_with eqb t (10 ∷ [])) _ _ _ (omega arith) (omega arith))
    (length-onto_first c (lines t) _ (omega arith) (omega arith)))

pub lines_few : (t : List ℕ) → length t < 2 ^ 64 → length (lines t) < 2 ^ 64
lines_few t h = omega (arith, length-lines t)
