-- A line that was made field by field.
use Rattle.bag_faults.proofs.Common.{◌≡◌, ℕ, List, [], ◌∷◌, ◌++◌, Result, Ok, Err, cond, length, take, ap, ◌∙◌}
use Rattle.bag_faults.proofs.Common.{append_assoc, arith, length-append, OnOk, OnErr, take-take, join_with_byte, is_ok}
use Rattle.std.proofs.Math.Seq.{take-append_seam, take-length}
use Rattle.std.specs.Io.{StartsWith}
use Rattle.bag_faults.proofs.PassedOn.{on_error}

-- one piece, and then the rest
pub one_piece : (start next whole piece rest : List ℕ) → next ≡ start ++ piece → whole ≡ next ++ rest
    → whole ≡ start ++ (piece ++ rest)
one_piece start next whole piece rest first more = more ∙ ap (λ s. s ++ rest) first ∙ append_assoc start piece rest

-- six fields, each but the first after a space
pub six_fields : (s0 s1 s2 s3 s4 s5 s6 a b c d e f : List ℕ)
    → s1 ≡ s0 ++ a → s2 ≡ s1 ++ 32 ∷ b → s3 ≡ s2 ++ 32 ∷ c → s4 ≡ s3 ++ 32 ∷ d → s5 ≡ s4 ++ 32 ∷ e → s6 ≡ s5 ++ 32 ∷ f
    → s6 ≡ s0 ++ join_with_byte 32 (a ∷ b ∷ c ∷ d ∷ e ∷ f ∷ [])
six_fields s0 s1 s2 s3 s4 s5 s6 a b c d e f p1 p2 p3 p4 p5 p6 =
    one_piece s0 s1 s6 a _ p1 (one_piece s1 s2 s6 (32 ∷ b) _ p2 (one_piece s2 s3 s6 (32 ∷ c) _ p3
    (one_piece s3 s4 s6 (32 ∷ d) _ p4 (one_piece s4 s5 s6 (32 ∷ e) (32 ∷ f) p5 p6))))

-- what begins with a longer text begins with its front
pub begins_before : (old part whole added : List ℕ) → part ≡ old ++ added → StartsWith whole part → StartsWith whole old
begins_before old part whole added more begins =
    grind (arith, length-append old added, take-append_seam old added, take-take)

-- a text begins with itself
pub begins_with_itself : (part whole : List ℕ) → whole ≡ part → StartsWith whole part
begins_with_itself part whole same = ap (take (length part)) same ∙ take-length part

-- what is left behind at a refusal still begins with what was there before
pub left_behind : {T E : Type 0} (r : Result T E) (old part whole added : List ℕ) → part ≡ old ++ added
    → StartsWith whole part → OnErr r (StartsWith whole old)
left_behind r old part whole added more begins = on_error r _ (begins_before old part whole added more begins)

-- one piece pushed after another
pub pushed_behind : {T E : Type 0} (r : Result T E) (old part whole piece rest : List ℕ) → part ≡ old ++ piece
    → whole ≡ cond (is_ok r) (part ++ rest) part → OnOk r (whole ≡ old ++ (piece ++ rest))
pushed_behind (Ok x) old part whole piece rest first more = one_piece old part whole piece rest first more
pushed_behind (Err e) old part whole piece rest first more = tt

-- a push that is refused after a piece
pub refused_behind : {T E : Type 0} (r : Result T E) (old part whole piece rest : List ℕ) → part ≡ old ++ piece
    → whole ≡ cond (is_ok r) (part ++ rest) part → OnErr r (StartsWith whole old)
refused_behind (Ok x) old part whole piece rest first more = tt
refused_behind (Err e) old part whole piece rest first more =
    begins_before old part whole piece first (begins_with_itself part whole more)
