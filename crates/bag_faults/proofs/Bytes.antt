-- The bytes of a text are bytes.
use Rattle.bag_faults.proofs.Common.{◌≡◌, ℕ, ◌<◌, true, List, [], ◌∷◌, All, subst, arith, nat_lt, IsUtf8, all_scalars}
use Rattle.bag_faults.proofs.Common.{encode_utf8_all, cond_both, nat_tests, All-nil, All-cons, All-append, IsByte}
use Rattle.std.specs.Char.{encode_utf8, IsScalar}

one : (a : ℕ) → a < 256 → All IsByte (a ∷ [])
one a h = All-cons IsByte a [] h (All-nil IsByte)

two : (a b : ℕ) → a < 256 → b < 256 → All IsByte (a ∷ b ∷ [])
two a b h k = All-cons IsByte a (b ∷ []) h (one b k)

three : (a b c : ℕ) → a < 256 → b < 256 → c < 256 → All IsByte (a ∷ b ∷ c ∷ [])
three a b c h k l = All-cons IsByte a (b ∷ c ∷ []) h (two b c k l)

below : (c n : ℕ) → nat_lt c n ≡ true → c < n
below c n h = grind (arith, nat_tests)

char_bytes : (c : ℕ) → IsScalar c → All IsByte (encode_utf8 c)
unfolding encode_utf8
char_bytes c s = grind (arith, cond_both, nat_lt, below, one, two, three, nat_tests)

text_bytes : (cs : List ℕ) → all_scalars cs ≡ true → All IsByte (encode_utf8_all cs)
text_bytes [] s = All-nil IsByte
text_bytes (c ∷ cs) s =
    All-append IsByte (encode_utf8 c) (encode_utf8_all cs) (char_bytes c (grind arith)) (text_bytes cs (grind arith))

pub utf8_bytes : (t : List ℕ) → IsUtf8 t → All IsByte t
utf8_bytes t u = subst (All IsByte) u.1.1 (text_bytes u.0 u.1.0)
