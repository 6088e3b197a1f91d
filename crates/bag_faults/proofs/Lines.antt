-- The fields of a line are read back as what they were written from.
use Rattle.bag_faults.proofs.Common.{◌≡◌, ◌≢◌, ℕ, ◌<◌, ◌^◌, ◌==◌, Bool, true, false, cond, List, [], All, codes, sym}
use Rattle.bag_faults.proofs.Common.{subst, refl, ap, ◌∙◌, arith, bytes_eq, decimal, flat_map, get_or, zero, suc, IsUtf8}
use Rattle.bag_faults.proofs.Common.{nat_tests, bytes_eq-Decides, decimal_injective, first_decimal, IsByte, round_trip}
use Rattle.bag_faults.proofs.Common.{Code, number, word, ESCAPED, encoded, field, alg_field, line_field}
use Rattle.bag_faults.proofs.Common.{LinesTellFaultsApart, percent_decode}
use Rattle.bag_faults.proofs.Algs.{other_texts, same_alg_field}
use Rattle.bag_faults.proofs.Bytes.{utf8_bytes}
use Rattle.bag_faults.proofs.Codes.{small_number, same_code}
use Rattle.bag_faults.proofs.Escapes.{same_escapes, other_field}
use Rattle.bag_faults.proofs.Spaces.{number_clean, word_clean, field_clean, alg_clean, line_clean, same_front}

pub decoded : (t : List ℕ) → All IsByte t → percent_decode (flat_map encoded t) ≡ t
decoded t small = ap percent_decode (sym (same_escapes t)) ∙ round_trip ESCAPED t refl small

dash_stays : percent_decode (codes "-") ≡ codes "-"
unfolding percent_decode
dash_stays = refl

dash_decoded : percent_decode (codes "%2D") ≡ codes "-"
unfolding percent_decode
dash_decoded = refl

pub equal_texts : (s t : List ℕ) → bytes_eq s t ≡ true → s ≡ t
equal_texts s t e = (bytes_eq-Decides s t).0 e

-- the text that a field stands for
abbrev pub unfield : List ℕ → List ℕ
unfield w = cond (bytes_eq w (codes "-")) [] (percent_decode w)

unfield_at : (w t : List ℕ) → w ≢ codes "-" → percent_decode w ≡ t → unfield w ≡ t
unfield_at w t other read = grind (arith, equal_texts)

unfield_field_at : (t : List ℕ) (b c : Bool) → bytes_eq t [] ≡ b → bytes_eq t (codes "-") ≡ c → All IsByte t
    → unfield (field t) ≡ t
unfield_field_at t true c e f small = subst (λ x. unfield (field x) ≡ x) (sym (equal_texts t [] e)) refl
unfield_field_at t false true e f small =
    subst (λ x. unfield (field x) ≡ x) (sym (equal_texts t (codes "-") f)) dash_decoded
unfield_field_at t false false e f small =
    grind (arith, other_field, unfield_at, flat_map, other_texts, decoded, dash_stays)

pub unfield_field : (t : List ℕ) → IsUtf8 t → unfield (field t) ≡ t
unfield_field t u = unfield_field_at t _ _ refl refl (utf8_bytes t u)

-- what is read from a field that isn't a hyphen
pub text_written : (t w : List ℕ) → IsUtf8 t → field t ≡ w → bytes_eq w (codes "-") ≡ false → percent_decode w ≡ t
text_written t w u e other = sym (ap (λ b. cond b [] (percent_decode w)) other) ∙ ap unfield (sym e) ∙ unfield_field t u

-- a hyphen alone is the empty text
pub nothing_written : (t w : List ℕ) → IsUtf8 t → field t ≡ w → bytes_eq w (codes "-") ≡ true → [] ≡ t
nothing_written t w u e dash = ap unfield (sym (e ∙ equal_texts w (codes "-") dash)) ∙ unfield_field t u

pub decimal_is_no_dash : (n : ℕ) → 0 < n → n < 2 ^ 64 → decimal n ≢ codes "-"
decimal_is_no_dash n positive small e =
    let first = first_decimal n positive small in let same = ap (λ t. get_or t 0 0) e in omega arith

line_field_is : (n : ℕ) → line_field (suc n) ≡ decimal (suc n)
line_field_is n =
    let positive : (suc n == 0) ≡ false =
    grind (arith, nat_tests) in ap (λ b. cond b (codes "-") (decimal (suc n))) positive

-- a line number in decimal
pub line_written : (n : ℕ) → n ≢ 0 → line_field n ≡ decimal n
line_written zero some = absurd (some refl)
line_written (suc n) some = line_field_is n

pub same_line_field : (m n : ℕ) → m < 2 ^ 64 → n < 2 ^ 64 → line_field m ≡ line_field n → m ≡ n
same_line_field zero zero p q e = refl
same_line_field zero (suc n) p q e = absurd (decimal_is_no_dash (suc n) (omega arith) q (sym (line_field_is n) ∙ sym e))
same_line_field (suc m) zero p q e = absurd (decimal_is_no_dash (suc m) (omega arith) p (sym (line_field_is m) ∙ e))
same_line_field (suc m) (suc n) p q e =
    decimal_injective (suc m) (suc n) p q (sym (line_field_is m) ∙ e ∙ line_field_is n)

pub decimal_written : (n : ℕ) (w : List ℕ) → line_field n ≡ w → bytes_eq w (codes "-") ≡ false → w ≡ decimal n
decimal_written zero w e other = absurd (other_texts w (codes "-") other (sym e))
decimal_written (suc n) w e other = sym e ∙ line_field_is n

pub same_number : (c d : Code) → decimal (number c) ≡ decimal (number d) → c ≡ d
same_number c d e = grind (arith, small_number, same_code, decimal_injective)

pub same_field : (s t : List ℕ) → IsUtf8 s → IsUtf8 t → field s ≡ field t → s ≡ t
same_field s t p q e = sym (unfield_field s p) ∙ ap unfield e ∙ unfield_field t q

pub lines_tell_faults_apart : LinesTellFaultsApart
lines_tell_faults_apart f g p q e =
    let a =
    same_front (decimal (number f.code)) (decimal (number g.code)) _ _ (number_clean f.code) (number_clean g.code) e
    in
    let b = same_front (word f.code) (word g.code) _ _ (word_clean f.code) (word_clean g.code) a.1 in
    let c = same_front (field f.path) (field g.path) _ _ (field_clean f.path) (field_clean g.path) b.1 in
    let d = same_front (alg_field f.alg) (alg_field g.alg) _ _ (alg_clean f.alg) (alg_clean g.alg) c.1 in
    let l =
    same_front (line_field f.line) (line_field g.line) _ _ (line_clean f.line p.line) (line_clean g.line q.line) d.1
    in
    let code_is = same_number f.code g.code a.0 in
    let path_is = same_field f.path g.path p.path q.path c.0 in
    let alg_is = same_alg_field f.alg g.alg d.0 in
    let line_is = same_line_field f.line g.line p.line q.line l.0 in
    let detail_is = same_field f.detail g.detail p.detail q.detail l.1 in
    λ i. record { code = code_is i; path = path_is i; alg = alg_is i; line = line_is i; detail = detail_is i }
