-- The size of a payload that is written is read again.
use Rattle.bag_read.proofs.PickedOut.{both_true}
use Rattle.bag_read.specs.declared.oxum.Oxum.{Oxum}
use Rattle.bag_tags.specs.Element.{is_bad_value}
use Rattle.bag_text.specs.Text.{IsText, is_blank, trim}
use Rattle.std.proofs.Common.{◌≡◌, ℕ, zero, suc, ◌+◌, ◌-◌, ◌<◌, ◌^◌, Bool, true, false, not, List, [], ◌∷◌, ◌++◌}
use Rattle.std.proofs.Common.{length, take, drop, reverse, get_or, nat_lt, Some, refl, sym, ap, ◌∙◌, arith, codes}
use Rattle.std.proofs.Common.{bytes_eq, append_assoc, lit<}
use Rattle.std.proofs.lemmas.Bool.{and_from, lt-ltb, not_from_false, false_from_ne_true, or_from, or_parts, both_ways}
use Rattle.std.proofs.lemmas.Bool.Decides.{nat_tests}
use Rattle.std.proofs.lemmas.List.{get_or-reverse, take_all}
use Rattle.std.proofs.lemmas.List.Folds.{list_any-append}
use Rattle.std.proofs.lemmas.List.Sums.{prefix_len_passes, suffix_len-le-length, prefix_len-le-length}
use Rattle.std.proofs.lemmas.Slice.Eq.{bytes_eq-Decides}
use Rattle.std.proofs.lemmas.Str.{IsAscii-append, IsUtf8-from_ascii, is_utf8-from_IsUtf8}
use Rattle.std.specs.List.{list_all, list_any, suffix_len, before_first, after_first, position_or_len}
use Rattle.std.specs.Char.{is_ascii_digit}
use Rattle.std.specs.Fmt.{decimal}
use Rattle.std.specs.Str.{all_ascii_digits}
use Rattle.std.specs.Str.Parse.{digits_value}
use Rattle.std.proofs.lemmas.Fmt.{digits_decimal, digits_value-decimal, decimal_nonempty, IsAscii-decimal}
use Rattle.std.proofs.lemmas.Str.Ascii.{IsAscii-cons, IsAscii-nil}
use Rattle.std.proofs.lemmas.Str.Parse.{numerals_by_value, tells_all_ascii_digits}
use Rattle.bag_read.specs.Oxum.{is_dot, oxum_of, oxum_text}
use Rattle.bag_read.proofs.Fronts.{front_len, take_front}

-- ---- a text without a blank stays as it is when it is trimmed

none_at : (p : ℕ → Bool) (t : List ℕ) (i : ℕ) → list_any p t ≡ false → i < length t → p (get_or t i 0) ≡ false
none_at p [] i e l = absurd (omega arith)
none_at p (c ∷ t) zero e l = grind arith
none_at p (c ∷ t) (suc i) e l = none_at p t i (or_parts (p c) (list_any p t) e).1 (omega arith)

module _ (p : ℕ → Bool) (t : List ℕ) (none : list_any p t ≡ false) where
  no_back : (n : ℕ) → suffix_len p t ≡ n → n ≡ 0
  no_back zero e = refl
  no_back (suc n) e =
      let within : 0 < length t = omega (arith, suffix_len-le-length p t) in
      let passes : p (get_or (reverse t) 0 0) ≡ true = prefix_len_passes p (reverse t) 0 0 (omega arith) in
      let at : get_or (reverse t) 0 0 ≡ get_or t (length t - 1 - 0) 0 = get_or-reverse t 0 0 within in
      absurd (both_ways (p (get_or t (length t - 1 - 0) 0)) (none_at p t (length t - 1 - 0) none (omega arith))
      (ap p (sym at) ∙ passes))

stays_whole : (t : List ℕ) → list_any is_blank t ≡ false → trim t ≡ t
stays_whole t none = grind (arith, no_back, take_all, prefix_len_passes, both_ways, none_at, prefix_len-le-length)

-- ---- digits

no_digit : (test : ℕ → Bool) → ((c : ℕ) → is_ascii_digit c ≡ true → test c ≡ false) → (t : List ℕ)
    → all_ascii_digits t ≡ true → list_any test t ≡ false
no_digit test h [] e = refl
no_digit test h (c ∷ t) e =
    let two = both_true (is_ascii_digit c) (all_ascii_digits t) e in
    or_from (test c) (list_any test t) (h c two.0) (no_digit test h t two.1)

digits_no_dot : (t : List ℕ) → all_ascii_digits t ≡ true → list_all (λ c. not (is_dot c)) t ≡ true
digits_no_dot [] e = refl
digits_no_dot (c ∷ t) e =
    grind (
      arith,
      both_true (is_ascii_digit c) (all_ascii_digits t),
      and_from,
      not_from_false,
      nat_tests,
      digits_no_dot t,
    )

module _ (n : ℕ) (small : n < 2 ^ 64) where
  pub are_digits : all_ascii_digits (decimal n) ≡ true
  are_digits = digits_decimal (numerals_by_value _ tells_all_ascii_digits) n small

  value_is : digits_value 10 (decimal n) ≡ n
  value_is = digits_value-decimal (numerals_by_value _ tells_all_ascii_digits) n small

  some_digit : not (bytes_eq (decimal n) []) ≡ true
  some_digit = grind (arith, not_from_false, false_from_ne_true, decimal_nonempty n small, bytes_eq-Decides (decimal n))

module _ (sums : Oxum) (octets : sums.octets < 2 ^ 64) (streams : sums.streams < 2 ^ 64) where
  abbrev front : List ℕ
  front = decimal sums.octets

  abbrev back : List ℕ
  back = decimal sums.streams

  text_is : oxum_text sums ≡ front ++ 46 ∷ back
  text_is = append_assoc front (codes ".") back

  dot_place : position_or_len is_dot (front ++ 46 ∷ back) ≡ length front
  dot_place =
      front_len (λ c. not (is_dot c)) front (46 ∷ back) (digits_no_dot front (are_digits sums.octets octets)) refl

  before : before_first is_dot (oxum_text sums) ≡ front
  before =
      ap (before_first is_dot) text_is ∙ ap (λ n. take n (front ++ 46 ∷ back)) dot_place ∙ take_front front (46 ∷ back)

  drop_past : (xs : List ℕ) → drop (length xs + 1) (xs ++ 46 ∷ back) ≡ back
  drop_past [] = refl
  drop_past (x ∷ xs) = grind (arith, drop_past xs)

  after : after_first is_dot (oxum_text sums) ≡ back
  after = ap (after_first is_dot) text_is ∙ ap (λ n. drop (n + 1) (front ++ 46 ∷ back)) dot_place ∙ drop_past front

  -- it is read as the same two numbers
  pub oxum_reads : oxum_of (oxum_text sums) ≡ Some sums
  oxum_reads = grind (arith, and_from, before, after, value_is, some_digit, are_digits, nat_lt, lt-ltb)

  pub oxum_is_text : IsText (oxum_text sums)
  oxum_is_text =
      is_utf8-from_IsUtf8 (oxum_text sums)
      (IsUtf8-from_ascii (oxum_text sums)
      (IsAscii-append (front ++ codes ".") back
      (IsAscii-append front (codes ".") (IsAscii-decimal sums.octets octets) (IsAscii-cons 46 [] (lit< tt) IsAscii-nil))
      (IsAscii-decimal sums.streams streams)))

  -- and can be written
  pub oxum_is_good : is_bad_value (oxum_text sums) ≡ false
  oxum_is_good = grind (arith, or_from, bytes_eq-Decides, stays_whole, nat_tests, list_any-append, no_digit, are_digits)
