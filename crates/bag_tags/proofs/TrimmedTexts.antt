-- Texts that trimming leaves as they are.
use Rattle.bag_tags.proofs.Common.{List, ap, arith, false, get_or, length, length-drop, length-take, reverse, ℕ, ◌-◌}
use Rattle.bag_tags.proofs.Common.{◌∙◌, ◌∷◌, ◌≡◌, ◌≤◌, get_or-reverse, length-reverse, slice_get-get_or}
use Rattle.bag_tags.proofs.Common.{bytes_eq-Decides, prefix_len, suffix_len, not_false, ends_with_blank, is_blank}
use Rattle.bag_tags.proofs.Common.{is_some_blank, trim, has_outer_blank}
use Rattle.bag_tags.proofs.Common.{[], ◌+◌, ◌<◌, ◌≢◌, drop, refl, suc, sym, take, true, true≢false, zero}
use Rattle.std.proofs.Common.{cond}
use Rattle.std.proofs.lemmas.Bool.{eqb-false}
use Rattle.std.proofs.lemmas.List.{get_or-drop, get_or-take, take_all}
use Rattle.std.proofs.lemmas.List.Sums.{prefix_len-le-length, prefix_len_passes, prefix_len_stops, suffix_len-le-length}
use Rattle.bag_text.specs.Text.{begins_with_blank, is_blank_line}

-- a text without a blank at its ends stays as it is
pub trimmed : (t : List ℕ) → has_outer_blank t ≡ false → trim t ≡ t
trimmed t e = (bytes_eq-Decides (trim t) t).0 (not_false _ e)

-- a blank in front is trimmed away
pub trim_behind : (t : List ℕ) → trim (32 ∷ t) ≡ trim t
trim_behind t = grind arith

trim_short : (t : List ℕ) → length (trim t) ≤ length t - prefix_len is_blank t
trim_short t = grind (arith, length-take, length-drop)

-- its first character is no blank
pub first_unblank : (c : ℕ) (t : List ℕ) → trim (c ∷ t) ≡ c ∷ t → is_blank c ≡ false
first_unblank c t h = grind (arith, trim_short (c ∷ t), ap length h)

module _ (c : ℕ) (t : List ℕ) (h : trim (c ∷ t) ≡ c ∷ t) where
  abbrev whole : List ℕ
  whole = c ∷ t

  back_none : suffix_len is_blank whole ≡ 0
  back_none = grind (arith, length-take, suffix_len-le-length, first_unblank)

  last_unblank : is_blank (get_or whole (length whole - 1) 0) ≡ false
  last_unblank =
      let long = length-reverse whole in
      let none : prefix_len is_blank (reverse whole) ≡ 0 = back_none in
      let stops = prefix_len_stops is_blank (reverse whole) 0 (omega arith) in
      let place : length whole - 1 - 0 ≡ length whole - 1 = omega arith in
      rw (none, get_or-reverse whole 0 0 (omega arith), place) at stops

  -- nor is its last
  pub ends_unblank : ends_with_blank whole ≡ false
  ends_unblank = ap is_some_blank (slice_get-get_or whole (length whole - 1) 0 (omega arith)) ∙ last_unblank

-- ---- a text that was trimmed

begins_by : (t : List ℕ) → (0 < length t → is_blank (get_or t 0 0) ≡ false) → begins_with_blank t ≡ false
begins_by [] h = refl
begins_by (c ∷ t) h = h (omega arith)

ends_by : (t : List ℕ) → (0 < length t → is_blank (get_or t (length t - 1) 0) ≡ false) → ends_with_blank t ≡ false
ends_by [] h = refl
ends_by (c ∷ t) h = ap is_some_blank (slice_get-get_or (c ∷ t) (length (c ∷ t) - 1) 0 (omega arith)) ∙ h (omega arith)

module _ (t : List ℕ) where
  abbrev rest : List ℕ
  rest = drop (prefix_len is_blank t) t

  abbrev kept : ℕ
  kept = length rest - suffix_len is_blank rest

  first_of_rest : 0 < length rest → is_blank (get_or rest 0 0) ≡ false
  first_of_rest some =
      let within : prefix_len is_blank t < length t = omega (arith, length-drop (prefix_len is_blank t) t) in
      let place : prefix_len is_blank t + 0 ≡ prefix_len is_blank t = omega arith in
      ap is_blank (get_or-drop (prefix_len is_blank t) t 0 0) ∙ ap (λ i. is_blank (get_or t i 0)) place
      ∙ prefix_len_stops is_blank t 0 within

  -- it begins with no blank
  pub trim_begins : begins_with_blank (trim t) ≡ false
  trim_begins =
      begins_by (trim t) (λ some.
      let long = length-take kept rest in
      ap is_blank (get_or-take kept rest 0 0 (omega arith)) ∙ first_of_rest (omega arith))

  last_of_rest : 0 < kept → is_blank (get_or rest (kept - 1) 0) ≡ false
  last_of_rest some =
      let back = length-reverse rest in
      let place : length rest - 1 - suffix_len is_blank rest ≡ kept - 1 = omega arith in
      ap (λ i. is_blank (get_or rest i 0)) (sym place)
      ∙ ap is_blank (sym (get_or-reverse rest (suffix_len is_blank rest) 0 (omega arith)))
      ∙ prefix_len_stops is_blank (reverse rest) 0 (omega arith)

  -- and ends with none
  pub trim_ends : ends_with_blank (trim t) ≡ false
  trim_ends =
      ends_by (trim t) (λ some.
      let long = length-take kept rest in
      let short : kept ≤ length rest = omega arith in
      let size : length (take kept rest) - 1 ≡ kept - 1 = omega arith in
      ap (λ i. is_blank (get_or (take kept rest) i 0)) size
      ∙ ap is_blank (get_or-take kept rest (kept - 1) 0 (omega arith)) ∙ last_of_rest (omega arith))

  -- a text that isn't all blanks leaves something
  pub trim_some : is_blank_line t ≡ false → trim t ≢ []
  trim_some plain none =
      let within : prefix_len is_blank t < length t =
      omega (arith, prefix_len-le-length is_blank t, eqb-false (prefix_len is_blank t) (length t) plain) in
      let some : 0 < length rest = omega (arith, length-drop (prefix_len is_blank t) t) in
      let gone = length-take kept rest in
      let size = ap length none in
      let passes : is_blank (get_or (reverse rest) (length rest - 1) 0) ≡ true =
      prefix_len_passes is_blank (reverse rest) (length rest - 1) 0 (omega arith) in
      let place : length rest - 1 - (length rest - 1) ≡ 0 = omega arith in
      true≢false
      (sym passes ∙ ap is_blank (get_or-reverse rest (length rest - 1) 0 (omega arith))
      ∙ ap (λ i. is_blank (get_or rest i 0)) place ∙ first_of_rest some)

-- a text that neither begins nor ends with a blank stays as it is
pub stays_trimmed : (t : List ℕ) → begins_with_blank t ≡ false → ends_with_blank t ≡ false → trim t ≡ t
stays_trimmed [] begins ends = refl
stays_trimmed (c ∷ t) begins ends =
    let whole = c ∷ t in
    let front : prefix_len is_blank whole ≡ 0 = ap (λ b. cond b (1 + prefix_len is_blank t) 0) begins in
    ap (λ n. take (length (drop n whole) - suffix_len is_blank (drop n whole)) (drop n whole)) front
    ∙ ap (λ m. take (length whole - m) whole) (none_last (suffix_len is_blank whole) refl)
    ∙ take_all (length whole - 0) whole (omega arith)
  where
    none_last : (n : ℕ) → suffix_len is_blank (c ∷ t) ≡ n → n ≡ 0
    none_last zero is = refl
    none_last (suc n) is =
        let whole = c ∷ t in
        let passes : is_blank (get_or (reverse whole) 0 0) ≡ true =
        prefix_len_passes is_blank (reverse whole) 0 0 (omega arith) in
        let last : is_blank (get_or whole (length whole - 1) 0) ≡ false =
        sym (ap is_some_blank (slice_get-get_or whole (length whole - 1) 0 (omega arith))) ∙ ends in
        let place : length whole - 1 - 0 ≡ length whole - 1 = omega arith in
        absurd (true≢false (sym passes ∙ ap is_blank (get_or-reverse whole 0 0 (omega arith))
        ∙ ap (λ i. is_blank (get_or whole i 0)) place ∙ last))
