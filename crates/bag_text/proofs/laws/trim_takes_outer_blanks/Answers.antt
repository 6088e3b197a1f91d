use Rattle.bag_text.proofs.Common.{Bool, List, [], ap, append_assoc, arith, drop, false, length, refl, reverse, suc}
use Rattle.bag_text.proofs.Common.{sym, take, true, ℕ, ◌++◌, ◌+◌, ◌-◌, ◌∙◌, ◌∷◌, ◌≡◌, take-append_seam, and_parts}
use Rattle.bag_text.proofs.Common.{length-drop, length-reverse, reverse-append, reverse-reverse, take-append-drop}
use Rattle.bag_text.proofs.Common.{list_all-append, list_all, prefix_len, suffix_len, is_blank, without_leading_blanks}
use Rattle.bag_text.proofs.Common.{without_trailing_blanks}
use Rattle.bag_text.specs.Trim.{BeginsWithNoBlank}
use Rattle.bag_text.proofs.laws.trim_takes_outer_blanks.Goals as goal

-- What trimming takes from a text.

module _ (p : ℕ → Bool) where
  -- the characters at the front that pass a test
  front_passes : (t : List ℕ) → list_all p (take (prefix_len p t) t) ≡ true
  front_passes [] = refl
  front_passes (c ∷ t) =
      let before =
      front_passes t in let on : suc (prefix_len p t) ≡ 1 + prefix_len p t = omega arith in grind (arith, p)

  -- the first character after them doesn't
  abbrev StopsAt : List ℕ → Type 0
  StopsAt t = (c : ℕ) (more : List ℕ) → t ≡ c ∷ more → p c ≡ false

  stops_on : (c : ℕ) (t : List ℕ) → StopsAt (drop (prefix_len p t) t) → StopsAt (drop (prefix_len p (c ∷ t)) (c ∷ t))
  stops_on c t h = grind arith

  rest_stops : (t : List ℕ) → StopsAt (drop (prefix_len p t) t)
  rest_stops [] = λ c more is. cc
  rest_stops (c ∷ t) = stops_on c t (rest_stops t)

  all_reversed : (t : List ℕ) → list_all p t ≡ true → list_all p (reverse t) ≡ true
  all_reversed [] e = refl
  all_reversed (c ∷ t) e =
      let two = and_parts (p c) (list_all p t) e in
      rw (reverse-append (c ∷ []) t, list_all-append p (reverse t) (c ∷ []), all_reversed t two.1, two.0) refl

  -- a text without the characters at its end that pass
  module _ (t : List ℕ) where
    abbrev kept : List ℕ
    kept = reverse (drop (suffix_len p t) (reverse t))

    abbrev gone : List ℕ
    gone = reverse (take (suffix_len p t) (reverse t))

    cut : t ≡ kept ++ gone
    cut =
        sym (reverse-reverse t)
        ∙ ap reverse (sym (take-append-drop (suffix_len p t) (reverse t)))
        ∙ reverse-append (take (suffix_len p t) (reverse t)) (drop (suffix_len p t) (reverse t))

    kept_is : take (length t - suffix_len p t) t ≡ kept
    kept_is = grind (arith, length-reverse, length-drop, cut, take-append_seam)

    gone_passes : list_all p gone ≡ true
    gone_passes = all_reversed (take (suffix_len p t) (reverse t)) (front_passes (reverse t))

    last_stops : (front : List ℕ) (c : ℕ) → kept ≡ front ++ c ∷ [] → p c ≡ false
    last_stops front c is =
        rest_stops (reverse t) c (reverse front)
        (sym (reverse-reverse (drop (suffix_len p t) (reverse t))) ∙ ap reverse is ∙ reverse-append front (c ∷ []))

pub returns : goal.returns
returns c t =
    let u = without_leading_blanks t in
    let front = take (prefix_len is_blank t) t in
    let left = kept is_blank u in
    let back = gone is_blank u in
    let same : without_trailing_blanks u ≡ left = kept_is is_blank u in
    let whole : t ≡ front ++ left ++ back =
    sym (take-append-drop (prefix_len is_blank t) t) ∙ ap (λ s. front ++ s) (cut is_blank u)
    ∙ sym (append_assoc front left back) in
    let begins : BeginsWithNoBlank left = λ c more is.
    rest_stops is_blank t c (more ++ back) (cut is_blank u ∙ ap (λ s. s ++ back) is) in (
      front,
      back,
      rw same whole,
      front_passes is_blank t,
      gone_passes is_blank u,
      rw same begins,
      rw same (last_stops is_blank u),
    )
