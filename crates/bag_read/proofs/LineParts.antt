-- The parts of a line: what stands before its blanks, and what follows them.
use Rattle.bag_read.proofs.Common.{Bool, List, [], append_assoc, arith, bytes_eq, drop, false, length, nat_eq, not}
use Rattle.bag_read.proofs.Common.{refl, sym, take, true, ℕ, ◌++◌, ◌∙◌, ◌∷◌, ◌≡◌, ◌≢◌, ◌⊎◌, nat_tests, take-append-drop}
use Rattle.bag_read.proofs.Common.{length-prefix_len, bytes_eq-Decides, list_all, prefix_len, after_blanks}
use Rattle.bag_read.proofs.Common.{before_blank, is_blank, is_blank_line, without_prefix, BeginsUnblank, IsCutAtBlanks}
use Rattle.bag_read.proofs.Common.{IsFronted, IsWithout}
use Rattle.bag_read.proofs.Fronts.{drop_front, take_front, stops, front_passes, rest_stops, front_len}
use Rattle.bag_read.proofs.PickedOut.{both_true}
use Rattle.bag_read.proofs.Texts.{prefix_test}
pub use Rattle.bag_read.proofs.Common.{not-false as not_false, not-true as not_true, or_parts as or_false}

-- no blank
abbrev unblank : ℕ → Bool
unblank c = not (is_blank c)

pub not_empty : (t : List ℕ) → bytes_eq t [] ≡ false → t ≢ []
not_empty t e same = let clash : false ≡ true = sym e ∙ (bytes_eq-Decides t []).1 same in cc

pub empty_test : (t : List ℕ) → t ≢ [] → bytes_eq t [] ≡ false
empty_test [] h = absurd (h refl)
empty_test (c ∷ t) h = refl

-- a text is its part before a blank, the blanks, and what follows them
module _ (text : List ℕ) where
  abbrev part : List ℕ
  part = before_blank text

  abbrev tail : List ℕ
  tail = drop (length part) text

  abbrev blanks : List ℕ
  blanks = take (prefix_len is_blank tail) tail

  abbrev rest : List ℕ
  rest = after_blanks text

  text_is : text ≡ part ++ blanks ++ rest
  text_is = grind (arith, take-append-drop, length-prefix_len, append_assoc)

  tail_stops : stops unblank tail ≡ true
  tail_stops = rw (length-prefix_len unblank text) (rest_stops unblank text)

  none_left : (t : List ℕ) → stops unblank t ≡ true → take (prefix_len is_blank t) t ≡ []
      → drop (prefix_len is_blank t) t ≡ []
  none_left t e h = grind (arith, prefix_len, is_blank)

  begins_or_none : (t : List ℕ) → stops is_blank t ≡ true → (t ≡ []) ⊎ BeginsUnblank t
  begins_or_none t e = grind (arith, not_true)

  pub is_fronted : IsFronted text part rest
  is_fronted =
      grind (
        arith,
        text_is,
        front_passes unblank text,
        front_passes is_blank tail,
        none_left tail tail_stops,
        begins_or_none rest (rest_stops is_blank tail),
      )

  pub is_cut : part ≢ [] → rest ≢ [] → IsCutAtBlanks text part rest
  is_cut some follows = grind (arith, is_fronted)

stops_blank : (t : List ℕ) → (t ≡ []) ⊎ BeginsUnblank t → stops is_blank t ≡ true
stops_blank t at = grind arith

behind_stops : (blanks rest : List ℕ) → list_all is_blank blanks ≡ true → (blanks ≡ [] → rest ≡ [])
    → stops unblank (blanks ++ rest) ≡ true
behind_stops [] rest e h = rw (h refl) refl
behind_stops (c ∷ blanks) rest e h = rw (both_true (is_blank c) (list_all is_blank blanks) e).0 refl

-- and it has one longest front
module _ (text front rest : List ℕ) (at : IsFronted text front rest) where
  text_behind : text ≡ front ++ (at.blanks ++ rest)
  text_behind = at.text_is ∙ append_assoc front at.blanks rest

  pub fronted_part : before_blank text ≡ front
  fronted_part = grind (arith, text_behind, front_len, behind_stops, take_front)

  pub fronted_rest : after_blanks text ≡ rest
  fronted_rest = grind (arith, fronted_part, text_behind, drop_front, front_len, stops_blank)

-- and it is cut so in no other way
module _ (text part rest : List ℕ) (cut : IsCutAtBlanks text part rest) where
  fronted : IsFronted text part rest
  fronted = grind arith

  pub cut_part : before_blank text ≡ part
  cut_part = fronted_part text part rest fronted

  pub cut_rest : after_blanks text ≡ rest
  cut_rest = fronted_rest text part rest fronted

  begins_so : (p t : List ℕ) → p ≢ [] → list_all unblank p ≡ true → is_blank_line (p ++ t) ≡ false
  begins_so [] t some e = absurd (some refl)
  begins_so (c ∷ p) t some e = grind (arith, not_true, both_true, nat_tests)

  pub not_blank : is_blank_line text ≡ false
  not_blank =
      rw (cut.text_is, append_assoc part cut.blanks rest)
      (begins_so part (cut.blanks ++ rest) cut.some_part cut.no_blank)

pub begins_some : (t : List ℕ) → BeginsUnblank t → t ≢ []
begins_some t (c, more, e, u) same = let clash : c ∷ more ≡ [] = sym e ∙ same in cc

pub is_without : (mark text : List ℕ) → IsWithout mark text (without_prefix mark text)
is_without mark text = grind (arith, nat_eq, prefix_test)

pub without_is : (mark behind : List ℕ) → without_prefix mark (mark ++ behind) ≡ behind
without_is mark behind = rw ((prefix_test mark (mark ++ behind)).1 behind refl) (drop_front mark behind)

-- and nothing else stands there
pub without_alone : (mark text r : List ℕ) → IsWithout mark text r → without_prefix mark text ≡ r
without_alone mark text r at = grind (arith, nat_eq, prefix_test, without_is)
