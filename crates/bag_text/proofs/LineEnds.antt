-- Spellings in which the ends of lines alone are escaped.
use Rattle.bag_text.proofs.Common.{Bool, List, None, Option, Some, [], ap, append-nil, append_assoc, arith, false}
use Rattle.bag_text.proofs.Common.{get_or, inl, inr, length, lit<, refl, subst, suc, sym, true, unwrap_or, ℕ, ◌++◌, ◌<◌}
use Rattle.bag_text.proofs.Common.{◌==◌, ◌∙◌, ◌∷◌, ◌≡◌, ◌≢◌, eqb-true, nat_tests, IsCharBoundary, IsUtf8}
use Rattle.bag_text.proofs.Common.{BeginsWithNone, SpellsLineEnds, UnescapedIsSpelled, line_end, percent}
use Rattle.bag_text.proofs.Common.{with_line_ends}
use Rattle.bag_text.proofs.SpellingLaws.{strict_spellings}
use Rattle.bag_text.proofs.Spellings.{never_escaped, second}
use Rattle.bag_text.specs.declared.rules.Rules.TheVariants.{V10, V097}

-- where a % begins no escape, it is itself, as every other character is
by_percent : (c d e : ℕ) (s : List ℕ) (mark : Bool) (o : Option ℕ) → (c == percent) ≡ mark → line_end d e ≡ o
    → (mark ≡ true → o ≡ None)
    → with_line_ends (c ∷ d ∷ e ∷ s) ≡ c ∷ with_line_ends (d ∷ e ∷ s)
by_percent c d e s true None m is none =
    rw (m, is) (ap (λ x. x ∷ with_line_ends (d ∷ e ∷ s)) (sym (eqb-true c percent m)))
by_percent c d e s true (Some x) m is none = let clash : Some x ≡ None = none refl in cc
by_percent c d e s false o m is none = rw m refl

plain_by : (c d e : ℕ) (s : List ℕ) → BeginsWithNone (c ∷ d ∷ e ∷ s) → (o : Option ℕ) → line_end d e ≡ o
    → (c == percent) ≡ true → o ≡ None
plain_by c d e s none None is mark = refl
plain_by c d e s none (Some x) is mark = absurd (none x s (d, e, ap (λ p. p ∷ d ∷ e ∷ s) (eqb-true c percent mark), is))

pub plain_in_front : (c : ℕ) (s : List ℕ) → BeginsWithNone (c ∷ s) → with_line_ends (c ∷ s) ≡ c ∷ with_line_ends s
plain_in_front c [] none = refl
plain_in_front c (d ∷ []) none = refl
plain_in_front c (d ∷ e ∷ s) none =
    by_percent c d e s (c == percent) (line_end d e) refl refl (plain_by c d e s none (line_end d e) refl)

escape_in_front : (c d e : ℕ) (s : List ℕ) → line_end d e ≡ Some c
    → with_line_ends (percent ∷ d ∷ e ∷ s) ≡ c ∷ with_line_ends s
escape_in_front c d e s is = rw is refl

-- what isn't a % begins no escape
other_begins_none : (c : ℕ) (s : List ℕ) → c ≢ percent → BeginsWithNone (c ∷ s)
other_begins_none c s other x rest (high, low, is, stands) = other cc

pub other_in_front : (c : ℕ) (s : List ℕ) → c ≢ percent → with_line_ends (c ∷ s) ≡ c ∷ with_line_ends s
other_in_front c s other = plain_in_front c s (other_begins_none c s other)

spelled_is_read : (path s : List ℕ) → SpellsLineEnds s path → with_line_ends s ≡ path
spelled_is_read [] s is = ap with_line_ends is
spelled_is_read (c ∷ path) s (rest, more, inl (high, low, is, stands)) =
    grind (arith, escape_in_front, spelled_is_read path rest more)
spelled_is_read (c ∷ path) s (rest, more, inr (is, none)) =
    grind (arith, plain_in_front c rest (subst BeginsWithNone is none), spelled_is_read path rest more)

two_begin_none : (c d : ℕ) → BeginsWithNone (c ∷ d ∷ [])
two_begin_none c d x rest (high, low, is, stands) = cc

plain_spells : (c : ℕ) (s : List ℕ) → BeginsWithNone (c ∷ s) → SpellsLineEnds s (with_line_ends s)
    → SpellsLineEnds (c ∷ s) (with_line_ends (c ∷ s))
plain_spells c s none more = subst (SpellsLineEnds (c ∷ s)) (sym (plain_in_front c s none)) (s, more, inr (refl, none))

other_digits : (c d e : ℕ) (s : List ℕ) → line_end d e ≡ None → BeginsWithNone (c ∷ d ∷ e ∷ s)
other_digits c d e s nothing x rest (high, low, is, stands) = grind arith

spells_three : (c d e : ℕ) (s : List ℕ) (mark : Bool) (o : Option ℕ) → (c == percent) ≡ mark → line_end d e ≡ o
    → SpellsLineEnds s (with_line_ends s)
    → SpellsLineEnds (d ∷ e ∷ s) (with_line_ends (d ∷ e ∷ s))
    → SpellsLineEnds (c ∷ d ∷ e ∷ s) (with_line_ends (c ∷ d ∷ e ∷ s))
spells_three c d e s true (Some x) m is short long = grind (arith, eqb-true, escape_in_front)
spells_three c d e s true None m is short long = plain_spells c (d ∷ e ∷ s) (other_digits c d e s is) long
spells_three c d e s false o m is short long = grind (arith, plain_spells, other_begins_none)

read_is_spelled : (s : List ℕ) → SpellsLineEnds s (with_line_ends s)
read_is_spelled [] = refl
read_is_spelled (c ∷ []) = grind (arith, plain_spells)
read_is_spelled (c ∷ d ∷ []) = plain_spells c (d ∷ []) (two_begin_none c d) (read_is_spelled (d ∷ []))
read_is_spelled (c ∷ d ∷ e ∷ s) =
    spells_three c d e s (c == percent) (line_end d e) refl refl (read_is_spelled s) (read_is_spelled (d ∷ e ∷ s))

pub spellings : UnescapedIsSpelled
spellings V10 s path = strict_spellings s path
spellings V097 s path = grind (arith, spelled_is_read, unwrap_or, read_is_spelled)

-- ---- reading piece by piece

-- what stands before the first % is read as itself
pub read_front : (front rest : List ℕ) → ((i : ℕ) → i < length front → get_or front i 0 ≢ percent)
    → with_line_ends (front ++ rest) ≡ front ++ with_line_ends rest
read_front [] rest h = refl
read_front (c ∷ front) rest h =
    other_in_front c (front ++ rest) (h 0 (omega arith))
    ∙ ap (λ x. c ∷ x) (read_front front rest (λ i l. h (suc i) (omega arith)))

pub read_whole : (t : List ℕ) → ((i : ℕ) → i < length t → get_or t i 0 ≢ percent) → with_line_ends t ≡ t
read_whole t h = ap with_line_ends (sym (append-nil t)) ∙ read_front t [] h ∙ append-nil t

-- one piece and one character more
pub read_more : (t path rest plain after more new : List ℕ) (c : ℕ) → with_line_ends t ≡ path ++ with_line_ends rest
    → rest ≡ plain ++ percent ∷ after
    → ((i : ℕ) → i < length plain → get_or plain i 0 ≢ percent)
    → with_line_ends (percent ∷ after) ≡ c ∷ with_line_ends more → new ≡ (path ++ plain) ++ c ∷ []
    → with_line_ends t ≡ new ++ with_line_ends more
read_more t path rest plain after more new c read is none here now = grind (arith, read_front, append_assoc)

-- and the rest, in which there is no %
pub read_all : (t path rest new : List ℕ) → with_line_ends t ≡ path ++ with_line_ends rest
    → ((i : ℕ) → i < length rest → get_or rest i 0 ≢ percent) → new ≡ path ++ rest
    → new ≡ with_line_ends t
read_all t path rest new read none now = now ∙ ap (λ x. path ++ x) (sym (read_whole rest none)) ∙ sym read

-- ---- two characters that can't be cut off

-- where the two characters after a % can't be cut off, it is itself
pub cut_off : (after : List ℕ) → IsUtf8 after → ¬ (IsCharBoundary after 2)
    → with_line_ends (percent ∷ after) ≡ percent ∷ with_line_ends after
cut_off [] u h = refl
cut_off (d ∷ []) u h = refl
cut_off (d ∷ e ∷ s) u h =
    plain_in_front percent (d ∷ e ∷ s)
    (other_digits percent d e s
    (second line_end (λ d e high. grind (arith, nat_tests, never_escaped, lit<)) d e s u h))
