-- Paths as the rules of 0.97 spell them, and those that can't be spelled.
use Rattle.bag_tags.proofs.Common.{Bool, List, None, Option, Some, [], ap, append-nil, arith, codes, eqb, false, get_or}
use Rattle.bag_tags.proofs.Common.{length, list_any, refl, subst, suc, sym, true, ℕ, ◌++◌, ◌<◌, ◌∙◌, ◌∷◌, ◌≡◌, ◌≢◌}
use Rattle.bag_tags.proofs.Common.{eqb-true, false_from_ne_true, true≢false, nat_tests, list_any-append, or_false}
use Rattle.bag_tags.proofs.Common.{is_line_end, percent}
use Rattle.bag_tags.proofs.Common.{IsUtf8, IsUtf8-append, IsUtf8-encode, IsUtf8-from_is_utf8, IsUtf8-nil, IsScalar}
use Rattle.bag_tags.proofs.Common.{all_scalars, both_true, encode_utf8_all}
use Rattle.std.specs.Char.{encode_utf8}
use Rattle.std.proofs.lemmas.Bool.{eqb-false}
use Rattle.std.proofs.lemmas.List.Concat.{flat_map-append}
use Rattle.std.proofs.lemmas.Option.{same_Some}
use Rattle.std.proofs.lemmas.Str.{NoCharPasses-byte, encodes-append}
use Rattle.std.specs.Str.{NoCharPasses, chars, is_utf8}
use Rattle.bag_text.proofs.LineEnds.{other_in_front, plain_in_front, spellings}
use Rattle.bag_text.specs.Spelling.{line_end, unescaped, with_line_ends}
use Rattle.bag_text.specs.Spells.{BeginsWithNone}
use Rattle.bag_text.specs.declared.rules.Rules.{Rules}
use Rattle.bag_text.specs.declared.rules.Rules.TheVariants.{V10, V097}
use Rattle.bag_tags.proofs.Common.{read_again}
use Rattle.bag_tags.specs.PathSpelling.{SpelledPathsAreReadAgain, UnspelledPathsHaveNoSpelling, begins_with_escape}
use Rattle.bag_tags.specs.PathSpelling.{escape_line_end, escape_line_ends, has_escape, is_unspelled, spelled}

-- ---- characters

plain_one : (c : ℕ) → is_line_end c ≡ false → escape_line_end c ≡ c ∷ []
plain_one c e = grind (arith, nat_tests)

plain_all : (t : List ℕ) → ((i : ℕ) → i < length t → is_line_end (get_or t i 0) ≡ false) → escape_line_ends t ≡ t
plain_all [] h = refl
plain_all (c ∷ t) h =
    ap (λ x. x ++ escape_line_ends t) (plain_one c (h 0 (omega arith)))
    ∙ ap (λ x. c ∷ x) (plain_all t (λ i l. h (suc i) (omega arith)))

-- a byte of a character that isn't the end of a line
plain_byte : (t : List ℕ) (i : ℕ) → i < length t → (get_or t i 0 < 128 → is_line_end (get_or t i 0) ≡ false)
    → is_line_end (get_or t i 0) ≡ false
plain_byte t i l h = grind (arith, nat_tests)

-- a character that isn't the end of a line is written as itself, whatever its length in UTF-8
pub line_ends-encode : (c : ℕ) → is_line_end c ≡ false → escape_line_ends (encode_utf8 c) ≡ encode_utf8 c
line_ends-encode c e =
    let none : NoCharPasses is_line_end (encode_utf8 c) = (c ∷ [], append-nil (encode_utf8 c), (e, tt)) in
    plain_all (encode_utf8 c) (λ i l.
    plain_byte (encode_utf8 c) i l (NoCharPasses-byte is_line_end (encode_utf8 c) i none l))

-- and what is written for it stands after the others
pub line_ends_behind : (cs : List ℕ) (c : ℕ) (text new written : List ℕ) → new ≡ text ++ written
    → text ≡ escape_line_ends (encode_utf8_all cs) → escape_line_ends (encode_utf8 c) ≡ written
    → new ≡ escape_line_ends (encode_utf8_all (cs ++ c ∷ []))
line_ends_behind cs c text new written now so_far one =
    grind (arith, encodes-append, append-nil, encode_utf8, flat_map-append)

-- ---- what is spelled is a line's part

pub no_end_spelled : (path : List ℕ) → list_any is_line_end (escape_line_ends path) ≡ false
no_end_spelled [] = refl
no_end_spelled (c ∷ path) = grind (arith, list_any-append, no_end_spelled path)

two_utf8 : IsUtf8 (escape_line_ends (encode_utf8 10)) × IsUtf8 (escape_line_ends (encode_utf8 13))
unfolding is_utf8 chars encode_utf8
two_utf8 = (IsUtf8-from_is_utf8 (codes "%0A") refl, IsUtf8-from_is_utf8 (codes "%0D") refl)

one_utf8 : (c : ℕ) (feed back : Bool) → eqb c 10 ≡ feed → eqb c 13 ≡ back → IsScalar c
    → IsUtf8 (escape_line_ends (encode_utf8 c))
one_utf8 c true back f b s = subst (λ x. IsUtf8 (escape_line_ends (encode_utf8 x))) (sym (eqb-true c 10 f)) two_utf8.0
one_utf8 c false true f b s = subst (λ x. IsUtf8 (escape_line_ends (encode_utf8 x))) (sym (eqb-true c 13 b)) two_utf8.1
one_utf8 c false false f b s = subst IsUtf8 (sym (line_ends-encode c (rw (f, b) refl))) (IsUtf8-encode c s)

chars_utf8 : (cs : List ℕ) → all_scalars cs ≡ true → IsUtf8 (escape_line_ends (encode_utf8_all cs))
chars_utf8 [] e = IsUtf8-nil
chars_utf8 (c ∷ cs) e =
    let two = both_true _ (all_scalars cs) e in
    subst IsUtf8 (sym (flat_map-append escape_line_end (encode_utf8 c) (encode_utf8_all cs)))
    (IsUtf8-append (escape_line_ends (encode_utf8 c)) (escape_line_ends (encode_utf8_all cs))
    (one_utf8 c _ _ refl refl two.0) (chars_utf8 cs two.1))

-- a text that is spelled stays a text
pub spelled_utf8 : (path : List ℕ) → IsUtf8 path → IsUtf8 (escape_line_ends path)
spelled_utf8 path (cs, (scalars, is)) = subst (λ t. IsUtf8 (escape_line_ends t)) is (chars_utf8 cs scalars)

-- ---- the digits of an escape

-- neither % nor the end of a line
abbrev IsPlain : ℕ → Type 0
IsPlain c = (c ≢ 37) × (c ≢ 10) × (c ≢ 13)

zero_plain : (high low c : ℕ) → line_end high low ≡ Some c → high ≡ 48
zero_plain high low c e = grind (arith, nat_tests)

low_plain : (high low c : ℕ) → line_end high low ≡ Some c → 64 < low
low_plain high low c e = grind (arith, nat_tests)

an_end : (high low c : ℕ) → line_end high low ≡ Some c → is_line_end c ≡ true
an_end high low c e = grind (arith, nat_tests)

high_is : (high low c : ℕ) → line_end high low ≡ Some c → IsPlain high
high_is high low c e =
    let is = zero_plain high low c e in
    (λ same. omega (arith, is, same), λ same. omega (arith, is, same), λ same. omega (arith, is, same))

low_is : (high low c : ℕ) → line_end high low ≡ Some c → IsPlain low
low_is high low c e =
    let is = low_plain high low c e in
    (λ same. omega (arith, is, same), λ same. omega (arith, is, same), λ same. omega (arith, is, same))

not_percent : (c : ℕ) → is_line_end c ≡ true → c ≢ percent
not_percent c e same = grind (arith, nat_tests)

-- ---- what is spelled is read again

-- a character of the spelling that begins no escape is one of the path
back_by : (c h : ℕ) (t more : List ℕ) (feed back : Bool) → eqb c 10 ≡ feed → eqb c 13 ≡ back → IsPlain h
    → escape_line_end c ++ escape_line_ends t ≡ h ∷ more
    → (rest : List ℕ) × (c ∷ t ≡ h ∷ rest) × (escape_line_ends rest ≡ more)
back_by c h t more true back f b plain e =
    let now : 37 ∷ 48 ∷ 65 ∷ escape_line_ends t ≡ h ∷ more = rw f at e in
    let same : h ≡ 37 = cc in absurd (plain.0 same)
back_by c h t more false true f b plain e =
    let now : 37 ∷ 48 ∷ 68 ∷ escape_line_ends t ≡ h ∷ more = rw (f, b) at e in
    let same : h ≡ 37 = cc in absurd (plain.0 same)
back_by c h t more false false f b plain e =
    let now : c ∷ escape_line_ends t ≡ h ∷ more = rw (f, b) at e in
    let same : c ≡ h = cc in
    (t, ap (λ x. x ∷ t) same, cc)

plain_back : (h : ℕ) (t more : List ℕ) → IsPlain h → escape_line_ends t ≡ h ∷ more
    → (rest : List ℕ) × (t ≡ h ∷ rest) × (escape_line_ends rest ≡ more)
plain_back h [] more plain e = cc
plain_back h (c ∷ t) more plain e = back_by c h t more _ _ refl refl plain e

-- what is spelled begins with an escape only where it is written for the end of a line
none_begins : (c : ℕ) (t : List ℕ) → begins_with_escape (c ∷ t) ≡ false → BeginsWithNone (c ∷ escape_line_ends t)
none_begins c t e x rest (high, low, is, stands) =
    let front : c ≡ percent = cc in
    let after : escape_line_ends t ≡ high ∷ low ∷ rest = cc in
    let (more, first, then) = plain_back high t (low ∷ rest) (high_is high low x stands) after in
    let (last, second, _) = plain_back low more rest (low_is high low x stands) then in
    let whole : c ∷ t ≡ percent ∷ high ∷ low ∷ last =
    ap (λ d. d ∷ t) front ∙ ap (λ s. percent ∷ s) (first ∙ ap (λ s. high ∷ s) second) in
    let none : begins_with_escape (percent ∷ high ∷ low ∷ last) ≡ false = sym (ap begins_with_escape whole) ∙ e in
    true≢false (rw stands at none)

front_by : (c : ℕ) (t : List ℕ) (feed back : Bool) → eqb c 10 ≡ feed → eqb c 13 ≡ back
    → begins_with_escape (c ∷ t) ≡ false → with_line_ends (escape_line_ends t) ≡ t
    → with_line_ends (escape_line_end c ++ escape_line_ends t) ≡ c ∷ t
front_by c t true back f b none more =
    let is = eqb-true c 10 f in rw f (ap (λ s. 10 ∷ s) more ∙ ap (λ d. d ∷ t) (sym is))
front_by c t false true f b none more =
    let is = eqb-true c 13 b in rw (f, b) (ap (λ s. 13 ∷ s) more ∙ ap (λ d. d ∷ t) (sym is))
front_by c t false false f b none more =
    rw (f, b) (plain_in_front c (escape_line_ends t) (none_begins c t none) ∙ ap (λ s. c ∷ s) more)

read_back : (path : List ℕ) → has_escape path ≡ false → with_line_ends (escape_line_ends path) ≡ path
read_back [] e = refl
read_back (c ∷ t) e =
    let two = or_false (begins_with_escape (c ∷ t)) (has_escape t) e in
    front_by c t _ _ refl refl two.0 (read_back t two.1)

-- what is spelled is read again by the same rules
pub reads_back : (rules : Rules) (path : List ℕ) → is_unspelled rules path ≡ false
    → unescaped rules (spelled rules path) ≡ Some path
reads_back V10 path e = read_again path
reads_back V097 path e = ap {B = Option (List ℕ)} Some (read_back path e)

pub spelled_again : SpelledPathsAreReadAgain
spelled_again rules path e = (spellings rules (spelled rules path) path).1 (reads_back rules path e)

-- ---- what is read has no escape in it

begins_other : (c : ℕ) (t : List ℕ) → c ≢ percent → begins_with_escape (c ∷ t) ≡ false
begins_other c [] other = refl
begins_other c (d ∷ []) other = refl
begins_other c (d ∷ e ∷ t) other =
    rw (false_from_ne_true (eqb c percent) (λ same. other (eqb-true c percent same))) refl

-- a character that is read, and is neither % nor the end of a line, is the first of the text
by_digits : (h d e : ℕ) (s more : List ℕ) (o : Option ℕ) → line_end d e ≡ o → IsPlain h
    → with_line_ends (percent ∷ d ∷ e ∷ s) ≡ h ∷ more → ⊥
by_digits h d e s more (Some x) is plain read =
    let now : x ∷ with_line_ends s ≡ h ∷ more = rw is at read in
    let same : x ≡ h = cc in
    let end = an_end d e x is in
    grind (arith, nat_tests)
by_digits h d e s more None is plain read =
    let now : percent ∷ with_line_ends (d ∷ e ∷ s) ≡ h ∷ more = rw is at read in
    let same : h ≡ percent = cc in plain.0 same

never_percent : (h : ℕ) (t more : List ℕ) → IsPlain h → with_line_ends (percent ∷ t) ≡ h ∷ more → ⊥
never_percent h [] more plain e = let same : h ≡ percent = cc in plain.0 same
never_percent h (d ∷ []) more plain e = let same : h ≡ percent = cc in plain.0 same
never_percent h (d ∷ e ∷ s) more plain read = by_digits h d e s more _ refl plain read

first_by : (h c : ℕ) (t more : List ℕ) (mark : Bool) → eqb c percent ≡ mark → IsPlain h
    → with_line_ends (c ∷ t) ≡ h ∷ more → (c ≡ h) × (with_line_ends t ≡ more)
first_by h c t more true m plain e =
    absurd (never_percent h t more plain (ap (λ d. with_line_ends (d ∷ t)) (sym (eqb-true c percent m)) ∙ e))
first_by h c t more false m plain e =
    let now : c ∷ with_line_ends t ≡ h ∷ more = sym (other_in_front c t (eqb-false c percent m)) ∙ e in (cc, cc)

first_read : (h c : ℕ) (t more : List ℕ) → IsPlain h → with_line_ends (c ∷ t) ≡ h ∷ more
    → (c ≡ h) × (with_line_ends t ≡ more)
first_read h c t more plain e = first_by h c t more _ refl plain e

module _ (d e : ℕ) (s : List ℕ) (nothing : line_end d e ≡ None) where
  by_value : (h l : ℕ) (rest : List ℕ) (o : Option ℕ) → line_end h l ≡ o
      → with_line_ends (d ∷ e ∷ s) ≡ h ∷ l ∷ rest → begins_with_escape (percent ∷ h ∷ l ∷ rest) ≡ false
  by_value h l rest None is read = rw is refl
  by_value h l rest (Some x) is read =
      let first = first_read h d (e ∷ s) (l ∷ rest) (high_is h l x is) read in
      let second = first_read l e s rest (low_is h l x is) first.1 in
      let clash : None ≡ Some x =
      sym nothing ∙ ap (λ c. line_end c e) first.0 ∙ ap (λ c. line_end h c) second.0 ∙ is in
      cc

  begins_by : (w : List ℕ) → with_line_ends (d ∷ e ∷ s) ≡ w → begins_with_escape (percent ∷ w) ≡ false
  begins_by [] read = refl
  begins_by (h ∷ []) read = refl
  begins_by (h ∷ l ∷ rest) read = by_value h l rest _ refl read

-- whatever is read has no escape in it
abbrev HasNone : List ℕ → Type 0
HasNone s = has_escape (with_line_ends s) ≡ false

has_by : (t u : List ℕ) (c : ℕ) → u ≡ c ∷ t → begins_with_escape (c ∷ t) ≡ false → has_escape t ≡ false
    → has_escape u ≡ false
has_by t u c is begins more = ap has_escape is ∙ rw (begins, more) refl

none_three : (c d e : ℕ) (s : List ℕ) (mark : Bool) (o : Option ℕ) → eqb c percent ≡ mark → line_end d e ≡ o
    → HasNone s → HasNone (d ∷ e ∷ s) → HasNone (c ∷ d ∷ e ∷ s)
none_three c d e s true (Some x) m is short long =
    has_by (with_line_ends s) (with_line_ends (c ∷ d ∷ e ∷ s)) x (rw (m, is) refl)
    (begins_other x (with_line_ends s) (not_percent x (an_end d e x is))) short
none_three c d e s true None m is short long =
    has_by (with_line_ends (d ∷ e ∷ s)) (with_line_ends (c ∷ d ∷ e ∷ s)) percent (rw (m, is) refl)
    (begins_by d e s is (with_line_ends (d ∷ e ∷ s)) refl) long
none_three c d e s false o m is short long =
    let other = eqb-false c percent m in
    has_by (with_line_ends (d ∷ e ∷ s)) (with_line_ends (c ∷ d ∷ e ∷ s)) c (other_in_front c (d ∷ e ∷ s) other)
    (begins_other c (with_line_ends (d ∷ e ∷ s)) other) long

none_read : (s : List ℕ) → HasNone s
none_read [] = refl
none_read (c ∷ []) = refl
none_read (c ∷ d ∷ []) = refl
none_read (c ∷ d ∷ e ∷ s) = none_three c d e s _ _ refl refl (none_read s) (none_read (d ∷ e ∷ s))

-- so a path that can't be spelled has no spelling at all
pub no_spelling : UnspelledPathsHaveNoSpelling
no_spelling V10 path = (λ _. (spelled V10 path, spelled_again V10 path refl), λ _. refl)
no_spelling V097 path = (
  λ e. (spelled V097 path, spelled_again V097 path e),
  λ (s, spells).
      let read : with_line_ends s ≡ path = same_Some _ _ ((spellings V097 s path).0 spells) in
      subst (λ t. has_escape t ≡ false) read (none_read s),
)
