-- Reading and writing spellings piece by piece.
use Rattle.bag_text.proofs.Common.{Bool, IsTrue, List, None, Option, Some, [], ap, append-nil, append_assoc, arith}
use Rattle.bag_text.proofs.Common.{bytes_eq, encode_utf8, eqb, false, get_or, inl, inr, length, lit<, not, refl, suc}
use Rattle.bag_text.proofs.Common.{sym, true, ℕ, ◌++◌, ◌<◌, ◌||◌, ◌↔◌, ◌∙◌, ◌∷◌, ◌≡◌, ◌≢◌, ◌≤◌, cases_lt, nat_tests}
use Rattle.bag_text.proofs.Common.{list_all_at, IsCharBoundary-after_ascii, NoCharPasses-byte, encodes-append}
use Rattle.bag_text.proofs.Common.{to_ascii_lowercase, list_all, option_map, IsCharBoundary, IsUtf8, NoCharPasses}
use Rattle.bag_text.proofs.Common.{encode_utf8_all, both, escape, escape_one, escaped, percent, unescaped_strictly}
use Rattle.std.proofs.lemmas.List.Concat.{flat_map-append}
use Rattle.bag_text.proofs.SpellingLaws.{unescaped_plain}

-- a character that is escaped
abbrev pub is_escaped : ℕ → Bool
is_escaped c = eqb c 10 || eqb c 13 || eqb c 37

escape_one_plain : (c : ℕ) → is_escaped c ≡ false → escape_one c ≡ c ∷ []
escape_one_plain c e = grind (arith, nat_tests)

escape_plain : (t : List ℕ) → ((i : ℕ) → i < length t → is_escaped (get_or t i 0) ≡ false) → escape t ≡ t
escape_plain [] h = refl
escape_plain (c ∷ t) h =
    ap (λ x. x ++ escape t) (escape_one_plain c (h 0 (omega arith)))
    ∙ ap (λ x. c ∷ x) (escape_plain t (λ i l. h (suc i) (omega arith)))

-- a byte of a character that isn't escaped
plain_byte : (t : List ℕ) (i : ℕ) → i < length t → (get_or t i 0 < 128 → is_escaped (get_or t i 0) ≡ false)
    → is_escaped (get_or t i 0) ≡ false
plain_byte t i l h = grind (arith, nat_tests)

-- a character that isn't escaped is written as itself, whatever its length in UTF-8
pub escape-encode : (c : ℕ) → is_escaped c ≡ false → escape (encode_utf8 c) ≡ encode_utf8 c
escape-encode c e =
    let none : NoCharPasses is_escaped (encode_utf8 c) = (c ∷ [], append-nil (encode_utf8 c), (e, tt)) in
    escape_plain (encode_utf8 c) (λ i l.
    plain_byte (encode_utf8 c) i l (NoCharPasses-byte is_escaped (encode_utf8 c) i none l))

-- and what is written for it stands after the others
pub escape_behind : (cs : List ℕ) (c : ℕ) (text new written : List ℕ) → new ≡ text ++ written
    → text ≡ escape (encode_utf8_all cs) → escape (encode_utf8 c) ≡ written
    → new ≡ escape (encode_utf8_all (cs ++ c ∷ []))
escape_behind cs c text new written now so_far one =
    grind (arith, encodes-append, append-nil, encode_utf8, flat_map-append)

-- what stands before the first % is read as itself
pub unescaped_front : (front rest : List ℕ) → ((i : ℕ) → i < length front → get_or front i 0 ≢ percent)
    → unescaped_strictly (front ++ rest) ≡ option_map (λ more. front ++ more) (unescaped_strictly rest)
unescaped_front [] rest h = grind (arith, unescaped_strictly)
unescaped_front (c ∷ front) rest h =
    rw (
      unescaped_plain c (front ++ rest) (h 0 (omega arith)),
      unescaped_front front rest (λ i l. h (suc i) (omega arith)),
    ) (grind (arith, unescaped_strictly))

pub unescaped_whole : (t : List ℕ) → ((i : ℕ) → i < length t → get_or t i 0 ≢ percent) → unescaped_strictly t ≡ Some t
unescaped_whole t h =
    ap unescaped_strictly (sym (append-nil t)) ∙ unescaped_front t [] h ∙ ap {B = Option (List ℕ)} Some (append-nil t)

-- a text without a % is read as itself
pub unescaped_without : (t : List ℕ) → list_all (λ c. not (eqb c percent)) t ≡ true → unescaped_strictly t ≡ Some t
unescaped_without t none = grind (arith, unescaped_whole, list_all_at)

-- the path as far as it is read, one more piece and one more character
pub read_more : (path plain : List ℕ) (c : ℕ) (o : Option (List ℕ))
    → option_map (λ more. path ++ more) (option_map (λ more. plain ++ more) (both (Some c) o))
    ≡ option_map (λ more. ((path ++ plain) ++ c ∷ []) ++ more) o
read_more path plain c o = grind (arith, append_assoc)

pub never_escaped : (d e k : ℕ) → 128 ≤ e → k < 128 → (c : ℕ)
    → bytes_eq (to_ascii_lowercase d ∷ to_ascii_lowercase e ∷ []) (c ∷ k ∷ []) ≡ false
never_escaped d e k h l c = grind (arith, nat_tests)

-- what is read of two characters is nothing where the second is none of ASCII, and they can't be cut off
pub second : (reads : ℕ → ℕ → Option ℕ) → ((d e : ℕ) → 128 ≤ e → reads d e ≡ None) → (d e : ℕ) (s : List ℕ)
    → IsUtf8 (d ∷ e ∷ s) → ¬ (IsCharBoundary (d ∷ e ∷ s) 2) → reads d e ≡ None
second reads none d e s u h =
    elim (cases_lt e 128) [
      | inl small ↦ absurd (h (IsCharBoundary-after_ascii (d ∷ e ∷ s) 1 u (omega arith) small))
      | inr high ↦ none d e high
    ]

-- where the two characters after a % can't be cut off, they are no escape
pub cut_escape : (after : List ℕ) → IsUtf8 after → ¬ (IsCharBoundary after 2)
    → unescaped_strictly (percent ∷ after) ≡ None
cut_escape [] u h = refl
cut_escape (d ∷ []) u h = refl
cut_escape (d ∷ e ∷ s) u h =
    ap (λ o. both o (unescaped_strictly s))
    (second escaped (λ d e high. grind (arith, nat_tests, never_escaped, lit<)) d e s u h)

-- a bad escape after what is read
pub read_none : (t path rest plain after : List ℕ)
    → unescaped_strictly t ≡ option_map (λ more. path ++ more) (unescaped_strictly rest)
    → rest ≡ plain ++ percent ∷ after
    → ((i : ℕ) → i < length plain → get_or plain i 0 ≢ percent) → unescaped_strictly (percent ∷ after) ≡ None
    → unescaped_strictly t ≡ None
read_none t path rest plain after read is none bad = grind (arith, unescaped_front)

-- text in front, or one character, makes no difference to whether there is a bad escape
nothing_put : (front : List ℕ) (o : Option (List ℕ)) → (option_map (λ more. front ++ more) o ≡ None) ↔ (o ≡ None)
nothing_put front o = grind arith

-- a bad escape after what has none
pub none_before : (rest plain after : List ℕ) → rest ≡ plain ++ percent ∷ after
    → ((i : ℕ) → i < length plain → get_or plain i 0 ≢ percent)
    → unescaped_strictly (percent ∷ after) ≡ None → unescaped_strictly rest ≡ None
none_before rest plain after is none bad =
    ap unescaped_strictly is ∙ unescaped_front plain (percent ∷ after) none ∙ (nothing_put plain _).1 bad

-- an escape changes nothing
pub none_behind : (t rest plain after more : List ℕ) (c : ℕ)
    → (unescaped_strictly t ≡ None) ↔ (unescaped_strictly rest ≡ None) → rest ≡ plain ++ percent ∷ after
    → ((i : ℕ) → i < length plain → get_or plain i 0 ≢ percent)
    → unescaped_strictly (percent ∷ after) ≡ both (Some c) (unescaped_strictly more)
    → (unescaped_strictly t ≡ None) ↔ (unescaped_strictly more ≡ None)
none_behind t rest plain after more c alike is none here = grind (arith, unescaped_front, nothing_put)

-- where no % is left, none is bad
pub none_whole : (t rest : List ℕ) → (unescaped_strictly t ≡ None) ↔ (unescaped_strictly rest ≡ None)
    → ((i : ℕ) → i < length rest → get_or rest i 0 ≢ percent)
    → IsTrue false ↔ (unescaped_strictly t ≡ None)
none_whole t rest alike none = grind (arith, unescaped_whole)

-- an escape after what is read
pub read_escape : (t path rest plain after more new : List ℕ) (c : ℕ)
    → unescaped_strictly t ≡ option_map (λ more. path ++ more) (unescaped_strictly rest)
    → rest ≡ plain ++ percent ∷ after
    → ((i : ℕ) → i < length plain → get_or plain i 0 ≢ percent)
    → unescaped_strictly (percent ∷ after) ≡ both (Some c) (unescaped_strictly more) → new ≡ (path ++ plain) ++ c ∷ []
    → unescaped_strictly t ≡ option_map (λ more. new ++ more) (unescaped_strictly more)
read_escape t path rest plain after more new c read is none here now =
    read ∙ ap (option_map (λ more. path ++ more))
    (ap unescaped_strictly is ∙ unescaped_front plain (percent ∷ after) none
    ∙ ap (option_map (λ more. plain ++ more)) here)
    ∙ read_more path plain c (unescaped_strictly more)
    ∙ ap (λ n. option_map (λ more. n ++ more) (unescaped_strictly more)) (sym now)

-- no escape after what is read
pub read_all : (t path rest new : List ℕ)
    → unescaped_strictly t ≡ option_map (λ more. path ++ more) (unescaped_strictly rest)
    → ((i : ℕ) → i < length rest → get_or rest i 0 ≢ percent)
    → new ≡ path ++ rest → unescaped_strictly t ≡ Some new
read_all t path rest new read none now =
    read ∙ ap (option_map (λ more. path ++ more)) (unescaped_whole rest none) ∙ ap {B = Option (List ℕ)} Some (sym now)
