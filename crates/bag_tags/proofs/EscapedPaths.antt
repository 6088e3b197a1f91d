-- Paths as they are spelled in manifests.
use Rattle.bag_tags.proofs.Common.{Bool, List, None, Option, Some, [], ap, arith, codes, eqb, false, refl, subst, sym}
use Rattle.bag_tags.proofs.Common.{true, ℕ, ◌++◌, ◌∙◌, ◌∷◌, ◌≡◌, ◌≢◌, eqb-true, true≢false, nat_tests, list_any-append}
use Rattle.bag_tags.proofs.Common.{IsUtf8-append, IsUtf8-encode, IsUtf8-nil, IsScalar, list_any, IsUtf8, all_scalars}
use Rattle.bag_tags.proofs.Common.{encode_utf8_all, both_true, BeginsUnblank, unescaped_plain, is_line_end}
use Rattle.bag_tags.proofs.Common.{is_path, both, escape, escape_one, percent, unescaped_strictly, is_blank}
use Rattle.bag_tags.proofs.Common.{begins_with_mark, false_from_ne_true}
use Rattle.std.specs.Char.{encode_utf8}
use Rattle.std.proofs.lemmas.List.Concat.{flat_map-append}
use Rattle.bag_text.proofs.Spellings.{escape-encode}
use Rattle.std.proofs.lemmas.Option.{same_Some}
use Rattle.bag_text.proofs.LineEnds.{other_in_front}
use Rattle.bag_text.specs.Spelling.{unescaped, with_line_ends}
use Rattle.bag_text.specs.declared.rules.Rules.{Rules}
use Rattle.bag_text.specs.declared.rules.Rules.TheVariants.{V10, V097}
use Rattle.bag_tags.proofs.SpelledPaths.{no_end_spelled, reads_back, spelled_utf8}
use Rattle.bag_tags.proofs.WrittenLines.{few_utf8}
use Rattle.bag_tags.specs.PathSpelling.{is_unspelled, spelled}

no_end_written : (path : List ℕ) → list_any is_line_end (escape path) ≡ false
no_end_written [] = refl
no_end_written (c ∷ path) = grind (arith, list_any-append, no_end_written path)

one_utf8 : (c : ℕ) (feed back mark : Bool) → eqb c 10 ≡ feed → eqb c 13 ≡ back → eqb c 37 ≡ mark → IsScalar c
    → IsUtf8 (escape (encode_utf8 c))
one_utf8 c true back mark f b m s = subst (λ x. IsUtf8 (escape (encode_utf8 x))) (sym (eqb-true c 10 f)) few_utf8.3
one_utf8 c false true mark f b m s = subst (λ x. IsUtf8 (escape (encode_utf8 x))) (sym (eqb-true c 13 b)) few_utf8.4
one_utf8 c false false true f b m s = subst (λ x. IsUtf8 (escape (encode_utf8 x))) (sym (eqb-true c 37 m)) few_utf8.5
one_utf8 c false false false f b m s = subst IsUtf8 (sym (escape-encode c (rw (f, b, m) refl))) (IsUtf8-encode c s)

chars_utf8 : (cs : List ℕ) → all_scalars cs ≡ true → IsUtf8 (escape (encode_utf8_all cs))
chars_utf8 [] e = IsUtf8-nil
chars_utf8 (c ∷ cs) e =
    let two = both_true _ (all_scalars cs) e in
    subst IsUtf8 (sym (flat_map-append escape_one (encode_utf8 c) (encode_utf8_all cs)))
    (IsUtf8-append (escape (encode_utf8 c)) (escape (encode_utf8_all cs)) (one_utf8 c _ _ _ refl refl refl two.0)
    (chars_utf8 cs two.1))

-- a text that is written stays a text
written_utf8 : (path : List ℕ) → IsUtf8 path → IsUtf8 (escape path)
written_utf8 path (cs, (scalars, is)) = subst (λ t. IsUtf8 (escape t)) is (chars_utf8 cs scalars)

-- ---- by the rules of a version

pub no_end_in : (rules : Rules) (path : List ℕ) → list_any is_line_end (spelled rules path) ≡ false
no_end_in V10 path = no_end_written path
no_end_in V097 path = no_end_spelled path

-- a text that is spelled stays a text
pub text_spelled : (rules : Rules) (path : List ℕ) → IsUtf8 path → IsUtf8 (spelled rules path)
text_spelled V10 path text = written_utf8 path text
text_spelled V097 path text = spelled_utf8 path text

plain_by : (h : ℕ) (path : List ℕ) (o : Option (List ℕ)) → both (Some h) o ≡ Some path
    → (rest : List ℕ) × (path ≡ h ∷ rest) × (o ≡ Some rest)
plain_by h path None e = cc
plain_by h path (Some rest) e = (rest, let same : h ∷ rest ≡ path = cc in sym same, refl)

-- a character at the front of a spelling that begins no escape is the first of the path
plain_first : (rules : Rules) (h : ℕ) (more path : List ℕ) → h ≢ percent → unescaped rules (h ∷ more) ≡ Some path
    → (rest : List ℕ) × (path ≡ h ∷ rest) × (unescaped rules more ≡ Some rest)
plain_first V10 h more path other e =
    plain_by h path (unescaped_strictly more) (sym (unescaped_plain h more other) ∙ e)
plain_first V097 h more path other e =
    (with_line_ends more, sym (same_Some _ _ e) ∙ other_in_front h more other, refl)

module _ (rules : Rules) (path : List ℕ) (can : is_unspelled rules path ≡ false) where
  read : (s : List ℕ) → spelled rules path ≡ s → unescaped rules s ≡ Some path
  read s e = sym (ap (unescaped rules) e) ∙ reads_back rules path can

  empty_by : (r : Rules) → unescaped r [] ≡ Some []
  empty_by V10 = refl
  empty_by V097 = refl

  module _ (unmarked : begins_with_mark path ≡ false) where
    -- it begins with no *
    pub no_star : (more : List ℕ) → spelled rules path ≢ codes "*" ++ more
    no_star more e =
        let (rest, is, _) = plain_first rules 42 more path (λ same. omega (arith, same)) (read (42 ∷ more) e) in
        true≢false (sym (ap begins_with_mark is) ∙ unmarked)

    begins_by : (s : List ℕ) → spelled rules path ≡ s → path ≢ [] → BeginsUnblank s
    begins_by [] e some =
        let empty : Some [] ≡ Some path = sym (empty_by rules) ∙ read [] e in absurd (some cc)
    begins_by (c ∷ more) e some =
        let first = λ (b : is_blank c ≡ true).
        let (rest, is, _) = plain_first rules c more path (λ same. grind (arith, nat_tests)) (read (c ∷ more) e) in
        true≢false (rw (is, b) at unmarked) in
        (c, more, refl, false_from_ne_true (is_blank c) first)

    -- nor with a blank
    pub begins_unblank : path ≢ [] → BeginsUnblank (spelled rules path)
    begins_unblank some = begins_by (spelled rules path) refl some

  -- nor with ./
  pub no_dot_slash : is_path path ≡ true → (more : List ℕ) → spelled rules path ≢ codes "./" ++ more
  no_dot_slash safe more e =
      let (behind, is, next) =
      plain_first rules 46 (47 ∷ more) path (λ same. omega (arith, same)) (read (46 ∷ 47 ∷ more) e) in
      let (rest, then, _) = plain_first rules 47 more behind (λ same. omega (arith, same)) next in
      let whole : path ≡ 46 ∷ 47 ∷ rest = is ∙ ap (λ t. 46 ∷ t) then in
      true≢false (sym safe ∙ ap is_path whole)
