-- A line of a manifest and its parts.
use Rattle.bag_read.proofs.Common.{Bool, Err, List, Ok, Result, Some, [], ap, arith, codes, cond, false, inl, inr}
use Rattle.bag_read.proofs.Common.{length, refl, sym, true, ℕ, ◌∙◌, ◌≡◌, ◌≢◌, ◌⊎◌, eqb-true, nat_tests}
use Rattle.bag_read.proofs.Common.{is_ascii_hexdigit, list_all, IsTrue, str_to_ascii_lowercase, spellings, hex_len}
use Rattle.bag_read.proofs.Common.{is_path, is_payload_path, unescaped, after_blanks, before_blank, is_blank_line}
use Rattle.bag_read.proofs.Common.{without_prefix, Alg, ManifestEscape, ManifestUnsafePath, TagmanifestNamesPayload}
use Rattle.bag_read.proofs.Common.{TagmanifestNamesTagmanifest, Rules, checked_digest, digest_of, named_path}
use Rattle.bag_read.proofs.Common.{spelled_path, without_marks, is_manifest_name, Reason, decoded_or, ◌>>=◌, Kind}
use Rattle.bag_read.proofs.Common.{Payload, Tag, manifest_line}
use Rattle.bag_read.specs.ManifestLine.{IsSpelling, MayName, IsManifestLine, ManifestLinesReadAsTheirParts}
use Rattle.bag_read.specs.ManifestLine.{OnlyReadsManifest, HasOnlyManifestReason}
use Rattle.bag_read.proofs.LineParts.{or_false, not_false, not_empty, empty_test, is_cut, cut_part, cut_rest, not_blank}
use Rattle.bag_read.proofs.LineParts.{begins_some, is_without, without_alone}
use Rattle.bag_read.proofs.Reason.{bind_ok, decoded_ok, ok_same}
use Rattle.bag_read.proofs.ManifestName.{named_test, not_named}

-- a digest that passes its test
abbrev IsGoodDigest : Alg → List ℕ → List ℕ → List ℕ → Type 0
IsGoodDigest alg h r digest =
    (h ≢ []) × (list_all is_ascii_hexdigit h ≡ true) × (r ≢ []) × (length h ≡ hex_len alg)
    × (digest ≡ str_to_ascii_lowercase h)

good_digest : (alg : Alg) (h r digest : List ℕ) → checked_digest alg h r ≡ Ok digest → IsGoodDigest alg h r digest
good_digest alg h r digest k = grind (arith, or_false, not_empty, not_false, eqb-true)

digest_good : (alg : Alg) (h r : List ℕ) → h ≢ [] → list_all is_ascii_hexdigit h ≡ true → r ≢ []
    → length h ≡ hex_len alg → checked_digest alg h r ≡ Ok (str_to_ascii_lowercase h)
digest_good alg h r some digits follows long = grind (arith, empty_test, hex_len, nat_tests)

pub written_is : (rest : List ℕ) → IsSpelling rest (without_marks rest)
written_is rest = (
  without_prefix (codes "*") rest,
  is_without (codes "*") rest,
  is_without (codes "./") (without_prefix (codes "*") rest),
)

pub written_alone : (rest spelling : List ℕ) → IsSpelling rest spelling → without_marks rest ≡ spelling
written_alone rest spelling (unmarked, star, here) =
    ap (without_prefix (codes "./")) (without_alone (codes "*") rest unmarked star)
    ∙ without_alone (codes "./") unmarked spelling here

tag_ok : (path named : List ℕ) (a b c : Bool) → is_path path ≡ a → is_payload_path path ≡ b
    → is_manifest_name Tag path ≡ c
    → cond {A =
    Result (List ℕ) Reason} a
    (cond b (Err (TagmanifestNamesPayload, path)) (cond c (Err (TagmanifestNamesTagmanifest, path)) (Ok path)))
    (Err (ManifestUnsafePath, path)) ≡ Ok named → IsTrue (is_path path) × MayName Tag path × (path ≡ named)
tag_ok path named true false false e f g h = (e, (f, not_named Tag path g), cc)
tag_ok path named a b c e f g h = cc

named_ok : (kind : Kind) (path named : List ℕ) → named_path kind path ≡ Ok named
    → IsTrue (is_path path) × MayName kind path × (path ≡ named)
named_ok Payload path named h = grind (arith, is_path, is_payload_path)
named_ok Tag path named h =
    tag_ok path named (is_path path) (is_payload_path path) (is_manifest_name Tag path) refl refl refl h

safe_named : (kind : Kind) (path : List ℕ) → IsTrue (is_path path) → MayName kind path → named_path kind path ≡ Ok path
safe_named Payload path safe may = rw (may, safe) refl
safe_named Tag path safe may = rw (may.0, named_test Tag path (is_manifest_name Tag path) refl may.1, safe) refl

module _ (rules : Rules) (kind : Kind) (alg : Alg) (line digest path : List ℕ) where
  abbrev IsRead : Type 0
  IsRead = manifest_line rules kind alg line ≡ Ok (digest, path)

  line_parts : IsRead → IsManifestLine rules kind alg line digest path
  unfolding manifest_line
  line_parts e =
      let (d, first, more) = bind_ok (digest_of alg line) _ (digest, path) e in
      let (p, second, rest) =
      bind_ok (decoded_or ManifestEscape (unescaped rules (spelled_path line)) (spelled_path line)) _ (digest, path)
      more in
      let (n, third, last) = bind_ok (named_path kind p) _ (digest, path) rest in
      let good = good_digest alg (before_blank line) (after_blanks line) d first in
      let pair = ok_same {A = List ℕ × List ℕ} (d, n) (digest, path) last in
      let (safe, may, same) = named_ok kind p n third in
      let whole : p ≡ path = same ∙ ap (λ (y : List ℕ × List ℕ). y.1) pair in
      record {
        hex = before_blank line;
        rest = after_blanks line;
        spelling = spelled_path line;
        parts = is_cut line good.0 good.2;
        only_digits = good.1;
        hex_length = good.3;
        in_lower_case = sym (ap (λ (y : List ℕ × List ℕ). y.0) pair) ∙ good.4;
        written = written_is (after_blanks line);
        spelled =
            (spellings rules (spelled_path line) path).1
            (decoded_ok ManifestEscape (unescaped rules (spelled_path line)) (spelled_path line) p second
            ∙ ap Some whole);
        is_safe = rw whole at safe;
        may_name = rw whole at may;
      }

  parts_line : IsManifestLine rules kind alg line digest path → IsRead
  unfolding manifest_line
  parts_line r =
      let front = cut_part line r.hex r.rest r.parts in
      let back = cut_rest line r.hex r.rest r.parts in
      let good =
      digest_good alg r.hex r.rest r.parts.some_part r.only_digits (begins_some r.rest r.parts.begins) r.hex_length
      in
      let spelled = (spellings rules r.spelling path).0 r.spelled in
      let first : digest_of alg line ≡ Ok digest =
      ap (λ h. checked_digest alg h (after_blanks line)) front ∙ ap (checked_digest alg r.hex) back ∙ good
      ∙ ap {B = Result (List ℕ) Reason} Ok (sym r.in_lower_case) in
      let second : spelled_path line ≡ r.spelling = ap without_marks back ∙ written_alone r.rest r.spelling r.written in
      let third : decoded_or ManifestEscape (unescaped rules (spelled_path line)) (spelled_path line) ≡ Ok path =
      ap (λ t. decoded_or ManifestEscape (unescaped rules t) t) second
      ∙ ap (λ o. decoded_or ManifestEscape o r.spelling) spelled in
      ap (λ d. d >>= λ digest. decoded_or ManifestEscape (unescaped rules (spelled_path line)) (spelled_path line) >>=
      λ path. named_path kind path >>= λ named. Ok (digest, named)) first
      ∙ ap (λ p. p >>= λ path. named_path kind path >>= λ named. Ok (digest, named)) third
      ∙ ap (λ n. n >>= λ named. Ok (digest, named)) (safe_named kind path r.is_safe r.may_name)

pub lines_read : ManifestLinesReadAsTheirParts
lines_read rules kind alg line digest path = (
  λ reads. line_parts rules kind alg line digest path reads.1,
  λ r. (not_blank line r.hex r.rest r.parts, parts_line rules kind alg line digest path r),
)

pub result_by : (rules : Rules) (kind : Kind) (alg : Alg) (line : List ℕ) (r : Result (List ℕ × List ℕ) Reason)
    → is_blank_line line ≡ false → manifest_line rules kind alg line ≡ r
    → OnlyReadsManifest rules kind alg line ⊎ HasOnlyManifestReason rules kind alg line
result_by rules kind alg line (Ok x) some e =
    inl (
      x.0,
      x.1,
      line_parts rules kind alg line x.0 x.1 e,
      λ d p r.
          let is = parts_line rules kind alg line d p r in (cc, cc),
      λ reason h. cc,
    )
result_by rules kind alg line (Err reason) some e =
    inr (reason, (some, e), λ other h. cc, λ d p r. let is = parts_line rules kind alg line d p r in cc)
