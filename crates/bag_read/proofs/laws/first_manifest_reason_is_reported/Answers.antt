use Rattle.bag_read.proofs.Common.{Bool, Err, List, Ok, Result, Some, [], ap, arith, bytes_eq, cond, false, inl, inr}
use Rattle.bag_read.proofs.Common.{length, not, refl, subst, true, ℕ, ◌==◌, ◌||◌, ◌∙◌, ◌∷◌, ◌≡◌, eqb-false, eqb-true}
use Rattle.bag_read.proofs.Common.{or_cases, bytes_eq-Decides, is_ascii_hexdigit, list_all, str_to_ascii_lowercase}
use Rattle.bag_read.proofs.Common.{hex_len, is_path, is_payload_path, unescaped, after_blanks, before_blank, Alg, Code}
use Rattle.bag_read.proofs.Common.{DigestLength, ManifestEscape, ManifestLine, ManifestOutsidePayload}
use Rattle.bag_read.proofs.Common.{ManifestUnsafePath, TagmanifestNamesPayload, TagmanifestNamesTagmanifest, Rules}
use Rattle.bag_read.proofs.Common.{named_path, placed, spelled_path, without_marks, is_manifest_name, IsFirst, Reason}
use Rattle.bag_read.proofs.Common.{decoded_or, ◌>>=◌, Kind, Payload, Tag, manifest_line}
use Rattle.bag_read.specs.ManifestReasons.{IsManifestSpelled, IsManifestWritten, ManifestReasonHolds}
use Rattle.bag_read.proofs.Reason.{err_same, never_ok, clash, is_written, written_same, spelled_first}
use Rattle.bag_read.proofs.LineParts.{not_false, not_true, is_fronted, fronted_part, fronted_rest}
use Rattle.bag_read.proofs.ManifestLineParts.{written_is, written_alone}
use Rattle.bag_read.proofs.ManifestName.{is_named}
use Rattle.bag_read.proofs.laws.first_manifest_reason_is_reported.Goals as goal

-- The first reason why a line of a manifest doesn't read.

module _ (rules : Rules) (alg : Alg) (line : List ℕ) where
  abbrev hex : List ℕ
  hex = before_blank line

  abbrev rest : List ℕ
  rest = after_blanks line

  abbrev spelling : List ℕ
  spelling = spelled_path line

  -- the parts of the line are these and no others
  abbrev lacks : Bool
  lacks = bytes_eq hex [] || not (list_all is_ascii_hexdigit hex) || bytes_eq rest []

  part_missing : (kind : Kind) → lacks ≡ true → ManifestReasonHolds ManifestLine rules kind alg line []
  part_missing kind e = (refl, (hex, rest, is_fronted line, grind (arith, or_cases, bytes_eq-Decides, not_true)))

  no_part_missing : (kind : Kind) → lacks ≡ false → (detail : List ℕ)
      → ¬ (ManifestReasonHolds ManifestLine rules kind alg line detail)
  no_part_missing kind e detail (empty, (h, r, at, why)) =
      grind (arith, fronted_part line h r at, fronted_rest line h r at, bytes_eq-Decides)

  other_length : (kind : Kind) → not (length hex == hex_len alg) ≡ true
      → ManifestReasonHolds DigestLength rules kind alg line hex
  other_length kind e = (rest, is_fronted line, eqb-false (length hex) (hex_len alg) (not_true _ e))

  no_other_length : (kind : Kind) → not (length hex == hex_len alg) ≡ false → (detail : List ℕ)
      → ¬ (ManifestReasonHolds DigestLength rules kind alg line detail)
  no_other_length kind e detail (r, at, differs) =
      differs (rw (fronted_part line detail r at) at (eqb-true (length hex) (hex_len alg) (not_false _ e)))

  is_spelled : IsManifestSpelled line spelling
  is_spelled = (hex, rest, is_fronted line, written_is rest)

  spelled_alone : (s : List ℕ) → IsManifestSpelled line s → spelling ≡ s
  spelled_alone s (h, r, at, w) = ap without_marks (fronted_rest line h r at) ∙ written_alone r s w

  abbrev Line : Type 0
  Line = Result (List ℕ × List ℕ) Reason

  abbrev outside : List Code
  outside = ManifestOutsidePayload ∷ TagmanifestNamesPayload ∷ TagmanifestNamesTagmanifest ∷ []

  abbrev First : Kind → List Code → Reason → Type 0
  First kind codes reason = IsFirst (λ code detail. ManifestReasonHolds code rules kind alg line detail) codes reason

  module _ (path : List ℕ) (e : unescaped rules spelling ≡ Some path) where
    abbrev named_in : List ℕ → Result (List ℕ) Reason → Line
    named_in digest r = r >>= λ named. Ok (digest, named)

    at_path : IsManifestWritten rules line path
    at_path = is_written rules (IsManifestSpelled line) spelling is_spelled spelled_alone path e

    no_payload : is_payload_path path ≡ false → (detail : List ℕ)
        → ¬ (ManifestReasonHolds TagmanifestNamesPayload rules Tag alg line detail)
    no_payload f detail (w, is) =
        clash (is_payload_path path)
        (ap is_payload_path
        (written_same rules (IsManifestSpelled line) spelling is_spelled spelled_alone path detail e w) ∙ is) f

    payload_first : (digest : List ℕ) (reason : Reason) (b : Bool) → is_payload_path path ≡ b
        → named_in digest (cond b (Ok path) (Err (ManifestOutsidePayload, path))) ≡ Err reason
        → First Payload outside reason
    payload_first digest reason b f h = grind (arith, never_ok, outside, err_same, at_path)

    tag_first : (digest : List ℕ) (reason : Reason) (a b : Bool) → is_payload_path path ≡ a
        → is_manifest_name Tag path ≡ b
        → named_in digest
        (cond a (Err (TagmanifestNamesPayload, path)) (cond b (Err (TagmanifestNamesTagmanifest, path)) (Ok path)))
        ≡ Err reason → First Tag outside reason
    tag_first digest reason true b f g h =
        subst (First Tag outside) (err_same _ _ h) (inr (λ detail no. no, inl (refl, (at_path, f))))
    tag_first digest reason false true f g h =
        subst (First Tag outside) (err_same _ _ h)
        (inr (λ detail no. no, inr (no_payload f, inl (refl, (at_path, is_named Tag path g)))))
    tag_first digest reason false false f g h = absurd (never_ok _ _ h)

    placed_first : (kind : Kind) (digest : List ℕ) (reason : Reason) → named_in digest (placed kind path) ≡ Err reason
        → First kind outside reason
    placed_first kind digest reason h = grind (arith, payload_first, is_payload_path, tag_first, is_manifest_name)

    safe_first : (kind : Kind) (digest : List ℕ) (reason : Reason) → named_in digest (named_path kind path) ≡ Err reason
        → is_path path ≡ true → First kind outside reason
    safe_first kind digest reason h safe = placed_first kind digest reason (rw safe at h)

  abbrev path_named : Kind → List ℕ → List ℕ → Line
  path_named kind digest path = named_path kind path >>= λ named. Ok (digest, named)

  -- after the digest
  spelling_first : (kind : Kind) (digest : List ℕ) (reason : Reason)
      → (decoded_or ManifestEscape (unescaped rules spelling) spelling >>= path_named kind digest) ≡ Err reason
      → First kind (ManifestEscape ∷ ManifestUnsafePath ∷ outside) reason
  spelling_first kind digest reason h =
      spelled_first rules (IsManifestSpelled line) spelling is_spelled spelled_alone
      (λ code detail. ManifestReasonHolds code rules kind alg line detail) ManifestEscape ManifestUnsafePath outside
      (path_named kind digest) reason
      (λ s. (λ h. h, λ h. h)) (λ t. (λ h. h, λ h. h)) (λ path other. rw other refl)
      (λ path e safe h. safe_first path e kind digest reason h safe) (unescaped rules spelling) refl h

  abbrev digest_read : Bool → Bool → Result (List ℕ) Reason
  digest_read a b = cond a (Err (ManifestLine, [])) (cond b (Err (DigestLength, hex)) (Ok (str_to_ascii_lowercase hex)))

  line_first : (kind : Kind) (reason : Reason) (a b : Bool) → lacks ≡ a → not (length hex == hex_len alg) ≡ b
      → (digest_read a b >>= λ digest. decoded_or ManifestEscape (unescaped rules spelling) spelling >>= path_named kind
      digest) ≡ Err reason
      → First kind (ManifestLine ∷ DigestLength ∷ ManifestEscape ∷ ManifestUnsafePath ∷ outside) reason
  line_first kind reason true b e f h = grind (arith, err_same _ _ h, part_missing kind e)
  line_first kind reason false true e f h = grind (arith, err_same _ _ h, no_part_missing kind e, other_length kind f)
  line_first kind reason false false e f h =
      inr (
        no_part_missing kind e,
        inr (no_other_length kind f, spelling_first kind (str_to_ascii_lowercase hex) reason h),
      )

pub returns : goal.returns
unfolding manifest_line
returns c rules kind alg line reason h = line_first rules alg line kind reason _ _ refl refl h.1
