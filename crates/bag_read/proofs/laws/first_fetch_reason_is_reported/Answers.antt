use Rattle.bag_read.proofs.Common.{Bool, Err, List, Ok, Result, Some, [], ap, arith, codes, cond, false, inr, refl}
use Rattle.bag_read.proofs.Common.{true, ℕ, ◌∙◌, ◌∷◌, ◌≡◌, is_path, is_payload_path, unescaped, after_blanks}
use Rattle.bag_read.proofs.Common.{before_blank, without_prefix, Code, FetchEscape, FetchLine, FetchOutsidePayload}
use Rattle.bag_read.proofs.Common.{FetchUnsafePath, Rules, fetched_path, is_length, lacks_part, length_of, path_spelled}
use Rattle.bag_read.proofs.Common.{url_of, written_of, IsFirst, Reason, ◌>>=◌, fetch_line}
use Rattle.bag_read.specs.FetchReasons.{HasParts, IsFetchSpelled, FetchReasonHolds}
use Rattle.bag_read.proofs.FetchLineParts.{length_told, told_length, part_some, has_parts, lacks_none}
use Rattle.bag_read.proofs.Reason.{err_same, clash, is_written, spelled_first}
use Rattle.bag_read.proofs.LineParts.{is_cut, cut_part, cut_rest, begins_some, is_without, without_alone}
use Rattle.bag_read.proofs.laws.first_fetch_reason_is_reported.Goals as goal

-- The first reason why a line of fetch.txt doesn't read.

module _ (rules : Rules) (line : List ℕ) where
  abbrev written : List ℕ
  written = written_of line

  abbrev spelling : List ℕ
  spelling = without_prefix (codes "./") written

  abbrev lacks : Bool
  lacks = lacks_part (url_of line) (length_of line) written

  all_parts : lacks ≡ false → HasParts line written
  all_parts e =
      let (some, told, follows) = has_parts (url_of line) (length_of line) written e in
      let next = is_cut (after_blanks line) (part_some is_length (length_of line) refl told) follows in (
        url_of line,
        after_blanks line,
        length_of line,
        is_cut line some (part_some (λ s. is_length (before_blank s)) (after_blanks line) refl told),
        next,
        length_told (length_of line) told,
      )

  -- the parts of the line are these and no others
  parts_alone : (w : List ℕ) → HasParts line w → (written ≡ w) × (lacks ≡ false)
  parts_alone w (url, behind, size, first, next, told) =
      let first_is = cut_part line url behind first in
      let behind_is = cut_rest line url behind first in
      let size_is = cut_part behind size w next in
      let same = cut_rest behind size w next in
      grind (arith, lacks_none url size w (first.some_part, told_length size told, begins_some w next.begins))

  no_parts : lacks ≡ true → FetchReasonHolds FetchLine rules line []
  no_parts e = (refl, λ w has. clash lacks e (parts_alone w has).1)

  no_part_missing : lacks ≡ false → (detail : List ℕ) → ¬ (FetchReasonHolds FetchLine rules line detail)
  no_part_missing e detail (empty, none) = none written (all_parts e)

  abbrev First : List Code → Reason → Type 0
  First codes reason = IsFirst (λ code detail. FetchReasonHolds code rules line detail) codes reason

  module _ (there : lacks ≡ false) where
    is_spelled : IsFetchSpelled line spelling
    is_spelled = (written, all_parts there, is_without (codes "./") written)

    spelled_alone : (s : List ℕ) → IsFetchSpelled line s → spelling ≡ s
    spelled_alone s (w, has, at) =
        ap (without_prefix (codes "./")) (parts_alone w has).0 ∙ without_alone (codes "./") w s at

    payload_first : (reason : Reason) (path : List ℕ) → unescaped rules spelling ≡ Some path → is_path path ≡ true
        → fetched_path path ≡ Err reason → First (FetchOutsidePayload ∷ []) reason
    payload_first reason path e safe h =
        grind (
          arith,
          is_payload_path,
          is_written rules (IsFetchSpelled line) spelling is_spelled spelled_alone path e,
          err_same,
        )

    spelling_first : (reason : Reason) → path_spelled rules spelling ≡ Err reason
        → First (FetchEscape ∷ FetchUnsafePath ∷ FetchOutsidePayload ∷ []) reason
    spelling_first reason h =
        spelled_first rules (IsFetchSpelled line) spelling is_spelled spelled_alone
        (λ code detail. FetchReasonHolds code rules line detail) FetchEscape FetchUnsafePath
        (FetchOutsidePayload ∷ []) fetched_path reason
        (λ s. (λ h. h, λ h. h)) (λ t. (λ h. h, λ h. h)) (λ path other. rw other refl) (payload_first reason)
        (unescaped rules spelling) refl h

  line_first : (reason : Reason) (b : Bool) → lacks ≡ b
      → (cond {A = Result (List ℕ) Reason} b (Err (FetchLine, [])) (Ok spelling) >>= path_spelled rules) ≡ Err reason
      → First (FetchLine ∷ FetchEscape ∷ FetchUnsafePath ∷ FetchOutsidePayload ∷ []) reason
  line_first reason true e h = grind (arith, err_same _ _ h, no_parts e)
  line_first reason false e h = inr (no_part_missing e, spelling_first e reason h)

pub returns : goal.returns
unfolding fetch_line
returns c rules line reason h = line_first rules line reason (lacks rules line) refl h.1
