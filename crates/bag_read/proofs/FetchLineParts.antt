-- A line of fetch.txt and its parts.
use Rattle.bag_read.proofs.Common.{Bool, Err, List, Ok, Result, Some, [], ap, arith, codes, false, inl, inr, nat_lt}
use Rattle.bag_read.proofs.Common.{refl, sym, true, ℕ, ◌∙◌, ◌≡◌, ◌≢◌, ◌⊎◌, or_cases, bytes_eq-Decides, IsTrue}
use Rattle.bag_read.proofs.Common.{spellings, is_path, is_payload_path, unescaped, after_blanks, before_blank}
use Rattle.bag_read.proofs.Common.{is_blank_line, without_prefix, FetchEscape, Rules, fetched_path, is_length}
use Rattle.bag_read.proofs.Common.{lacks_part, length_of, spelling_of, url_of, written_of, Reason, decoded_or}
use Rattle.bag_read.proofs.Common.{fetch_line}
use Rattle.bag_read.specs.FetchLine.{IsLength, IsFetchLine, FetchLinesReadAsTheirParts, OnlyReadsFetch}
use Rattle.bag_read.specs.FetchLine.{HasOnlyFetchReason}
use Rattle.bag_read.proofs.AreDigits.{are_digits, digits_are}
use Rattle.bag_read.proofs.LineParts.{or_false, not_false, not_empty, empty_test, is_cut, cut_part, cut_rest, not_blank}
use Rattle.bag_read.proofs.LineParts.{begins_some, is_without, without_alone}
use Rattle.bag_read.proofs.PickedOut.{both_true}
use Rattle.bag_read.proofs.Reason.{bind_ok, decoded_ok, ok_same}

-- a length
pub length_told : (t : List ℕ) → is_length t ≡ true → IsLength t
length_told t e = grind (arith, or_cases, bytes_eq-Decides, are_digits)

pub told_length : (t : List ℕ) → IsLength t → is_length t ≡ true
told_length t is = grind (arith, bytes_eq-Decides, digits_are)

-- what passes a test that nothing fails isn't empty
pub part_some : (test : List ℕ → Bool) (t : List ℕ) → test [] ≡ false → test t ≡ true → t ≢ []
part_some test t nothing e none = cc

-- what a spelling needs
abbrev pub HasTests : List ℕ → List ℕ → List ℕ → Type 0
HasTests url size written = (url ≢ []) × (is_length size ≡ true) × (written ≢ [])

pub has_parts : (url size written : List ℕ) → lacks_part url size written ≡ false → HasTests url size written
has_parts url size written e = grind (arith, or_false, not_empty, not_false)

pub lacks_none : (url size written : List ℕ) → HasTests url size written → lacks_part url size written ≡ false
lacks_none url size written (some, told, follows) = rw (empty_test url some, told, empty_test written follows) refl

module _ (rules : Rules) where
  fetched_told : (path fetched : List ℕ) → fetched_path path ≡ Ok fetched
      → IsTrue (is_payload_path path) × (path ≡ fetched)
  fetched_told path fetched h = grind (arith, is_path, is_payload_path)

  spelling_told : (line s : List ℕ) → spelling_of line ≡ Ok s
      → (lacks_part (url_of line) (length_of line) (written_of line) ≡ false)
      × (without_prefix (codes "./") (written_of line) ≡ s)
  spelling_told line s h = grind (arith, lacks_part, ok_same)

  -- what a line that reads tells
  line_told : (line path : List ℕ) → fetch_line rules line ≡ Ok path
      → (lacks_part (url_of line) (length_of line) (written_of line) ≡ false)
      × (unescaped rules (without_prefix (codes "./") (written_of line)) ≡ Some path)
      × IsTrue (is_payload_path path)
  unfolding fetch_line
  line_told line path e =
      let (s, first, more) = bind_ok (spelling_of line) _ path e in
      let (p, second, last) = bind_ok (decoded_or FetchEscape (unescaped rules s) s) _ path more in
      let (payload, same) = fetched_told p path last in
      let (lacks, is) = spelling_told line s first in
      (lacks, rw is (decoded_ok FetchEscape (unescaped rules s) s p second ∙ ap Some same), rw same at payload)

  -- a line that reads, and its parts
  line_parts : (line path : List ℕ) → fetch_line rules line ≡ Ok path
      → IsFetchLine rules line (url_of line) (length_of line) path
  line_parts line path e =
      let (lacks, spelled, payload) = line_told line path e in
      let (some, told, follows) = has_parts (url_of line) (length_of line) (written_of line) lacks in
      record {
        after_url = after_blanks line;
        written = written_of line;
        spelling = without_prefix (codes "./") (written_of line);
        url_first = is_cut line some (part_some (λ s. is_length (before_blank s)) (after_blanks line) refl told);
        length_next = is_cut (after_blanks line) (part_some is_length (length_of line) refl told) follows;
        has_length = length_told (length_of line) told;
        dot_slash = is_without (codes "./") (written_of line);
        spelled = (spellings rules _ path).1 spelled;
        in_payload = payload;
      }

  module _ (line url size path : List ℕ) (r : IsFetchLine rules line url size path) where
    pub url_is : url_of line ≡ url
    url_is = cut_part line url r.after_url r.url_first

    behind_is : after_blanks line ≡ r.after_url
    behind_is = cut_rest line url r.after_url r.url_first

    pub size_is : length_of line ≡ size
    size_is = ap before_blank behind_is ∙ cut_part r.after_url size r.written r.length_next

    pub path_is : fetch_line rules line ≡ Ok path
    unfolding fetch_line
    path_is =
        let next = cut_rest r.after_url size r.written r.length_next in
        let first = cut_part r.after_url size r.written r.length_next in
        let whole =
        lacks_none url size r.written
        (r.url_first.some_part, told_length size r.has_length, begins_some r.written r.length_next.begins) in
        rw (
          behind_is,
          next,
          url_is,
          first,
          whole,
          without_alone (codes "./") r.written r.spelling r.dot_slash,
          (spellings rules r.spelling path).0 r.spelled,
        )
        (grind (arith, both_true, nat_lt))

  pub result_by : (line : List ℕ) (r : Result (List ℕ) Reason) → is_blank_line line ≡ false → fetch_line rules line ≡ r
      → OnlyReadsFetch rules line ⊎ HasOnlyFetchReason rules line
  result_by line (Ok x) some e =
      inl (
        url_of line,
        length_of line,
        x,
        line_parts line x e,
        λ u s p r.
            let is = path_is line u s p r in (sym (url_is line u s p r), sym (size_is line u s p r), cc),
        λ reason h. cc,
      )
  result_by line (Err reason) some e =
      inr (reason, (some, e), λ other h. cc, λ u s p r. let is = path_is line u s p r in cc)

pub lines_read : FetchLinesReadAsTheirParts
lines_read rules line url size path = (
  λ (some, u, s, is). rw (u, s) (line_parts rules line path is),
  λ r. (
    not_blank line url r.after_url r.url_first,
    sym (url_is rules line url size path r),
    sym (size_is rules line url size path r),
    path_is rules line url size path r,
  ),
)
