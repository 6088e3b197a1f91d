-- One line of fetch.txt.
use Rattle.bag_read.proofs.Common.{Err, List, Ok, Result, [], codes, false, refl, subst, true, ℕ, ◌≡◌, is_path}
use Rattle.bag_read.proofs.Common.{is_payload_path, unescaped, after_blanks, before_blank, without_prefix, Code}
use Rattle.bag_read.proofs.Common.{FetchEscape, FetchLine, FetchOutsidePayload, FetchUnsafePath, Rules, entry}
use Rattle.bag_read.proofs.Common.{fetch_entry_in, fetched_path, lacks_part, length_of, path_spelled, spelling_of}
use Rattle.bag_read.proofs.Common.{url_of, written_of, Reason, decoded_or, ◌>>=◌, FetchEntry, fetch_line, ◌≢◌}
use Rattle.bag_read.proofs.Common.{FetchFault, LineFault, NotUtf8}
use Rattle.bag_read.specs.Fetch.{HasUnreadFetchLine}
use Rattle.bag_read.specs.Reason.{IsReadOf}
use Rattle.bag_read.specs.declared.line_fault.Why.{Why}
use Rattle.bag_read.proofs.Reason.{IsReasonOf, then_reason, chosen, decoded_reason}

module _ (rules : Rules) where
  -- the parts of a line
  module _ (line url behind size written : List ℕ) (first : url ≡ before_blank line) (back : behind ≡ after_blanks line)
      (next : size ≡ before_blank behind) (last : written ≡ after_blanks behind) where
    pub line_lacking : (n : ℕ) (read : Result FetchEntry Why) → lacks_part url size written ≡ true
        → IsReadOf {A = FetchEntry} (Err (FetchLine, [])) read → IsReadOf (fetch_entry_in rules n line) read
    unfolding fetch_line
    line_lacking n read e h = rw (rw (first, next, last, back) at e) h

    line_is : (n : ℕ) (path : Result (List ℕ) Reason) → lacks_part url size written ≡ false
        → path ≡ path_spelled rules (without_prefix (codes "./") written)
        → ◌≡◌ {A = Result FetchEntry Reason} (path >>= λ p. Ok (entry n url size p)) (fetch_entry_in rules n line)
    unfolding fetch_line
    line_is n path e is = rw (rw (first, next, last, back) at e, first, next, back, is, last, back) refl

    pub line_read : (n : ℕ) (read : Result FetchEntry Why) → lacks_part url size written ≡ false
        → IsReadOf (path_spelled rules (without_prefix (codes "./") written) >>= λ p. Ok (entry n url size p)) read
        → IsReadOf (fetch_entry_in rules n line) read
    line_read n read e h =
        subst (λ (says : Result FetchEntry Reason). IsReadOf says read)
        (line_is n (path_spelled rules (without_prefix (codes "./") written)) e refl) h

  -- the codes of the reasons why a line doesn't read
  abbrev pub IsReasonCode : Code → Type 0
  IsReasonCode FetchLine = Unit {0}
  IsReasonCode FetchEscape = Unit {0}
  IsReasonCode FetchUnsafePath = Unit {0}
  IsReasonCode FetchOutsidePayload = Unit {0}
  IsReasonCode other = ⊥

  path_reason : (path : List ℕ) → IsReasonOf IsReasonCode (fetched_path path)
  path_reason path =
      chosen IsReasonCode (is_path path) _ (Err (FetchUnsafePath, path))
      (chosen IsReasonCode (is_payload_path path) (Ok path) (Err (FetchOutsidePayload, path)) tt tt) tt

  line_reason : (line : List ℕ) → IsReasonOf IsReasonCode (fetch_line rules line)
  unfolding fetch_line
  line_reason line =
      then_reason IsReasonCode (spelling_of line) _
      (chosen IsReasonCode (lacks_part (url_of line) (length_of line) (written_of line)) (Err (FetchLine, []))
      (Ok (without_prefix (codes "./") (written_of line))) tt tt)
      (λ spelling. then_reason IsReasonCode (decoded_or FetchEscape (unescaped rules spelling) spelling) _
      (decoded_reason IsReasonCode FetchEscape (unescaped rules spelling) spelling tt)
      (λ path. path_reason path))

  pub reason_code : (line : List ℕ) (reason : Reason) → fetch_line rules line ≡ Err reason → IsReasonCode reason.0
  reason_code line reason e = subst (IsReasonOf IsReasonCode) e (line_reason line)

  -- a fault that isn't of all bytes is of a line that doesn't read
  pub unread_line : (code : Code) (bytes : List ℕ) (f : LineFault) → code ≢ NotUtf8 → FetchFault rules code bytes f
      → HasUnreadFetchLine rules code bytes f
  unread_line NotUtf8 bytes f whole h = absurd (whole refl)
  unread_line FetchLine bytes f whole h = h
  unread_line FetchEscape bytes f whole h = h
  unread_line FetchUnsafePath bytes f whole h = h
  unread_line FetchOutsidePayload bytes f whole h = h
  unread_line other bytes f whole h = absurd h

  row : (code : Code) (bytes : List ℕ) (f : LineFault) → IsReasonCode code → HasUnreadFetchLine rules code bytes f
      → FetchFault rules code bytes f
  row FetchLine bytes f is h = h
  row FetchEscape bytes f is h = h
  row FetchUnsafePath bytes f is h = h
  row FetchOutsidePayload bytes f is h = h
  row other bytes f is h = absurd is

  -- and a line that doesn't read is a fault
  pub of_unread : (code : Code) (bytes : List ℕ) (f : LineFault) → HasUnreadFetchLine rules code bytes f
      → FetchFault rules code bytes f
  of_unread code bytes f h = row code bytes f (reason_code h.0 (code, f.detail) h.2.1) h
