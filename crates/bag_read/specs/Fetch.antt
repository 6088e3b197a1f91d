-- The list of files to fetch, fetch.txt (RFC 8493, 2.2.3).
use Rattle.std.specs.Prelude.{ℕ, ◌≡◌, ◌||◌, Bool, false, not, List, [], Result, Ok, Err, bytes_eq}
use Rattle.std.specs.Prelude.{codes, if◌then◌else◌}
use Rattle.bag_text.specs.Bytes.{Content, Line, Path}
use Rattle.bag_text.specs.Text.{IsNoText, before_blank, after_blanks, without_prefix, is_blank_line}
use Rattle.bag_text.specs.Text.{is_digits}
use Rattle.bag_text.specs.Lines.{lines_of_file, IsLine}
use Rattle.bag_text.specs.Path.{is_path, is_payload_path}
use Rattle.bag_text.specs.Spelling.{unescaped}
use Rattle.bag_text.specs.declared.rules.Rules.{Rules}
use Rattle.bag_text.specs.declared.code.Code.{Code}
use Rattle.bag_text.specs.declared.code.Code.TheVariants.{NotUtf8, FetchLine, FetchEscape}
use Rattle.bag_text.specs.declared.code.Code.TheVariants.{FetchUnsafePath, FetchOutsidePayload}
use Rattle.bag_read.specs.Reason.{Reason, decoded_or}
use Rattle.bag_text.specs.FirstFault.{◌>>=◌}
use Rattle.bag_read.specs.declared.line_fault.LineFault.{LineFault}
use Rattle.bag_read.specs.declared.fetch.FetchEntry.{FetchEntry}

-- A line is a URL, a length and a path as it is written, with blanks between them. The URL is what
-- stands before the first blank.
abbrev pub url_of : Line → List ℕ
url_of line = before_blank line

-- the length: what stands before the next blank
abbrev pub length_of : Line → List ℕ
length_of line = before_blank (after_blanks line)

-- the path as it is written: all that follows
abbrev pub written_of : Line → List ℕ
written_of line = after_blanks (after_blanks line)

-- a length in bytes, or a - where it isn't given
abbrev pub is_length : List ℕ → Bool
is_length t = bytes_eq t (codes "-") || is_digits t

-- whether a part is missing, or the length isn't one
abbrev pub lacks_part : List ℕ → List ℕ → List ℕ → Bool
lacks_part url size written = bytes_eq url [] || not (is_length size) || bytes_eq written []

-- the spelling of the path, without one ./ in front
abbrev pub spelling_of : Line → Result (List ℕ) Reason
spelling_of line =
    if lacks_part (url_of line) (length_of line) (written_of line) then Err (FetchLine, [])
    else Ok (without_prefix (codes "./") (written_of line))

-- only payload files are fetched
abbrev pub fetched_path : Path → Result Path Reason
fetched_path path =
    if is_path path then (if is_payload_path path then Ok path else Err (FetchOutsidePayload, path))
    else Err (FetchUnsafePath, path)

-- the path that is spelled, where a file may be fetched to it
abbrev pub path_spelled : Rules → List ℕ → Result Path Reason
path_spelled rules spelling = do
  path ← decoded_or FetchEscape (unescaped rules spelling) spelling
  fetched_path path

-- the path of a line that isn't blank, or the first reason why it doesn't read
unfoldable pub fetch_line : Rules → Line → Result Path Reason
fetch_line rules line = do
  spelling ← spelling_of line
  path_spelled rules spelling

-- the line isn't blank, and it reads; equivalently, `IsFetchLine`
abbrev pub ReadsFetch : Rules → Line → List ℕ → List ℕ → Path → Type 0
ReadsFetch rules line url size path =
    (is_blank_line line ≡ false) × (url ≡ url_of line) × (size ≡ length_of line)
    × (fetch_line rules line ≡ Ok path)

-- the line isn't blank, and for this reason it doesn't read: of `fetch_reasons` the first of which
-- `FetchReasonHolds`
abbrev pub HasFetchReason : Rules → Line → Reason → Type 0
HasFetchReason rules line reason =
    (is_blank_line line ≡ false) × (fetch_line rules line ≡ Err reason)

-- a line that reads
abbrev pub IsFetch : Rules → List Line → FetchEntry → Type 0
IsFetch rules all e =
    (line : List ℕ) × IsLine all e.line line × ReadsFetch rules line e.url e.length e.path

-- a line of the file doesn't read, for the reason of this code
abbrev pub HasUnreadFetchLine : Rules → Code → Content → LineFault → Type 0
HasUnreadFetchLine rules reason bytes f =
    (line : Line) × IsLine (lines_of_file bytes) f.line line
    × HasFetchReason rules line (reason, f.detail)

-- what is wrong with the file: by cases on the fault's code
abbrev pub FetchFault : Rules → Code → Content → LineFault → Type 0
-- its bytes aren't UTF-8
FetchFault rules NotUtf8 bytes f = (f.line ≡ 0) × (f.detail ≡ []) × IsNoText bytes
-- a line doesn't read
FetchFault rules FetchLine bytes f = HasUnreadFetchLine rules FetchLine bytes f
FetchFault rules FetchEscape bytes f = HasUnreadFetchLine rules FetchEscape bytes f
FetchFault rules FetchUnsafePath bytes f = HasUnreadFetchLine rules FetchUnsafePath bytes f
FetchFault rules FetchOutsidePayload bytes f = HasUnreadFetchLine rules FetchOutsidePayload bytes f
-- codes of other files
FetchFault rules other bytes f = ⊥

abbrev pub IsFetchFault : Rules → Content → LineFault → Type 0
IsFetchFault rules bytes f = FetchFault rules f.code bytes f
