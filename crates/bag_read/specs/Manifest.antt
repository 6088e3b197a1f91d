-- Manifests (RFC 8493, 2.1.3 and 2.2.1).
use Rattle.std.specs.Prelude.{ℕ, ◌-◌, ◌≡◌, ◌==◌, ◌||◌, false, not, List, [], length, Option, Some}
use Rattle.std.specs.Prelude.{None, Result, Ok, Err, bytes_eq, codes, if◌then◌else◌, filter_map}
use Rattle.std.specs.Prelude.{take, Contains}
use Rattle.std.specs.Str.{str_to_ascii_lowercase}
use Rattle.std.specs.Char.{is_ascii_hexdigit}
use Rattle.std.specs.List.{list_all}
use Rattle.bag_text.specs.Bytes.{Content, Digest, Line, Path}
use Rattle.bag_text.specs.Text.{IsNoText, before_blank, after_blanks, without_prefix, is_blank_line}
use Rattle.bag_text.specs.Lines.{lines_of_file, IsLine}
use Rattle.bag_text.specs.Path.{is_path, is_payload_path}
use Rattle.bag_text.specs.Spelling.{unescaped}
use Rattle.bag_text.specs.Alg.{hex_len}
use Rattle.bag_text.specs.declared.rules.Rules.{Rules}
use Rattle.bag_text.specs.declared.alg.Alg.{Alg}
use Rattle.bag_text.specs.declared.code.Code.{Code}
use Rattle.bag_text.specs.declared.code.Code.TheVariants as code
use Rattle.bag_read.specs.ManifestName.{is_manifest_name}
use Rattle.bag_read.specs.declared.kind.Kind.{Kind}
use Rattle.bag_read.specs.declared.kind.Kind.TheVariants.{Payload, Tag}
use Rattle.bag_read.specs.Reason.{Reason, decoded_or}
use Rattle.bag_text.specs.FirstFault.{◌>>=◌}
use Rattle.bag_read.specs.declared.line_fault.LineFault.{LineFault}
use Rattle.bag_entries.specs.declared.entry.ManifestEntry.{ManifestEntry}

-- the digest in lower case, where it is hex, has the algorithm's length, and something follows it
abbrev pub checked_digest : Alg → List ℕ → List ℕ → Result Digest Reason
checked_digest alg digest rest =
    if bytes_eq digest [] || not (list_all is_ascii_hexdigit digest) || bytes_eq rest []
    then Err (code.ManifestLine, [])
    else if not (length digest == hex_len alg) then Err (code.DigestLength, digest)
    else Ok (str_to_ascii_lowercase digest)

-- the digest at the front of a line
abbrev pub digest_of : Alg → Line → Result Digest Reason
digest_of alg line = checked_digest alg (before_blank line) (after_blanks line)

-- without what may stand before a path: one *, as md5sum -b writes it, and then one ./
abbrev pub without_marks : List ℕ → List ℕ
without_marks rest = without_prefix (codes "./") (without_prefix (codes "*") rest)

-- the path as it is written, after the digest and the blanks
abbrev pub spelled_path : Line → List ℕ
spelled_path line = without_marks (after_blanks line)

-- a payload manifest names payload files, and a tag manifest other files, but no tag manifest
abbrev pub placed : Kind → Path → Result Path Reason
placed Payload path =
    if is_payload_path path then Ok path else Err (code.ManifestOutsidePayload, path)
placed Tag path =
    if is_payload_path path then Err (code.TagmanifestNamesPayload, path)
    else if is_manifest_name Tag path then Err (code.TagmanifestNamesTagmanifest, path)
    else Ok path

-- a path that a manifest of this kind may name
abbrev pub named_path : Kind → Path → Result Path Reason
named_path kind path =
    if is_path path then placed kind path else Err (code.ManifestUnsafePath, path)

-- what a line says whose digest is good, by the path in it
abbrev pub line_by_path : Kind → Digest → Path → Result (Digest × Path) Reason
line_by_path kind digest path = do
  named ← named_path kind path
  Ok (digest, named)

-- the same by how the path is spelled
abbrev pub line_by_spelling : Rules → Kind → Digest → List ℕ → Result (Digest × Path) Reason
line_by_spelling rules kind digest spelling = do
  path ← decoded_or code.ManifestEscape (unescaped rules spelling) spelling
  line_by_path kind digest path

-- the digest and the path of a line that isn't blank, or the first reason why it doesn't read
unfoldable pub manifest_line : Rules → Kind → Alg → Line → Result (Digest × Path) Reason
manifest_line rules kind alg line = do
  digest ← digest_of alg line
  line_by_spelling rules kind digest (spelled_path line)

-- the line isn't blank, and it reads; equivalently, `IsManifestLine`
abbrev pub ReadsManifest : Rules → Kind → Alg → Line → Digest → Path → Type 0
ReadsManifest rules kind alg line digest path =
    (is_blank_line line ≡ false) × (manifest_line rules kind alg line ≡ Ok (digest, path))

-- the line isn't blank, and for this reason it doesn't read: of `manifest_reasons` the first of
-- which `ManifestReasonHolds`
abbrev pub HasManifestReason : Rules → Kind → Alg → Line → Reason → Type 0
HasManifestReason rules kind alg line reason =
    (is_blank_line line ≡ false) × (manifest_line rules kind alg line ≡ Err reason)

-- the path that a line names, where it reads
abbrev pub path_read : Result (Digest × Path) Reason → Option Path
path_read (Ok x) = Some x.1
path_read (Err reason) = None

-- the paths that lines name, in their order
abbrev pub named : Rules → Kind → Alg → List Line → List Path
named rules kind alg all =
    filter_map (λ line. if is_blank_line line then None
    else path_read (manifest_line rules kind alg line)) all

-- the paths that the lines before line k name
abbrev pub named_before : Rules → Kind → Alg → List Line → ℕ → List Path
named_before rules kind alg all k = named rules kind alg (take (k - 1) all)

-- an entry: a line that reads, the first that names its path
abbrev pub IsEntry : Rules → Kind → Alg → List Line → ManifestEntry → Type 0
IsEntry rules kind alg all e =
    (line : List ℕ) × IsLine all e.line line × ReadsManifest rules kind alg line e.digest e.path
    × ¬ (Contains (named_before rules kind alg all e.line) e.path)

-- a line of the file doesn't read, for the reason of this code
abbrev pub HasUnreadLine : Code → Rules → Kind → Alg → Content → LineFault → Type 0
HasUnreadLine reason rules kind alg bytes f =
    (line : Line) × IsLine (lines_of_file bytes) f.line line
    × HasManifestReason rules kind alg line (reason, f.detail)

-- what is wrong with the file: by cases on the fault's code
abbrev pub ManifestFault : Code → Rules → Kind → Alg → Content → LineFault → Type 0
-- its bytes aren't UTF-8
ManifestFault code.NotUtf8 rules kind alg bytes f =
    (f.line ≡ 0) × (f.detail ≡ []) × IsNoText bytes
-- a line reads, and one before it names its path
ManifestFault code.NamedAgain rules kind alg bytes f =
    let all = lines_of_file bytes in
    (line : List ℕ) × (digest : List ℕ) × IsLine all f.line line
    × ReadsManifest rules kind alg line digest f.detail
    × Contains (named_before rules kind alg all f.line) f.detail
-- a line doesn't read
ManifestFault code.ManifestLine rules kind alg bytes f =
    HasUnreadLine code.ManifestLine rules kind alg bytes f
ManifestFault code.DigestLength rules kind alg bytes f =
    HasUnreadLine code.DigestLength rules kind alg bytes f
ManifestFault code.ManifestEscape rules kind alg bytes f =
    HasUnreadLine code.ManifestEscape rules kind alg bytes f
ManifestFault code.ManifestUnsafePath rules kind alg bytes f =
    HasUnreadLine code.ManifestUnsafePath rules kind alg bytes f
ManifestFault code.ManifestOutsidePayload rules kind alg bytes f =
    HasUnreadLine code.ManifestOutsidePayload rules kind alg bytes f
ManifestFault code.TagmanifestNamesPayload rules kind alg bytes f =
    HasUnreadLine code.TagmanifestNamesPayload rules kind alg bytes f
ManifestFault code.TagmanifestNamesTagmanifest rules kind alg bytes f =
    HasUnreadLine code.TagmanifestNamesTagmanifest rules kind alg bytes f
-- codes of other files
ManifestFault other rules kind alg bytes f = ⊥

abbrev pub IsManifestFault : Rules → Kind → Alg → Content → LineFault → Type 0
IsManifestFault rules kind alg bytes f = ManifestFault f.code rules kind alg bytes f
