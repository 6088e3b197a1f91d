-- The declaration, bagit.txt (RFC 8493, 2.1.1).
use Rattle.std.specs.Prelude.{ℕ, ◌≡◌, ◌≢◌, ◌⊎◌, ◌==◌, ◌&&◌, ◌||◌, Bool, true, false, not, List, []}
use Rattle.std.specs.Prelude.{length, Option, Some, None, bytes_eq, codes, decimal, if◌then◌else◌}
use Rattle.std.specs.Prelude.{option_and_then, slice_get}
use Rattle.std.specs.Str.{byte}
use Rattle.std.specs.List.{before_first, after_first, list_all}
use Rattle.bag_text.specs.Bytes.{Content, Line}
use Rattle.bag_text.specs.Text.{IsText, IsNoText, after_prefix, has_mark, is_blank, same_label}
use Rattle.bag_text.specs.Text.{is_digits}
use Rattle.bag_text.specs.Lines.{lines_of_file, IsLine}
use Rattle.bag_text.specs.declared.code.Code.{Code}
use Rattle.bag_text.specs.declared.code.Code.TheVariants as code
use Rattle.bag_read.specs.declared.line_fault.LineFault.{LineFault}

-- a text, where it passes a test
abbrev pub when : (List ℕ → Bool) → List ℕ → Option (List ℕ)
when test t = if test t then Some t else None

-- digits, a dot and digits
abbrev pub is_version : List ℕ → Bool
is_version t =
    let is_dot : ℕ → Bool = λ c. c == byte "." in
    is_digits (before_first is_dot t) && is_digits (after_first is_dot t)

-- one or more characters without a blank
abbrev pub is_encoding : List ℕ → Bool
is_encoding t = not (bytes_eq t []) && list_all (λ c. not (is_blank c)) t

-- the version that line 1 declares, where it reads; equivalently, `IsVersionLine`
abbrev pub version_of : Line → Option (List ℕ)
version_of line = option_and_then (when is_version) (after_prefix (codes "BagIt-Version: ") line)

-- the encoding that line 2 declares, where it reads; equivalently, `IsEncodingLine`
abbrev pub encoding_of : Line → Option (List ℕ)
encoding_of line =
    option_and_then (when is_encoding) (after_prefix (codes "Tag-File-Character-Encoding: ") line)

-- the version that a file declares, where its line 1 reads
abbrev pub declared_version : Content → Option (List ℕ)
declared_version bytes = option_and_then version_of (slice_get (lines_of_file bytes) 0)

-- the encoding that a file declares, where its line 2 reads
abbrev pub declared_encoding : Content → Option (List ℕ)
declared_encoding bytes = option_and_then encoding_of (slice_get (lines_of_file bytes) 1)

-- the versions that are known
abbrev pub is_supported_version : List ℕ → Bool
is_supported_version version = bytes_eq version (codes "1.0") || bytes_eq version (codes "0.97")

-- line k is there and doesn't read
abbrev pub IsUnreadLine : (Line → Option (List ℕ)) → Content → ℕ → Type 0
IsUnreadLine reading bytes k =
    (line : List ℕ) × IsLine (lines_of_file bytes) k line × (reading line ≡ None)

-- what is wrong with the file: by cases on the fault's code
abbrev pub DeclarationFault : Code → Content → LineFault → Type 0
-- its bytes aren't UTF-8, or begin with a byte order mark
DeclarationFault code.DeclarationNotUtf8 bytes f =
    ((f.line ≡ 0) × (f.detail ≡ codes "utf8") × IsNoText bytes)
    ⊎ ((f.line ≡ 0) × (f.detail ≡ codes "bom") × IsText bytes × (has_mark bytes ≡ true))
-- it hasn't two lines; the detail is their number
DeclarationFault code.DeclarationLineCount bytes f =
    let count = length (lines_of_file bytes) in
    (f.line ≡ 0) × (f.detail ≡ decimal count) × IsText bytes × (count ≢ 2)
-- line 1 declares no version, or line 2 no encoding
DeclarationFault code.DeclarationLine bytes f =
    ((f.line ≡ 1) × (f.detail ≡ []) × IsUnreadLine version_of bytes 1)
    ⊎ ((f.line ≡ 2) × (f.detail ≡ []) × IsUnreadLine encoding_of bytes 2)
-- line 1 declares a version that isn't known
DeclarationFault code.VersionUnsupported bytes f =
    (f.line ≡ 1) × (declared_version bytes ≡ Some f.detail)
    × (is_supported_version f.detail ≡ false)
-- line 2 declares another encoding than UTF-8
DeclarationFault code.EncodingUnsupported bytes f =
    (f.line ≡ 2) × (declared_encoding bytes ≡ Some f.detail)
    × (same_label f.detail (codes "UTF-8") ≡ false)
-- codes of other files
DeclarationFault other bytes f = ⊥

abbrev pub IsDeclarationFault : Content → LineFault → Type 0
IsDeclarationFault bytes f = DeclarationFault f.code bytes f
