-- The faults of the declaration: first of the whole file, then of each line (RFC 8493, 2.1.1).
use Rattle.std.specs.Prelude.{ℕ, ◌==◌, List, [], ◌++◌, length, Option, Some, None, nat_le}
use Rattle.std.specs.Prelude.{option_and_then, slice_get, codes, decimal, if◌then◌else◌}
use Rattle.std.specs.Option.{option_to_list}
use Rattle.bag_text.specs.Bytes.{Content, Line}
use Rattle.bag_text.specs.Text.{has_mark, same_label}
use Rattle.bag_text.specs.declared.code.Code.TheVariants.{DeclarationNotUtf8, DeclarationLineCount}
use Rattle.bag_text.specs.declared.code.Code.TheVariants.{DeclarationLine, VersionUnsupported}
use Rattle.bag_text.specs.declared.code.Code.TheVariants.{EncodingUnsupported}
use Rattle.bag_read.specs.LineFault.{line_fault}
use Rattle.bag_read.specs.declared.line_fault.LineFault.{LineFault}
use Rattle.bag_read.specs.Declaration.{version_of, encoding_of, is_supported_version}

-- bytes that aren't UTF-8
abbrev pub utf8_fault : LineFault
utf8_fault = line_fault 0 DeclarationNotUtf8 (codes "utf8")

-- a byte order mark
abbrev pub mark_fault : Content → Option LineFault
mark_fault bytes =
    if has_mark bytes then Some (line_fault 0 DeclarationNotUtf8 (codes "bom")) else None

-- another number of lines than two
abbrev pub count_fault : ℕ → Option LineFault
count_fault count =
    if count == 2 then None else Some (line_fault 0 DeclarationLineCount (decimal count))

-- a version that isn't read or isn't supported
abbrev pub version_fault : Option (List ℕ) → Option LineFault
version_fault None = Some (line_fault 1 DeclarationLine [])
version_fault (Some version) =
    if is_supported_version version then None else Some (line_fault 1 VersionUnsupported version)

-- an encoding that isn't read or isn't UTF-8
abbrev pub encoding_fault : Option (List ℕ) → Option LineFault
encoding_fault None = Some (line_fault 2 DeclarationLine [])
encoding_fault (Some encoding) =
    if same_label encoding (codes "UTF-8") then None
    else Some (line_fault 2 EncodingUnsupported encoding)

-- the fault of line k of n lines
abbrev pub on_line : ℕ → ℕ → Option LineFault → Option LineFault
on_line k count fault = if nat_le k count then fault else None

-- the faults of a file that is UTF-8, with this version and this encoding, where their lines read
abbrev pub faults_of : Content → ℕ → Option (List ℕ) → Option (List ℕ) → List LineFault
faults_of bytes count version encoding =
    option_to_list (mark_fault bytes) ++ option_to_list (count_fault count)
    ++ option_to_list (on_line 1 count (version_fault version))
    ++ option_to_list (on_line 2 count (encoding_fault encoding))

abbrev pub text_faults : Content → List Line → List LineFault
text_faults bytes all =
    faults_of bytes (length all) (option_and_then version_of (slice_get all 0))
    (option_and_then encoding_of (slice_get all 1))
