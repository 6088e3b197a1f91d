-- Which entries can be written.
use Rattle.std.specs.Prelude.{ℕ, ◌≡◌, ◌==◌, ◌&&◌, ◌||◌, Bool, false, not, List, Option, Some, None}
use Rattle.std.specs.Prelude.{length, bytes_eq, map, slice_get}
use Rattle.std.specs.Char.{is_ascii_hexdigit, is_ascii_uppercase}
use Rattle.std.specs.List.{list_all, list_any, IsDistinct}
use Rattle.std.specs.Str.{byte}
use Rattle.bag_text.specs.Bytes.{Path}
use Rattle.bag_text.specs.Alg.{hex_len}
use Rattle.bag_text.specs.Path.{is_path, is_payload_path}
use Rattle.bag_text.specs.Text.{is_blank}
use Rattle.bag_text.specs.declared.alg.Alg.{Alg}
use Rattle.bag_text.specs.declared.rules.Rules.{Rules}
use Rattle.bag_text.specs.declared.rules.Rules.TheVariants.{V10}
use Rattle.bag_read.specs.ManifestName.{is_manifest_name}
use Rattle.bag_read.specs.declared.kind.Kind.{Kind}
use Rattle.bag_read.specs.declared.kind.Kind.TheVariants.{Payload, Tag}
use Rattle.bag_tags.specs.Entry.{NewEntry}
use Rattle.bag_tags.specs.PathSpelling.{is_unspelled}

abbrev pub paths : List NewEntry → List Path
paths entries = map (λ entry. entry.1) entries

-- no path stands twice
abbrev pub NamesEachOnce : List NewEntry → Type 0
NamesEachOnce entries = IsDistinct bytes_eq (paths entries)

abbrev pub is_some_mark : Option ℕ → Bool
is_some_mark None = false
is_some_mark (Some c) = is_blank c || c == byte "*"

-- a blank or a * at the front, which a reader drops before a path
abbrev pub begins_with_mark : List ℕ → Bool
begins_with_mark t = is_some_mark (slice_get t 0)

-- a payload manifest names payload files, and a tag manifest other files, but no tag manifest
abbrev pub may_name : Kind → List ℕ → Bool
may_name Payload t = is_payload_path t
may_name Tag t = is_path t && not (is_payload_path t) && not (is_manifest_name Tag t)

-- a path that no line names as it is written: it can't be spelled, or a reader drops its front
abbrev pub is_unnameable : Rules → List ℕ → Bool
is_unnameable rules t = is_unspelled rules t || begins_with_mark t

-- a text that a manifest of this kind may not name, or that doesn't stand for itself
abbrev pub is_bad_path_by : Rules → Kind → List ℕ → Bool
is_bad_path_by rules kind t = not (may_name kind t) || is_unnameable rules t

abbrev pub is_lower_hex_digit : ℕ → Bool
is_lower_hex_digit c = is_ascii_hexdigit c && not (is_ascii_uppercase c)

-- a text that isn't lower-case hex of the algorithm's length
abbrev pub is_bad_digest : Alg → List ℕ → Bool
is_bad_digest alg t = not (length t == hex_len alg) || not (list_all is_lower_hex_digit t)

-- an entry that can't be written
abbrev pub is_bad_entry_by : Rules → Kind → Alg → NewEntry → Bool
is_bad_entry_by rules kind alg entry =
    is_bad_digest alg entry.0 || is_bad_path_by rules kind entry.1

-- entries that can be written: each by itself, and each path once
abbrev pub CanWriteBy : Rules → Kind → Alg → List NewEntry → Type 0
CanWriteBy rules kind alg entries =
    (list_any (is_bad_entry_by rules kind alg) entries ≡ false) × NamesEachOnce entries

-- the same by the rules of 1.0
abbrev pub is_bad_path : Kind → List ℕ → Bool
is_bad_path kind t = is_bad_path_by V10 kind t

abbrev pub is_bad_entry : Kind → Alg → NewEntry → Bool
is_bad_entry kind alg entry = is_bad_entry_by V10 kind alg entry

abbrev pub CanWrite : Kind → Alg → List NewEntry → Type 0
CanWrite kind alg entries = CanWriteBy V10 kind alg entries
