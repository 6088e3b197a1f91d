-- The entry that is read of a line.
use Rattle.std.specs.Prelude.{ℕ, Bool, List, Result, Ok, Err, if◌then◌else◌}
use Rattle.bag_text.specs.Bytes.{Digest, Line, Path}
use Rattle.bag_text.specs.declared.rules.Rules.{Rules}
use Rattle.bag_text.specs.declared.code.Code.TheVariants.{NamedAgain}
use Rattle.bag_read.specs.Reason.{Reason}
use Rattle.bag_text.specs.FirstFault.{◌>>=◌}
use Rattle.bag_read.specs.declared.fetch.FetchEntry.{FetchEntry}
use Rattle.bag_text.specs.declared.alg.Alg.{Alg}
use Rattle.bag_read.specs.declared.kind.Kind.{Kind}
use Rattle.bag_entries.specs.declared.entry.ManifestEntry.{ManifestEntry}
use Rattle.bag_read.specs.Fetch.{url_of, length_of, fetch_line}
use Rattle.bag_read.specs.Manifest.{manifest_line}

-- the entry of line n that says this, where it doesn't name a path again
abbrev pub entry_unless : Bool → ℕ → Digest × Path → Result ManifestEntry Reason
entry_unless again n said =
    if again then Err (NamedAgain, said.1)
    else Ok (record { line = n; digest = said.0; path = said.1 })

-- the entry of line n, or the first reason why it isn't one, by a test whether a line names a path
-- again
abbrev pub manifest_entry_in : (ℕ → Path → Bool) → Rules → Kind → Alg → ℕ → Line
    → Result ManifestEntry Reason
manifest_entry_in names_again rules kind alg n line = do
  said ← manifest_line rules kind alg line
  entry_unless (names_again n said.1) n said

abbrev pub entry : ℕ → List ℕ → List ℕ → Path → FetchEntry
entry n url size path = record { line = n; url = url; length = size; path = path }

-- the entry of line n, or the first reason why it doesn't read
abbrev pub fetch_entry_in : Rules → ℕ → Line → Result FetchEntry Reason
fetch_entry_in rules n line = do
  path ← fetch_line rules line
  Ok (entry n (url_of line) (length_of line) path)
