-- Entries of a manifest that name a path again (RFC 8493, 2.1.3).
use Rattle.std.specs.Prelude.{ℕ, ◌≡◌, ◌≢◌, ◌+◌, ◌<◌, List, length, Some, slice_get}
use Rattle.std.specs.Prelude.{slice_index_or}
use Rattle.std.specs.Hash.FoldHasher.{initial, write, finish}
use Rattle.std.specs.declared.cmp.Ordering.TheVariants.{Less}
use Rattle.bag_text.specs.Bytes.{Path}
use Rattle.bag_text.specs.Text.{text_cmp}
use Rattle.bag_entries.specs.declared.entry.ManifestEntry.{ManifestEntry}

-- A number of a text, the same for equal texts: it lets a sort tell most texts apart without
-- reading them again.
unfoldable pub fingerprint : List ℕ → ℕ
fingerprint t = finish (write initial t)

abbrev pub mark_of : ManifestEntry → ℕ
mark_of entry = fingerprint entry.path

-- no two of them name the same path
abbrev pub AreDifferent : List ManifestEntry → Type 0
AreDifferent entries =
    (i j : ℕ) (d : ManifestEntry) → i < j → j < length entries
    → (slice_index_or entries i d).path ≢ (slice_index_or entries j d).path

-- the paths ascend
abbrev pub PathsAscend : List ManifestEntry → Type 0
PathsAscend entries =
    (k : ℕ) (d : ManifestEntry) → k + 1 < length entries
    → text_cmp (slice_index_or entries k d).path (slice_index_or entries (k + 1) d).path ≡ Less

-- an entry at a place below this one names the path
abbrev pub NamesBelow : List ManifestEntry → ℕ → Path → Type 0
NamesBelow entries k path =
    (i : ℕ) × (e : ManifestEntry) × (i < k) × (slice_get entries i ≡ Some e) × (e.path ≡ path)

-- an entry at a place below this one is of this line, and an entry before it names its path
abbrev pub RepeatsBelow : List ManifestEntry → ℕ → ℕ → Type 0
RepeatsBelow entries k n =
    (i : ℕ) × (e : ManifestEntry) × (i < k) × (slice_get entries i ≡ Some e) × (e.line ≡ n)
    × NamesBelow entries i e.path

-- the line names the path of an entry before it
abbrev pub IsRepeatedLine : List ManifestEntry → ℕ → Type 0
IsRepeatedLine entries n = RepeatsBelow entries (length entries) n
