-- The entries that are written to a manifest (RFC 8493, 2.1.3 and 2.2.1).
use Rattle.std.specs.Prelude.{ℕ, List, ◌∷◌, [], ◌++◌, codes, flat_map}
use Rattle.bag_text.specs.Bytes.{Content, Digest, Path}
use Rattle.bag_text.specs.Lines.{line_feed}
use Rattle.bag_text.specs.declared.rules.Rules.{Rules}
use Rattle.bag_text.specs.declared.rules.Rules.TheVariants.{V10}
use Rattle.bag_tags.specs.PathSpelling.{spelled}

-- a digest, and the path of the file that it is of
abbrev pub NewEntry : Type 0
NewEntry = Digest × Path

-- the digest, two spaces, and the path as the rules spell it
abbrev pub entry_line_by : Rules → NewEntry → List ℕ
entry_line_by rules entry = entry.0 ++ codes "  " ++ spelled rules entry.1

-- a line for each entry, in their order
abbrev pub manifest_text_by : Rules → List NewEntry → Content
manifest_text_by rules entries =
    flat_map (λ entry. entry_line_by rules entry ++ line_feed ∷ []) entries

-- the same by the rules of 1.0: in the path LF, CR and % are escaped
abbrev pub entry_line : NewEntry → List ℕ
entry_line entry = entry_line_by V10 entry

abbrev pub manifest_text : List NewEntry → Content
manifest_text entries = manifest_text_by V10 entries
