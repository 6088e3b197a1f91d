-- How a path is written in manifests and fetch.txt (RFC 8493, 2.1.3).
use Rattle.std.specs.Prelude.{ℕ, ◌==◌, List, [], ◌∷◌, if◌then◌else◌, codes, flat_map}
use Rattle.bag_text.specs.Bytes.{Path}
use Rattle.bag_text.specs.Lines.{line_feed, carriage_return}
use Rattle.bag_text.specs.Spelling.{percent}

-- a character as it is written: LF, CR and % escaped, in upper case
abbrev pub escape_one : ℕ → List ℕ
escape_one c =
    if c == line_feed then codes "%0A"
    else if c == carriage_return then codes "%0D"
    else if c == percent then codes "%25"
    else c ∷ []

-- a path as it is written
abbrev pub escape : Path → List ℕ
escape path = flat_map escape_one path
