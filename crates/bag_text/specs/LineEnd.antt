-- The ends of lines (RFC 8493, 2.3).
use Rattle.std.specs.Prelude.{ℕ, ◌+◌, Bool, ◌==◌, ◌||◌, ◌&&◌, List, if◌then◌else◌, slice_index}
use Rattle.bag_text.specs.Lines.{line_feed, carriage_return}

-- LF or CR
abbrev pub is_line_end : ℕ → Bool
is_line_end c = c == line_feed || c == carriage_return

-- how many bytes the line end at this place takes: two where it is CRLF
abbrev pub end_len : List ℕ → ℕ → ℕ
end_len t i =
    if slice_index t i == carriage_return && slice_index t (i + 1) == line_feed then 2 else 1
