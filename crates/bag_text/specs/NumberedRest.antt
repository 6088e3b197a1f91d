-- What an iterator of lines has left.
use Rattle.std.specs.Prelude.{ℕ, List}
use Rattle.std.specs.List.{enumerate_from}
use Rattle.bag_text.specs.Bytes.{Line}
use Rattle.bag_text.specs.declared.line_cut.Lines.{Lines}
use Rattle.bag_text.specs.Lines.{lines}

-- the lines with their numbers
abbrev pub numbered_rest : Lines → List (ℕ × Line)
numbered_rest s = enumerate_from s.number (lines s.rest.now)
