-- What lists of bytes are.
use Rattle.std.specs.Prelude.{ℕ, List}

-- where a file or a folder is: the names on the way to it, with a slash between each two
abbrev pub Path : Type 0
Path = List ℕ

-- the name of a file or a folder in the folder that has it
abbrev pub Name : Type 0
Name = List ℕ

-- all bytes of a file
abbrev pub Content : Type 0
Content = List ℕ

-- a line of a text, without its end
abbrev pub Line : Type 0
Line = List ℕ

-- a digest as a manifest spells it, in hex
abbrev pub Digest : Type 0
Digest = List ℕ
