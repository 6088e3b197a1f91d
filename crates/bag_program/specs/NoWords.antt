-- What a program does that wasn't given its words.
use Rattle.std.specs.Prelude.{ℕ, List, codes}
use Rattle.bag_program.specs.declared.no_words.NoWords.{NoWords}
use Rattle.bag_program.specs.declared.no_words.NoWords.TheVariants.{Memory, NotUtf8}

-- what is said of it, after the program's name
abbrev pub no_words_line : NoWords → List ℕ
no_words_line NotUtf8 = codes "a word isn't UTF-8\n"
no_words_line Memory = codes "out of memory\n"

-- the exit status: 3 when out of memory, and else 2
abbrev pub no_words_status : NoWords → ℕ
no_words_status NotUtf8 = 2
no_words_status Memory = 3
