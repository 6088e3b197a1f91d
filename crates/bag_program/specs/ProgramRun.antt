-- What a program does for the words that it was started with.
use Rattle.std.specs.Prelude.{◌⊎◌, ℕ, List, Result, Ok, Err, drop}
use Rattle.bag_program.specs.Deeds.{IsNothing}
use Rattle.bag_program.specs.InTurn.{Deed}
use Rattle.bag_program.specs.NoWords.{no_words_status}
use Rattle.bag_program.specs.declared.no_words.NoWords.{NoWords}

-- what a program does for an answer: what the words ask for without the program's name; where there
-- are none, nothing is written
abbrev pub IsDoneFor : (List (List ℕ) → Deed) → Result (List (List ℕ)) NoWords → Deed
IsDoneFor Does (Err why) before after visits n =
    IsNothing (no_words_status why) before after visits n
IsDoneFor Does (Ok words) before after visits n = Does (drop 1 words) before after visits n

-- A program was given one of these answers, and did what it asks for; or memory for the words ran
-- out, and then nothing is written.
abbrev pub IsRun : (Result (List (List ℕ)) NoWords → Type 0) → (List (List ℕ) → Deed) → Deed
IsRun answers Does before after visits n =
    IsNothing 3 before after visits n
    ⊎ ((answer : Result (List (List ℕ)) NoWords) × answers answer
    × IsDoneFor Does answer before after visits n)
