-- How a program was run.
use Rattle.bag_program.proofs.Common.{◌≡◌, inr, ℕ, List, map, drop, string_bytes, Ok, Result, OutState, Event, HasVisited}
use Rattle.std.specs.Prelude.{String}
use Rattle.std.specs.declared.alloc.Global.{Global}
use Rattle.bag_program.specs.InTurn.{Deed}
use Rattle.bag_program.specs.ProgramRun.{IsRun}
use Rattle.bag_program.specs.declared.no_words.NoWords.{NoWords}

-- it did what the words that were asked for say
pub words_run : {answers : Result (List (List ℕ)) NoWords → Type 0} (Does : List (List ℕ) → Deed)
    (old : List Event) (asked : List (String Global)) {new : List Event} {before after : OutState} {n : ℕ}
    → ((words : List (List ℕ)) × answers (Ok words) × (map string_bytes asked ≡ drop 1 words))
    → HasVisited old new (λ own. Does (map string_bytes asked) before after own n)
    → HasVisited old new (λ own. IsRun answers Does before after own n)
words_run Does old asked (words, answered, same) (own, visited, done) =
    (own, visited, inr (Ok words, answered, rw same at done))
