-- The words that the program was started with.
use Rattle.std.specs.Prelude.{ℕ, ◌≡◌, ◌⊎◌, List, Result, Ok, Err, String, Vec, drop, map}
use Rattle.std.specs.Prelude.{string_bytes}
use Rattle.std.specs.declared.alloc.Global.{Global}
use Rattle.std.specs.declared.vec.IntoIter.{IntoIter}
use Rattle.std.specs.Vec.Iter.{into_iter_items}
use Rattle.bag_program.specs.declared.no_words.NoWords.{NoWords}
use Rattle.bag_program.specs.declared.no_words.NoWords.TheVariants.{Memory}

-- the words that were answered, the program's name first, or why there are none
abbrev pub answered : Result (IntoIter (String Global) Global) NoWords
    → Result (List (List ℕ)) NoWords
answered (Ok words) = Ok (map string_bytes (into_iter_items words))
answered (Err why) = Err why

-- what is asked are the answered words without the program's name; there are none where that was
-- answered, or when out of memory
abbrev pub MayHaveAsked : (Result (List (List ℕ)) NoWords → Type 0)
    → Result (Vec (String Global) Global) NoWords → Type 0
MayHaveAsked answers (Ok asked) =
    (words : List (List ℕ)) × answers (Ok words) × (map string_bytes asked.items ≡ drop 1 words)
MayHaveAsked answers (Err why) = answers (Err why) ⊎ (why ≡ Memory)
