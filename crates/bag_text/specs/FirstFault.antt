-- Reading one thing after another, where the first fault is the answer.
use Rattle.std.specs.Prelude.{Result, Ok, Err}

-- the second is read of what the first is, unless that has a fault
infixl 10 ◌>>=◌
abbrev pub ◌>>=◌ : {A B E : Type 0} → Result A E → (A → Result B E) → Result B E
(Ok x) >>= f = f x
(Err fault) >>= f = Err fault
