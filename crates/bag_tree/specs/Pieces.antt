-- What writing a line in pieces promises.
use Rattle.std.specs.Prelude.{ℕ, ◌≡◌, ◌++◌, true, List, Option, Result, MatchResult}
use Rattle.std.specs.List.{flat_map}
use Rattle.std.specs.Borrow.{Bor}
use Rattle.std.specs.Io.KnownBytes.{Appends}
use Rattle.bag_tree.specs.Out.{IsCut, OutState}
use Rattle.bag_tree.specs.declared.out.Refused.{Refused}

-- the pieces, one after another
abbrev pub joined_pieces : List (Bor (List ℕ)) → List ℕ
joined_pieces pieces = flat_map (λ piece. piece.now) pieces

-- the front of the text was taken, and this is the rest
pub record IsTaken (old new : Option (List ℕ)) (text rest : List ℕ) : Type 0 where
  pub front : List ℕ
  pub joins : text ≡ front ++ rest
  pub taken : Appends old new front

-- Ok: all of these bytes were taken, as far as it is known what is. A refusal: a proper prefix of
-- them was, and the output has refused.
abbrev pub Writes : OutState → OutState → List ℕ → Result (Unit {0}) Refused → Type 0
Writes old new text result = MatchResult result
    (λ _. Appends old.taken new.taken text)
    (λ _. IsCut old.taken new.taken text × (new.has_refused ≡ true))
