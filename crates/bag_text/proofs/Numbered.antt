-- Lines with their numbers.
use Rattle.bag_text.proofs.Common.{List, arith, get_or, length, refl, ℕ, ◌+◌, ◌-◌, ◌<◌, ◌≡◌, enumerate_from, Contains}
use Rattle.bag_text.proofs.Common.{IsLine}
use Rattle.std.proofs.lemmas.Option.{slice_get_within, slice_get-get_or, get_or_from_slice_get}
use Rattle.std.proofs.lemmas.List.FromFn.{length-enumerate_from, get_or-enumerate_from}

-- numbering drops and adds no line
pub length-numbered : (n : ℕ) (all : List (List ℕ)) → length (enumerate_from n all) ≡ length all
length-numbered n all = length-enumerate_from n all

-- the item at a place
pub numbered_at : (all : List (List ℕ)) (i : ℕ) (d : ℕ × List ℕ) → i < length all
    → get_or (enumerate_from 1 all) i d ≡ (i + 1, get_or all i d.1)
numbered_at all i d l = grind (arith, get_or-enumerate_from)

-- the line at a place has the next number
pub line_at : (all : List (List ℕ)) (i : ℕ) (d : List ℕ) → i < length all → IsLine all (i + 1) (get_or all i d)
line_at all i d l = grind (arith, slice_get-get_or)

-- each numbered line is the line of its number
pub numbered_is_line : (all : List (List ℕ)) (k : ℕ) (line : List ℕ) → Contains (enumerate_from 1 all) (k, line)
    → IsLine all k line
numbered_is_line all k line (i, within, same) = grind (arith, length-numbered, numbered_at, line_at)

-- and each line of a number is numbered so
pub line_is_numbered : (all : List (List ℕ)) (k : ℕ) (line : List ℕ) → IsLine all k line
    → Contains (enumerate_from 1 all) (k, line)
line_is_numbered all k line (some, e) =
    let l : k - 1 < length all = slice_get_within all (k - 1) line e in
    let step : (k - 1) + 1 ≡ k = omega arith in (
      k - 1,
      omega (arith, length-numbered 1 all),
      rw (numbered_at all (k - 1) (k, line) l, step, get_or_from_slice_get all (k - 1) line line e) refl,
    )
