use Rattle.bag_read.proofs.Common.{List, None, Option, Some, arith, inl, inr, refl, ℕ, ◌≡◌, ◌⊎◌, ◌↔◌, IsLine}
use Rattle.bag_read.proofs.Common.{lines_of_file, IsUnreadLine, encoding_of, version_of, DeclaresNone, DeclaresOne}
use Rattle.bag_read.proofs.Common.{IsEncodingLine, IsFaulty, IsVersionLine}
use Rattle.bag_read.proofs.DeclarationLineParts.{version_lines, encoding_lines}
use Rattle.bag_read.proofs.laws.lines_declare_or_are_faulty.Goals as goal

-- A line of the declaration declares one text, or is faulty.

-- where a line declares what is read of it, and is faulty just where nothing is read of it
module _ (Declares : List ℕ → List ℕ → Type 0) (reading : List ℕ → Option (List ℕ))
    (parts : (line text : List ℕ) → (reading line ≡ Some text) ↔ Declares line text)
    (bytes : List ℕ) (number : ℕ) (unread : IsFaulty bytes number ↔ IsUnreadLine reading bytes number) where
  by_reading : (line : List ℕ) (o : Option (List ℕ)) → IsLine (lines_of_file bytes) number line → reading line ≡ o
      → DeclaresOne Declares bytes number line ⊎ DeclaresNone Declares bytes number line
  by_reading line (Some text) there r = inl (
    text,
    (parts line text).0 r,
    λ other d. let is = (parts line other).1 d in cc,
    λ faulty. let some = unread.0 faulty in cc,
  )
  by_reading line None there r = inr (unread.1 (line, there, r), λ text d. let is = (parts line text).1 d in cc)

  one_or_faulty : (line : List ℕ) → IsLine (lines_of_file bytes) number line
      → DeclaresOne Declares bytes number line ⊎ DeclaresNone Declares bytes number line
  one_or_faulty line there = by_reading line (reading line) there refl

pub returns : goal.returns
returns c = (
  λ bytes. one_or_faulty IsVersionLine version_of version_lines bytes 1 (grind arith),
  λ bytes. one_or_faulty IsEncodingLine encoding_of encoding_lines bytes 2 (grind arith),
)
