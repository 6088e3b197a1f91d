-- Texts that are cut at an ASCII character, or trimmed, are texts.
use Rattle.bag_tags.proofs.Common.{List, [], arith, drop-append-add, get_or, length, refl, subst, sym, ℕ, ◌++◌, ◌+◌}
use Rattle.std.proofs.lemmas.List.{length-append}
use Rattle.bag_tags.proofs.Common.{◌<◌, ◌∷◌, ◌≡◌, IsUtf8, AllByRecursion}
use Rattle.std.proofs.lemmas.Str.{IsCharBoundary-after_ascii, IsCharBoundary-before_ascii, IsUtf8-drop, IsUtf8-take}
use Rattle.std.specs.List.{join_with_byte}
use Rattle.bag_read.proofs.Fronts.{take_front}

at_seam : (xs : List ℕ) (c : ℕ) (ys : List ℕ) → get_or (xs ++ c ∷ ys) (length xs) 0 ≡ c
at_seam [] c ys = refl
at_seam (x ∷ xs) c ys = at_seam xs c ys

module _ (xs : List ℕ) (c : ℕ) (ys : List ℕ) (small : c < 128) (text : IsUtf8 (xs ++ c ∷ ys)) where
  within : length xs < length (xs ++ c ∷ ys)
  within = simp length-append (omega arith)

  ascii : get_or (xs ++ c ∷ ys) (length xs) 0 < 128
  ascii = subst (λ d. d < 128) (sym (at_seam xs c ys)) small

  -- what stands before an ASCII character is a text
  pub before_ascii : IsUtf8 xs
  before_ascii =
      subst IsUtf8 (take_front xs (c ∷ ys))
      (IsUtf8-take (xs ++ c ∷ ys) (length xs) text (IsCharBoundary-before_ascii (xs ++ c ∷ ys) (length xs) within ascii))

  -- and what stands after it
  pub after_ascii : IsUtf8 ys
  after_ascii =
      subst IsUtf8 (drop-append-add xs (c ∷ ys) 1)
      (IsUtf8-drop (xs ++ c ∷ ys) (length xs + 1) text
      (IsCharBoundary-after_ascii (xs ++ c ∷ ys) (length xs) text within ascii))

-- the parts of a text that is joined by an ASCII character are texts
pub parts_are_texts : (c : ℕ) (parts : List (List ℕ)) → c < 128 → IsUtf8 (join_with_byte c parts)
    → AllByRecursion IsUtf8 parts
parts_are_texts c [] small text = tt
parts_are_texts c (part ∷ []) small text = (text, tt)
parts_are_texts c (part ∷ next ∷ parts) small text = (
  before_ascii part c (join_with_byte c (next ∷ parts)) small text,
  parts_are_texts c (next ∷ parts) small (after_ascii part c (join_with_byte c (next ∷ parts)) small text),
)
