-- Lines that are written, each with an LF after it, are the lines that are read.
use Rattle.bag_tags.proofs.Common.{List, Some, [], ap, append_assoc, arith, codes, drop, false, flat_map, map, refl}
use Rattle.bag_tags.proofs.Common.{subst, true, ℕ, ◌++◌, ◌∙◌, ◌∷◌, ◌≡◌, nat_tests, All-drop, All-from_recursion}
use Rattle.bag_tags.proofs.Common.{recursion_from_All, get_or_from_slice_get, slice_get-map, slice_get_within}
use Rattle.bag_tags.proofs.Common.{IsUtf8-append, IsUtf8-from_is_utf8, IsUtf8-nil, is_utf8-from_IsUtf8, AllByRecursion}
use Rattle.bag_tags.proofs.Common.{list_any, slice_get, IsUtf8, or_false, is_line_end, HasNoEnd, IsLine, line_feed}
use Rattle.bag_tags.proofs.Common.{lines, lines_of_file, escape, IsText, has_mark, StandsOn}
use Rattle.std.specs.Char.{encode_utf8}
use Rattle.std.specs.Str.{is_utf8, chars}
use Rattle.bag_text.proofs.FirstLine.{lines_split}
use Rattle.bag_text.proofs.LineLaws.{IsPlain}

plain_one : (c : ℕ) → is_line_end c ≡ false → IsPlain c
plain_one c e = (λ feed. grind (arith, nat_tests), λ back. grind (arith, nat_tests))

plain_each : (t : List ℕ) → list_any is_line_end t ≡ false → AllByRecursion IsPlain t
plain_each [] e = tt
plain_each (c ∷ t) e =
    let two = or_false (is_line_end c) (list_any is_line_end t) e in (plain_one c two.0, plain_each t two.1)

-- a text without a line end is one line
pub no_end : (t : List ℕ) → list_any is_line_end t ≡ false → HasNoEnd t
no_end t e = All-from_recursion IsPlain t (plain_each t e)

-- what is written between texts and for characters that are escaped
pub few_utf8 : IsUtf8 (line_feed ∷ []) × IsUtf8 (codes ": ") × IsUtf8 (codes "  ") × IsUtf8 (escape (encode_utf8 10))
    × IsUtf8 (escape (encode_utf8 13)) × IsUtf8 (escape (encode_utf8 37))
unfolding is_utf8 chars encode_utf8
few_utf8 =
    let text = λ (t : List ℕ) (e : is_utf8 t ≡ true). IsUtf8-from_is_utf8 t e in
    (text _ refl, text _ refl, text _ refl, text (codes "%0A") refl, text (codes "%0D") refl, text (codes "%25") refl)

-- what is known of each element of a list is known of those after
pub behind : {A : Type 0} (P : A → Type 0) (k : ℕ) (xs : List A) → AllByRecursion P xs → AllByRecursion P (drop k xs)
behind P k xs all = recursion_from_All P (drop k xs) (All-drop P k xs (All-from_recursion P xs all))

pub at_place : {A : Type 0} (P : A → Type 0) (xs : List A) (k : ℕ) (x : A) → AllByRecursion P xs
    → slice_get xs k ≡ Some x → P x
at_place P xs k x all e =
    subst P (get_or_from_slice_get xs k x x e) (All-from_recursion P xs all k x (slice_get_within xs k x e))

-- two texts
abbrev Pair : Type 0
Pair = List ℕ × List ℕ

module _ {A : Type 0} (line : A → List ℕ) where
  -- a line that is written
  abbrev pub IsWritten : A → Type 0
  IsWritten x =
      IsUtf8 (line x) × (list_any is_line_end (line x) ≡ false) × ((rest : List ℕ) → has_mark (line x ++ rest) ≡ false)

  abbrev pub text : List A → List ℕ
  text items = flat_map (λ x. line x ++ line_feed ∷ []) items

  text_utf8 : (items : List A) → AllByRecursion IsWritten items → IsUtf8 (text items)
  text_utf8 [] all = IsUtf8-nil
  text_utf8 (x ∷ xs) all =
      IsUtf8-append (line x ++ line_feed ∷ []) (text xs) (IsUtf8-append (line x) (line_feed ∷ []) all.0.0 few_utf8.0)
      (text_utf8 xs all.1)

  pub is_text : (items : List A) → AllByRecursion IsWritten items → IsText (text items)
  is_text items all = is_utf8-from_IsUtf8 (text items) (text_utf8 items all)

  no_mark : (items : List A) → AllByRecursion IsWritten items → has_mark (text items) ≡ false
  no_mark [] all = refl
  no_mark (x ∷ xs) all =
      ap has_mark (append_assoc (line x) (line_feed ∷ []) (text xs)) ∙ all.0.2 (line_feed ∷ [] ++ text xs)

  lines_again : (items : List A) → AllByRecursion IsWritten items → lines (text items) ≡ map line items
  lines_again [] all = refl
  lines_again (x ∷ xs) all = grind (arith, lines_split, no_end, lines_again xs all.1)

  pub file_lines : (items : List A) → AllByRecursion IsWritten items → lines_of_file (text items) ≡ map line items
  file_lines items all = grind (arith, is_text, no_mark, lines_again)

module _ (line : Pair → List ℕ) where
  -- a line that is read is that of an item, on its place
  pub line_of_item : (items : List Pair) (n : ℕ) (l : List ℕ) → IsLine (map line items) n l
      → (x : Pair) × StandsOn items n x × (l ≡ line x)
  line_of_item items n l (some, e) = grind (arith, slice_get-map)

  pub item_on_line : (items : List Pair) (n : ℕ) (x : Pair) → StandsOn items n x → IsLine (map line items) n (line x)
  item_on_line items n x (k, at, here) = grind (arith, slice_get-map)
