-- The lines of a run.
use Rattle.bag_walk.proofs.Common.{◌≡◌, ◌≢◌, ℕ, ◌∷◌, ◌<◌, ◌++◌, List, [], length, take, drop, Option, Some, refl, ap}
use Rattle.bag_walk.proofs.Common.{sym, ◌∙◌, append_assoc, append-nil, take-append-drop, length-drop, arith, slice_get}
use Rattle.bag_walk.proofs.Common.{concat, Appends, IsCutAt, IsCut, ◌+◌, None, codes, IsLineOf, Fault, IsLastLine}
use Rattle.bag_walk.proofs.Common.{IsLastOf, same_from_push, length-append}
use Rattle.bag_tree.proofs.Writing.{Appends-append}
use Rattle.bag_faults.proofs.Lines.{lines_tell_faults_apart}

pub concat_joined : (xs ys : List (List ℕ)) → concat (xs ++ ys) ≡ concat xs ++ concat ys
concat_joined [] ys = refl
concat_joined (x ∷ xs) ys = ap (λ rest. x ++ rest) (concat_joined xs ys) ∙ sym (append_assoc x (concat xs) (concat ys))

-- lines, and one after them
pub concat-append_one : (lines : List (List ℕ)) (line : List ℕ) → concat (lines ++ line ∷ []) ≡ concat lines ++ line
concat-append_one lines line = concat_joined lines (line ∷ []) ∙ ap (λ rest. concat lines ++ rest) (append-nil line)

-- what is left of a line that was cut off
some_left : (line : List ℕ) (n : ℕ) → n < length line → drop n line ≢ []
some_left line n h e = absurd (omega (arith, ap length e, length-drop n line))

-- the output refused a line
pub cut_at : (lines : List (List ℕ)) (i : ℕ) (line : List ℕ) (old mid new : Option (List ℕ))
    → slice_get lines i ≡ Some line → Appends old mid (concat (take i lines)) → IsCut mid new line
    → (bytes : List ℕ) × IsCutAt i lines bytes × Appends old new bytes
cut_at lines i line old mid new at taken cut =
    let n : ℕ = cut.0 in
    let whole : slice_get lines i ≡ Some (take n line ++ drop n line) =
    at ∙ ap Some (sym (take-append-drop n line)) in (
      concat (take i lines) ++ take n line,
      (take n line, drop n line, whole, some_left line n cut.1, refl),
      Appends-append old mid new (concat (take i lines)) (take n line) taken cut.2,
    )

-- the line that was written last, read back: the fault that is read from a fault's line without its end is that fault
read_back : (f g : Fault) (text line : List ℕ) → IsLastLine (Some f) text → text ≡ line ++ codes "\n" → IsLineOf line g
    → g ≡ f
read_back f g text line (is, same) cut read = grind (arith, lines_tell_faults_apart, same_from_push)

-- and so it is read back
pub read_cursor : (last : Option Fault) (g : Fault) (text line : List ℕ) → IsLastLine last text
    → text ≡ line ++ codes "\n" → IsLineOf line g → Some g ≡ last
read_cursor None g text line is cut read =
    absurd (omega (arith, ap length (sym is ∙ cut), length-append line (codes "\n")))
read_cursor (Some f) g text line is cut read = ap Some (read_back f g text line is cut read)

pub place_behind : {A : Type 0} (given rest : List A) (f : A) → slice_get (given ++ f ∷ rest) (length given) ≡ Some f
place_behind [] rest f = refl
place_behind (g ∷ given) rest f = place_behind given rest f

-- one fault more was given
pub last_given : (given rest : List Fault) (f : Fault) (n : ℕ) (old new : List ℕ) → length given ≡ n
    → IsLastLine (Some f) new → IsLastOf ((given ++ f ∷ []) ++ rest) (n + 1) old new
last_given given rest f n old new count is = grind (arith, place_behind given rest f, slice_get, append_assoc)
