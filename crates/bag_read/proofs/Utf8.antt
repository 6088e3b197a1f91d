-- Bytes that are UTF-8, and bytes that aren't: what is read of them.
use Rattle.bag_read.proofs.Common.{List, None, Result, Some, ap, arith, cond, subst, sym, ℕ, ◌-◌, ◌∙◌, ◌≡◌, IfOk-weaker}
use Rattle.bag_read.proofs.Common.{slice_get, IfOk, is_utf8, Ordering, IsLine, lines, lines_of_file, lines_of_text}
use Rattle.bag_read.proofs.Common.{IsListOf, IsNoText, IsText, text_of, without_mark}

pub is_text : (bytes t : List ℕ) → text_of bytes ≡ Some t → IsText bytes
is_text bytes t h = grind (arith, is_utf8)

pub is_no_text : (bytes : List ℕ) → text_of bytes ≡ None → IsNoText bytes
is_no_text bytes h = grind (arith, is_utf8)

-- bytes that aren't UTF-8 have no line
pub no_line : (bytes : List ℕ) → IsNoText bytes → (k : ℕ) (line : List ℕ) → IsLine (lines_of_file bytes) k line → ⊥
no_line bytes other k line (some, e) =
    let clash : None ≡ Some line =
    sym (ap (λ b. slice_get (lines_of_text (cond b (Some (without_mark bytes)) None)) (k - 1)) other) ∙ e in cc

module _ {A X Y : Type 0} (cmp : A → A → Ordering) (Member : A → Type 0) (r : Result X Y) (of : X → List A) where
  -- a list that was read is the list of these, where the right one is
  pub listed_so : (xs : List A) → IsListOf cmp Member xs → IfOk r (λ x. of x ≡ xs)
      → IfOk r (λ x. IsListOf cmp Member (of x))
  listed_so xs exact = IfOk-weaker r _ _ (λ x e. subst (IsListOf cmp Member) (sym e) exact)

  -- what is read of the lines of a text is read of the lines of the bytes
  pub listed_of_text : (bytes text : List ℕ) (list : List (List ℕ) → List A) → text_of bytes ≡ Some text
      → IsListOf cmp Member (list (lines_of_file bytes)) → IfOk r (λ x. of x ≡ list (lines text))
      → IfOk r (λ x. IsListOf cmp Member (of x))
  listed_of_text bytes text list is exact =
      listed_so (list (lines text)) (subst (λ t. IsListOf cmp Member (list (lines_of_text t))) is exact)
