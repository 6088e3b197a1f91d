-- Each line that isn't blank has one place.
use Rattle.bag_read.proofs.Common.{Bool, List, None, Option, Some, ap, arith, false, get_or, inl, inr, refl, subst, suc}
use Rattle.bag_read.proofs.Common.{sym, take, true, zero, ℕ, ◌-◌, ◌<◌, ◌∙◌, ◌∷◌, ◌≡◌, ◌⊎◌, cases_Bool, cases_lt}
use Rattle.bag_read.proofs.Common.{get_or-take, length-take, list_any_at, list_any_none, get_or_from_slice_get}
use Rattle.bag_read.proofs.Common.{slice_get-get_or, slice_get_within, list_any, slice_get, IsLine, lines_of_file}
use Rattle.bag_read.proofs.Common.{begins_with_blank, is_blank_line, Rules, DoesNotSplit, IsElement, IsOrphan}
use Rattle.bag_read.proofs.Common.{begins_element, continuations, is_continuation, split, value_of_parts}
use Rattle.bag_read.proofs.Common.{EachLineHasOnePlace, Continues, IsLineAbove, IsFaultOf, IsFirstOf, IsPartOf}
use Rattle.bag_read.proofs.Common.{IsPassedOver, wrong, Element, LineFault}
use Rattle.bag_read.proofs.Reason.{clash}

same_line : (all : List (List ℕ)) (k : ℕ) (a b : List ℕ) → IsLine all k a → IsLine all k b → a ≡ b
same_line all k a b at there = cc

-- a line that isn't blank begins an element or is a continuation
kind : (line : List ℕ) → is_blank_line line ≡ false → (begins_element line ≡ true) ⊎ (is_continuation line ≡ true)
kind line e = grind (arith, is_blank_line, begins_with_blank)

-- and not both
pub never_both : (line : List ℕ) → begins_element line ≡ true → is_continuation line ≡ true → ⊥
never_both line e f = grind (arith, is_blank_line, begins_with_blank)

one_kind : (all : List (List ℕ)) (k : ℕ) (a b : List ℕ) → IsLine all k a → begins_element a ≡ true → IsLine all k b
    → is_continuation b ≡ true → ⊥
one_kind all k a b s e t f = never_both b (ap begins_element (sym (same_line all k a b s t)) ∙ e) f

-- whether a line among the first passes a test
module _ (p : List ℕ → Bool) where
  none_any : (m : ℕ) (all : List (List ℕ))
      → ((i : ℕ) (line : List ℕ) → i < m → slice_get all i ≡ Some line → p line ≡ false)
      → list_any p (take m all) ≡ false
  none_any m all h =
      list_any_none p (take m all) (λ i d low.
      let short = length-take m all in
      rw (get_or-take m all i d (omega arith))
      (h i (get_or all i d) (omega arith) (slice_get-get_or all i d (omega arith))))

  any_none : (m : ℕ) (all : List (List ℕ)) (i : ℕ) (line : List ℕ) → list_any p (take m all) ≡ false → i < m
      → slice_get all i ≡ Some line → p line ≡ false
  any_none m all i line e l at =
      grind (
        arith,
        list_any_at p (take m all) i line,
        length-take,
        get_or-take,
        slice_get_within all i line at,
        get_or_from_slice_get all i line line at,
      )

module _ (rules : Rules) (all : List (List ℕ)) where
  abbrev Begins : ℕ → Type 0
  Begins n = (line : List ℕ) × IsLine all n line × (begins_element line ≡ true)

  begins_by : (n : ℕ) (o : Option (List ℕ)) → slice_get all (n - 1) ≡ o
      → Begins n ⊎ ((line : List ℕ) → IsLine all n line → begins_element line ≡ false)
  begins_by n None e = inr (λ line (some, at). cc)
  begins_by n (Some line) e = grind (arith, cases_Bool (begins_element line), cases_lt 0 n)

  begins_or_not : (n : ℕ) → Begins n ⊎ ((line : List ℕ) → IsLine all n line → begins_element line ≡ false)
  begins_or_not n = begins_by n (slice_get all (n - 1)) refl

  -- the line above a line, or none of those before it begins an element
  above : (k : ℕ) → ((j : ℕ) × IsLineAbove all k j)
      ⊎ ((i : ℕ) (line : List ℕ) → i < k → IsLine all i line → begins_element line ≡ false)
  above zero = inr (λ i line l at. absurd (omega (arith, l)))
  above (suc k) =
      elim (begins_or_not k) [
        | inl is ↦ inl (k, (omega arith, is, λ i line a b at. absurd (omega (arith, a, b))))
        | inr other ↦ elim (above k) [
          | inl (j, (low, is, none)) ↦ inl (j, (omega (arith, low), is, λ i line a b at. grind (arith, cases_lt i k)))
          | inr none ↦ inr (λ i line b at. grind (arith, cases_lt i k))
        ]
      ]

  pub above_or_none : (k : ℕ) → ((j : ℕ) × IsLineAbove all k j) ⊎ (list_any begins_element (take (k - 1) all) ≡ false)
  above_or_none k =
      elim (above k) [
        | inl is ↦ inl is
        | inr none ↦ inr
            (none_any begins_element (k - 1) all (λ i line l at.
            let back : i ≡ suc i - 1 =
            omega arith in none (suc i) line (omega (arith, l))
            (omega arith, ap (slice_get all) (sym back) ∙ at)))
      ]

  -- a continuation below a line is no orphan
  never_orphan : (k j : ℕ) (line : List ℕ) → IsLineAbove all k j → IsOrphan all k line → ⊥
  never_orphan k j line (l, (text, (some, at), begins), none) (continues, lacks) = grind (arith, clash, any_none)

  -- only one line is above a line
  one_above : (k i j : ℕ) → IsLineAbove all k i → IsLineAbove all k j → i ≡ j
  one_above k i j (a, (text, at, begins), none) (b, (other, there, starts), nothing) = grind (arith, cases_lt, clash)

  same_element : (d e : Element) → IsElement rules all d → IsElement rules all e → d.line ≡ e.line → d ≡ e
  same_element d e (a, p, at, begins, splits, value) (b, q, there, starts, parts, whole) n = grind (arith, same_line)

  pub one_element : (k : ℕ) (d e : Element) → IsFirstOf rules all k d ⊎ IsPartOf rules all k d
      → IsFirstOf rules all k e ⊎ IsPartOf rules all k e → d ≡ e
  one_element k d e x y = grind (arith, one_kind, one_above, same_element)

module _ (rules : Rules) (bytes : List ℕ) where
  abbrev lines : List (List ℕ)
  lines = lines_of_file bytes

  -- what is wrong with a line
  abbrev Wrong : ℕ → Type 0
  Wrong k = (line : List ℕ) × IsLine lines k line × (DoesNotSplit rules line ⊎ IsOrphan lines k line)

  wrong_line : (k : ℕ) (f : LineFault) → IsFaultOf rules bytes k f → 0 < k → Wrong k
  wrong_line k f is some = grind arith

  fault_at : (k : ℕ) → Wrong k → (f : LineFault) × IsFaultOf rules bytes k f
  fault_at k (line, at, why) = (wrong k, ((line, refl, at, why), refl))

  -- an element's first line is not wrong
  split_or_wrong : (k : ℕ) (e : Element) → IsElement rules lines e → e.line ≡ k → 0 < k → Wrong k → ⊥
  split_or_wrong k e is n some wrong = grind (arith, same_line, one_kind)

  -- nor is a continuation below a line
  below_or_wrong : (k j : ℕ) → Continues lines k j → Wrong k → ⊥
  below_or_wrong k j ((text, here, continues), above) (line, at, why) =
      grind (arith, one_kind lines k line text at, never_orphan rules lines k j line above)

  first_or_below : (k j : ℕ) (e : Element) → IsFirstOf rules lines k e → Continues lines k j → ⊥
  first_or_below k j e (is, n) ((text, here, continues), above) =
      one_kind lines k is.0 text (subst (λ m. IsLine lines m is.0) n is.2) is.3 here continues

  part_or_passed : (k : ℕ) (e : Element) (f : LineFault) → IsPartOf rules lines k e → IsPassedOver rules bytes k f → ⊥
  part_or_passed k e f (is, (goes, above)) (other, (continues, over)) =
      grind (arith, one_above rules lines k e.line f.line above over, split_or_wrong f.line e is, wrong_line f.line f)

  abbrev SomePlace : ℕ → Type 0
  SomePlace k =
      ((e : Element) × IsFirstOf rules lines k e)
      ⊎ (((e : Element) × IsPartOf rules lines k e)
      ⊎ (((f : LineFault) × IsFaultOf rules bytes k f) ⊎ ((f : LineFault) × IsPassedOver rules bytes k f)))

  begun_at : (k : ℕ) (line : List ℕ) (s : Option (List ℕ × List ℕ)) → IsLine lines k line → begins_element line ≡ true
      → split rules line ≡ s
      → ((e : Element) × IsFirstOf rules lines k e) ⊎ ((f : LineFault) × IsFaultOf rules bytes k f)
  begun_at k line None at begins splits = inr (fault_at k (line, at, inl (begins, splits)))
  begun_at k line (Some x) at begins splits =
      inl (
        record { line = k; label = x.0; value = value_of_parts (x.1 ∷ continuations lines k) },
        ((line, x.1, at, begins, splits, refl), refl),
      )

  some_place : (k : ℕ) (line : List ℕ) → IsLine lines k line → is_blank_line line ≡ false → SomePlace k
  some_place k line at text =
      elim (kind line text) [
        | inl begins ↦ elim (begun_at k line (split rules line) at begins refl)
            [ inl is ↦ inl is | inr is ↦ inr (inr (inl is)) ]
        | inr continues ↦ elim (above_or_none rules lines k) [
          | inl (j, above) ↦ elim (begun_at j above.1.0 (split rules above.1.0) above.1.1 above.1.2 refl) [
            | inl (e, (is, n)) ↦ inr (inl (e, (is, rw n ((line, at, continues), above))))
            | inr (f, (is, n)) ↦ inr (inr (inr (f, (is, rw n ((line, at, continues), above)))))
          ]
          | inr none ↦ inr (inr (inl (fault_at k (line, at, inr (continues, none)))))
        ]
      ]

pub one_place : EachLineHasOnePlace
one_place rules bytes k line at text = (
  some_place rules bytes k line at text,
  λ (e, is) (d, part). first_or_below rules bytes k d.line e is part.1,
  λ (e, is) (f, fault). split_or_wrong rules bytes k e is.0 is.1 at.0 (wrong_line rules bytes k f fault at.0),
  λ (e, is) (f, over). first_or_below rules bytes k f.line e is over.1,
  λ (e, part) (f, fault). below_or_wrong rules bytes k e.line part.1 (wrong_line rules bytes k f fault at.0),
  λ (e, part) (f, over). part_or_passed rules bytes k e f part over,
  λ (g, fault) (f, over). below_or_wrong rules bytes k f.line over.1 (wrong_line rules bytes k g fault at.0),
)
