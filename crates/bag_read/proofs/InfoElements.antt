-- The elements of numbered lines are those of the file, and no others.
use Rattle.bag_read.proofs.Common.{List, Some, [], ap, append-nil, append_assoc, arith, cond, drop, inl, inr, map, not}
use Rattle.bag_read.proofs.Common.{refl, suc, sym, true, ℕ, ◌++◌, ◌+◌, ◌-◌, ◌∙◌, ◌∷◌, ◌≡◌, ◌⊎◌, take_while-cons}
use Rattle.bag_read.proofs.Common.{none-some, enumerate_from, join_with_byte, slice_get, nat_cmp, on, Ordering, joined}
use Rattle.bag_read.proofs.Common.{nothing_listed, only_from_some, only_listed, same_members, line_feed, IsListOf}
use Rattle.bag_read.proofs.Common.{begins_with_blank, is_blank_line, trim, Rules, IsElement, begins_element}
use Rattle.bag_read.proofs.Common.{is_continuation, leading_continuations, split, value_of_parts, element_at, elements}
use Rattle.bag_read.proofs.Common.{value_on, with_part, Element}
use Rattle.bag_read.proofs.FaultOrder.{less}

-- the parts after the first
abbrev tails : List (List ℕ) → List ℕ
tails [] = []
tails (part ∷ parts) = (line_feed ∷ trim part) ++ tails parts

parts_joined : (v : List ℕ) (parts : List (List ℕ)) → join_with_byte line_feed (v ∷ map trim parts) ≡ v ++ tails parts
parts_joined v [] = sym (append-nil v)
parts_joined v (part ∷ parts) = ap (λ t. v ++ line_feed ∷ t) (parts_joined (trim part) parts)

pub leading_more : (line : List ℕ) (more : List (List ℕ))
    → leading_continuations (line ∷ more)
    ≡ cond (begins_element line) []
    (cond (is_continuation line) (line ∷ leading_continuations more) (leading_continuations more))
leading_more line more = grind (arith, take_while-cons (λ l. not (begins_element l)) line more)

value_at : (n : ℕ) (v line : List ℕ) (more : List (List ℕ))
    → ((u : List ℕ) → value_on u (enumerate_from (n + 1) more) ≡ u ++ tails (leading_continuations more))
    → value_on v ((n, line) ∷ enumerate_from (n + 1) more) ≡ v ++ tails (leading_continuations (line ∷ more))
value_at n v line more before =
    rw (leading_more line more)
    (grind (
      arith,
      before v,
      before (with_part v line),
      append_assoc v (line_feed ∷ trim line) (tails (leading_continuations more)),
      append-nil v,
      is_blank_line,
      begins_with_blank,
    ))

value_goes_on : (n : ℕ) (v : List ℕ) (more : List (List ℕ))
    → value_on v (enumerate_from n more) ≡ v ++ tails (leading_continuations more)
value_goes_on n v [] = sym (append-nil v)
value_goes_on n v (line ∷ more) = value_at n v line more (λ u. value_goes_on (n + 1) u more)

value_is : (n : ℕ) (part : List ℕ) (more : List (List ℕ))
    → value_on (trim part) (enumerate_from n more) ≡ value_of_parts (part ∷ leading_continuations more)
value_is n part more = value_goes_on n (trim part) more ∙ sym (parts_joined (trim part) (leading_continuations more))

module _ (rules : Rules) where
  -- an element of a line, with the lines that follow
  abbrev Makes : ℕ → List ℕ → List (List ℕ) → Element → Type 0
  Makes n line more e =
      (part : List ℕ)
      × (e.line ≡ n)
      × (begins_element line ≡ true)
      × (split rules line ≡ Some (e.label, part))
      × (e.value ≡ value_of_parts (part ∷ leading_continuations more))

  made : (n : ℕ) (line : List ℕ) (more : List (List ℕ)) (e : Element)
      → element_at rules n line (enumerate_from (n + 1) more) ≡ Some e → Makes n line more e
  made n line more e h = grind (arith, value_is)

  -- an element of lines that are counted from n
  abbrev MakesFrom : ℕ → List (List ℕ) → Element → Type 0
  MakesFrom n all e =
      (m : ℕ) × (line : List ℕ) × (slice_get all m ≡ Some line) × Makes (n + m) line (drop (suc m) all) e

  abbrev by_line : Element → Element → Ordering
  by_line = on (λ e. e.line) nat_cmp

  elements_from : (n : ℕ) (all : List (List ℕ))
      → IsListOf by_line (MakesFrom n all) (elements rules (enumerate_from n all))
  elements_from n [] = nothing_listed by_line (MakesFrom n []) (λ e h. none-some h.1 h.2)
  elements_from n (line ∷ more) =
      same_members by_line Either (MakesFrom n (line ∷ more)) _ to from
      (joined by_line Head (MakesFrom (n + 1) more) _ _
      (only_listed by_line Head (element_at rules n line (enumerate_from (n + 1) more))
      (only_from_some Head (element_at rules n line (enumerate_from (n + 1) more)) (λ e h. h) (λ e h. h)))
      (elements_from (n + 1) more)
      (λ d e h k. less d.line e.line (omega (arith, (made n line more d h).1, k.3.1))))
    where
      Head : Element → Type 0
      Head e = element_at rules n line (enumerate_from (n + 1) more) ≡ Some e

      Either : Element → Type 0
      Either e = Head e ⊎ MakesFrom (n + 1) more e

      to : (e : Element) → Either e → MakesFrom n (line ∷ more) e
      to e (inl h) = let is = made n line more e h in (0, line, refl, (is.0, omega (arith, is.1), is.2, is.3, is.4))
      to e (inr (m, l, at, (part, here, begins, splits, value))) =
          (suc m, l, at, (part, omega (arith, here), begins, splits, value))

      from : (e : Element) → MakesFrom n (line ∷ more) e → Either e
      from e makes = grind (arith, value_is)

  -- the elements of a list of lines
  pub elements_of : (all : List (List ℕ))
      → IsListOf by_line (IsElement rules all) (elements rules (enumerate_from 1 all))
  elements_of all = same_members by_line (MakesFrom 1 all) (IsElement rules all) _ to from (elements_from 1 all)
    where
      to : (e : Element) → MakesFrom 1 all e → IsElement rules all e
      to e (m, line, at, (part, here, begins, splits, value)) =
          let place : m ≡ e.line - 1 = omega (arith, here) in
          let after : suc m ≡ e.line = omega (arith, here) in (
            line,
            part,
            (omega (arith, here), ap (slice_get all) (sym place) ∙ at),
            begins,
            splits,
            value
                ∙ ap (λ k. value_of_parts (part ∷ leading_continuations (drop k all))) after,
          )

      from : (e : Element) → IsElement rules all e → MakesFrom 1 all e
      from e (line, part, (some, at), begins, splits, value) =
          let after : e.line ≡ suc (e.line - 1) = omega (arith, some) in (
            e.line - 1,
            line,
            at,
            (
              part,
              omega (arith, some),
              begins,
              splits,
              value
                  ∙ ap (λ k. value_of_parts (part ∷ leading_continuations (drop k all))) after,
            ),
          )
