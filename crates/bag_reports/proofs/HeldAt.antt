-- What reports in memory give.
use Rattle.std.proofs.Common.{◌≡◌, ℕ, ◌-◌, ◌<◌, ◌++◌, ◌∷◌, List, [], Some, length, get_or, take, drop, refl, sym, ap, ◌∙◌}
use Rattle.std.proofs.Common.{arith, append_assoc, append-nil, length-drop, min}
use Rattle.std.specs.List.{slice_get}
use Rattle.std.proofs.lemmas.List.{take-append-drop, take_all}
use Rattle.std.proofs.lemmas.Option.{slice_get-get_or}
use Rattle.bag_reports.specs.Held.{IsAt}

-- what stands behind a place
rest_is : (text : List ℕ) (at : ℕ) → take (length text - at) (drop at text) ≡ drop at text
rest_is text at = take_all (length text - at) (drop at text) (omega (arith, length-drop at text))

-- the next bytes are given
pub gives_more : (texts : List (List ℕ)) (number at n room : ℕ) (given given' text : List ℕ)
    → IsAt texts number at given → number < length texts → text ≡ get_or texts number []
    → n ≡ min (length (take (length text - at) (drop at text))) room → 0 < room
    → given' ≡ given ++ take n (take (length text - at) (drop at text))
    → ((more : List ℕ) × (slice_get texts number ≡ Some (given' ++ more)))
    × (n ≡ 0 → slice_get texts number ≡ Some given')
gives_more texts number at n room given given' text place inside is count some gave =
    let before = place inside in
    let held : slice_get texts number ≡ Some text =
    slice_get-get_or texts number [] inside ∙ ap (λ t. Some t) (sym is) in
    let front : given ≡ take at text = before.1 ∙ ap (λ t. take at t) (sym is) in
    let long = ap length is in
    let rest = drop at text in
    let given_is : given' ≡ take at text ++ take n rest =
    gave ∙ ap (λ t. t ++ take n (take (length text - at) rest)) front
    ∙ ap (λ t. take at text ++ take n t) (rest_is text at) in
    let joined : given' ++ drop n rest ≡ text =
    ap (λ t. t ++ drop n rest) given_is ∙ append_assoc (take at text) (take n rest) (drop n rest)
    ∙ ap (λ t. take at text ++ t) (take-append-drop n rest) ∙ take-append-drop at text in (
      (drop n rest, held ∙ ap (λ t. Some t) (sym joined)),
      λ none.
          let size = ap length (rest_is text at) in
          let left = length-drop at text in
          let all : drop n rest ≡ [] = nothing_left (drop n rest) (omega (arith, length-drop n rest)) in
          held ∙ ap (λ t. Some t) (sym (sym (append-nil given') ∙ ap (λ t. given' ++ t) (sym all) ∙ joined)),
    )
  where
    nothing_left : (xs : List ℕ) → length xs ≡ 0 → xs ≡ []
    nothing_left [] e = refl
    nothing_left (x ∷ xs) e = absurd (omega arith)
