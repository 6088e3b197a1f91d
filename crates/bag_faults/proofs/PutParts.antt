-- The line of a fault is written in parts.
use Rattle.bag_faults.proofs.Common.{◌≡◌, ◌++◌, ◌∷◌, ℕ, List, [], ap, ◌∙◌, sym, codes, append_assoc, join_with_byte}

pub place_line : (path alg rest : List ℕ)
    → (path ++ (codes " " ++ (alg ++ codes " "))) ++ rest ≡ path ++ (codes " " ++ (alg ++ (codes " " ++ rest)))
place_line path alg rest =
    append_assoc path (codes " " ++ (alg ++ codes " ")) rest
    ∙ ap (λ t. path ++ (codes " " ++ t)) (append_assoc alg (codes " ") rest)

-- one field before the others
before : (one more end : List ℕ) → (one ++ (32 ∷ more)) ++ end ≡ one ++ (32 ∷ (more ++ end))
before one more end = append_assoc one (32 ∷ more) end

pub fields_line : (n w p a l d : List ℕ)
    → (n ++ (codes " " ++ (w ++ codes " "))) ++ (p ++ (codes " " ++ (a ++ (codes " " ++ (l ++ (codes " " ++ (d ++ codes "\n")))))))
    ≡ join_with_byte 32 (n ∷ w ∷ p ∷ a ∷ l ∷ d ∷ []) ++ codes "\n"
fields_line n w p a l d =
    let end = codes "\n" in
    place_line n w _
    ∙ sym (before n _ end ∙ ap (λ t. n ++ (32 ∷ t))
    (before w _ end ∙ ap (λ t. w ++ (32 ∷ t))
    (before p _ end ∙ ap (λ t. p ++ (32 ∷ t))
    (before a _ end ∙ ap (λ t. a ++ (32 ∷ t)) (before l d end)))))
