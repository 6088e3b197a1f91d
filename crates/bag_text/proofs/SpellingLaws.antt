-- Spellings of paths.
use Rattle.bag_text.proofs.Common.{Bool, List, None, Option, Some, [], ap, arith, false, inl, inr, refl, subst, sym}
use Rattle.bag_text.proofs.Common.{true, ℕ, ◌==◌, ◌↔◌, ◌∙◌, ◌∷◌, ◌≡◌, ◌≢◌, eqb-false, eqb-true, nat_tests, none-some}
use Rattle.bag_text.proofs.Common.{same_Some, EscapedIsReadAgain, SpellsStrictly, both, escape, escaped, itself}
use Rattle.bag_text.proofs.Common.{percent, unescaped_strictly}

-- a character that isn't % is itself
itself_plain : (c : ℕ) → c ≢ percent → itself c ≡ Some c
itself_plain c h = grind (arith, h)

-- reading goes on after a character that isn't %
pub unescaped_plain : (c : ℕ) (s : List ℕ) → c ≢ percent
    → unescaped_strictly (c ∷ s) ≡ both (Some c) (unescaped_strictly s)
unescaped_plain c [] h = ap (λ o. both o (Some [])) (itself_plain c h)
unescaped_plain c (d ∷ []) h = ap (λ o. both o (both (itself d) (Some []))) (itself_plain c h)
unescaped_plain c (d ∷ e ∷ s) h = grind (arith, h)

spelled_is_unescaped : (path s : List ℕ) → SpellsStrictly s path → unescaped_strictly s ≡ Some path
spelled_is_unescaped [] s w = ap unescaped_strictly w
spelled_is_unescaped (c ∷ path) s (front, rest, parts, inl (other, alone), more) =
    grind (arith, unescaped_plain, spelled_is_unescaped path rest more)
spelled_is_unescaped (c ∷ path) s (front, rest, parts, inr (high, low, escape, stands), more) =
    grind (arith, spelled_is_unescaped path rest more)

-- where both are there, so is each
both_there : (o : Option ℕ) (os : Option (List ℕ)) (path : List ℕ) → both o os ≡ Some path
    → (c : ℕ) × (rest : List ℕ) × (o ≡ Some c) × (os ≡ Some rest) × (path ≡ c ∷ rest)
both_there (Some c) (Some rest) path e = (c, rest, refl, refl, cc)
both_there o os path e = cc

abbrev Backs : List ℕ → Type 0
Backs s = (path : List ℕ) → unescaped_strictly s ≡ Some path → SpellsStrictly s path

-- a plain character in front
backs_plain : (c : ℕ) (s : List ℕ) → c ≢ percent → Backs s → Backs (c ∷ s)
backs_plain c s other backs path e =
    let (d, rest, is, more, cut) =
    both_there (Some c) (unescaped_strictly s) path (sym (unescaped_plain c s other) ∙ e) in
    subst (SpellsStrictly (c ∷ s)) (sym (cut ∙ ap (λ x. x ∷ rest) (sym (same_Some _ _ is))))
    (c ∷ [], s, refl, inl (other, refl), backs rest more)

-- an escape in front
backs_escape : (c d e : ℕ) (s : List ℕ) → c ≡ percent → Backs s
    → both (escaped d e) (unescaped_strictly s) ≡ unescaped_strictly (c ∷ d ∷ e ∷ s) → Backs (c ∷ d ∷ e ∷ s)
backs_escape c d e s same backs read path is =
    let (x, rest, stands, more, cut) = both_there (escaped d e) (unescaped_strictly s) path (read ∙ is) in
    subst (SpellsStrictly (c ∷ d ∷ e ∷ s)) (sym cut)
    (c ∷ d ∷ e ∷ [], s, refl, inr (d, e, ap (λ p. p ∷ d ∷ e ∷ []) same, stands), backs rest more)

alone_is_none : (c : ℕ) (os : Option (List ℕ)) → c ≡ percent → both (itself c) os ≡ None
alone_is_none c os same = rw same refl

backs_three : (c d e : ℕ) (s : List ℕ) (b : Bool) → (c == percent) ≡ b → Backs s → Backs (d ∷ e ∷ s)
    → Backs (c ∷ d ∷ e ∷ s)
backs_three c d e s true h short long = backs_escape c d e s (eqb-true c percent h) short (rw h refl)
backs_three c d e s false h short long = backs_plain c (d ∷ e ∷ s) (eqb-false c percent h) long

-- a % with fewer than two characters after it is read as nothing
backs_one : (c : ℕ) (s : List ℕ) (b : Bool) → (c == percent) ≡ b → (c ≡ percent → unescaped_strictly (c ∷ s) ≡ None)
    → Backs s → Backs (c ∷ s)
backs_one c s true h bad backs path e = absurd (none-some path (sym (bad (eqb-true c percent h)) ∙ e))
backs_one c s false h bad backs path e = backs_plain c s (eqb-false c percent h) backs path e

unescaped_is_spelled : (s : List ℕ) → Backs s
unescaped_is_spelled [] = λ path e. subst (SpellsStrictly []) (same_Some _ _ e) refl
unescaped_is_spelled (c ∷ []) =
    backs_one c [] _ refl (alone_is_none c _) (λ path e. subst (SpellsStrictly []) (same_Some _ _ e) refl)
unescaped_is_spelled (c ∷ d ∷ []) = backs_one c (d ∷ []) _ refl (alone_is_none c _) (unescaped_is_spelled (d ∷ []))
unescaped_is_spelled (c ∷ d ∷ e ∷ s) =
    backs_three c d e s _ refl (unescaped_is_spelled s) (unescaped_is_spelled (d ∷ e ∷ s))

-- each spelling spells one path, and what has a bad escape spells none
pub strict_spellings : (s path : List ℕ) → SpellsStrictly s path ↔ (unescaped_strictly s ≡ Some path)
strict_spellings s path = (spelled_is_unescaped path s, unescaped_is_spelled s path)

-- a path that is written is read again
pub read_again : EscapedIsReadAgain
read_again [] = refl
read_again (c ∷ path) = grind (arith, nat_tests, unescaped_plain, eqb-false, read_again path)
