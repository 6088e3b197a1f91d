-- A text is written piece by piece.
use Rattle.bag_tree.proofs.Common.{◌≡◌, ℕ, zero, suc, get_or, ◌∷◌, ◌+◌, ◌<◌, ◌++◌, List, [], length, take, drop, Option}
use Rattle.bag_tree.proofs.Common.{refl, ap, sym, ◌∙◌, subst, append_assoc, append-nil, take-append-drop, arith}
use Rattle.bag_tree.proofs.Common.{common_steps, take-append-add, MatchResult-weaker, Result, Appends, Bor, OutState}
use Rattle.bag_tree.proofs.Common.{IsCut, IsTaken, Writes, joined_pieces, length-append, take_at}
use Rattle.std.specs.Io.KnownBytes.{Keeps}
use Rattle.bag_tree.specs.declared.out.Refused.{Refused}

-- nothing was written yet
pub Appends-nil : (old : Option (List ℕ)) → Appends old old []
Appends-nil old = grind (arith, append-nil)

-- one text after another
pub Appends-append : (old mid new : Option (List ℕ)) (first second : List ℕ) → Appends old mid first
    → Appends mid new second → Appends old new (first ++ second)
Appends-append old mid new first second p q = grind (arith, append_assoc)

Appends-keeps : (old mid new : Option (List ℕ)) (text : List ℕ) → Appends old mid text → Keeps mid new
    → Appends old new text
Appends-keeps old mid new text p k = grind arith

-- a call took some more
pub taken_more : (old mid new : Option (List ℕ)) (text rest : List ℕ) (n : ℕ) → IsTaken old mid text rest
    → Appends mid new (take n rest) → IsTaken old new text (drop n rest)
taken_more old mid new text rest n so_far more = grind (arith, take-append-drop, append_assoc, Appends-append)

-- a call refused, and some of the text was left
pub cut_off : (old mid new : Option (List ℕ)) (text rest : List ℕ) → 0 < length rest → IsTaken old mid text rest
    → Keeps mid new → IsCut old new text
cut_off old mid new text rest some so_far kept =
    let size : length text ≡ length so_far.front + length rest =
    ap length so_far.joins ∙ length-append so_far.front rest in (
      length so_far.front,
      omega arith,
      rw (so_far.joins, take_at so_far.front rest (length so_far.front) refl)
          (Appends-keeps old mid new so_far.front so_far.taken kept),
    )

-- a text that was cut off is a cut of a longer one
pub IsCut-append : (old new : Option (List ℕ)) (first second : List ℕ) → IsCut old new first
    → IsCut old new (first ++ second)
IsCut-append old new first second cut = grind (arith, length-append, common_steps)

-- and so is one whose second part was cut off
pub append-IsCut : (old mid new : Option (List ℕ)) (first second : List ℕ) → Appends old mid first
    → IsCut mid new second → IsCut old new (first ++ second)
append-IsCut old mid new first second taken cut =
    let within : cut.0 < length second = cut.1 in (
      length first + cut.0,
      omega (arith, length-append first second),
      rw (take-append-add first second cut.0)
          (Appends-append old mid new first (take cut.0 second) taken cut.2),
    )

-- a second text after a first
pub writes_after : (old mid new : OutState) (first second : List ℕ) (result : Result (Unit {0}) Refused)
    → Writes mid new second result → Appends old.taken mid.taken first → Writes old new (first ++ second) result
writes_after old mid new first second result w taken =
    MatchResult-weaker result w (λ _ all. Appends-append old.taken mid.taken new.taken first second taken all)
    (λ _ part. (append-IsCut old.taken mid.taken new.taken first second taken part.0, part.1))

-- a third text after two that were taken
pub writes_third : (old mid new : OutState) (first second third : List ℕ) (result : Result (Unit {0}) Refused)
    → Writes mid new third result → Appends old.taken mid.taken (first ++ second)
    → Writes old new (first ++ (second ++ third)) result
writes_third old mid new first second third result w taken = grind (arith, append_assoc, writes_after)

-- a third text after two of which not all was taken
pub cut_third : (old new : Option (List ℕ)) (first second third : List ℕ) → IsCut old new (first ++ second)
    → IsCut old new (first ++ (second ++ third))
cut_third old new first second third cut =
    subst (IsCut old new) (append_assoc first second third) (IsCut-append old new (first ++ second) third cut)

-- a text is written in two parts: the first was taken
pub after_part : (old mid new : OutState) (first second text : List ℕ) (result : Result (Unit {0}) Refused)
    → first ++ second ≡ text → Appends old.taken mid.taken first → Writes mid new second result
    → Writes old new text result
after_part old mid new first second text result is taken w =
    subst (λ t. Writes old new t result) is (writes_after old mid new first second result w taken)

-- of the first not all was taken
pub cut_part : (old new : Option (List ℕ)) (first second text : List ℕ) → first ++ second ≡ text
    → IsCut old new first → IsCut old new text
cut_part old new first second text is cut = subst (IsCut old new) is (IsCut-append old new first second cut)

-- the pieces before one, that piece, and the others
text_split : (pieces : List (Bor (List ℕ))) (i : ℕ) (d : Bor (List ℕ)) → i < length pieces
    → joined_pieces pieces
    ≡ joined_pieces (take i pieces) ++ ((get_or pieces i d).now ++ joined_pieces (drop (suc i) pieces))
text_split [] i d h = absurd (omega arith)
text_split (p ∷ ps) zero d h = refl
text_split (p ∷ ps) (suc i) d h =
    ap (λ rest. p.now ++ rest) (text_split ps i d (omega arith))
    ∙ sym (append_assoc p.now (joined_pieces (take i ps)) ((get_or ps i d).now ++ joined_pieces (drop (suc i) ps)))

-- a piece was cut off after those before it
pub pieces_cut : (old mid new : Option (List ℕ)) (pieces : List (Bor (List ℕ))) (i : ℕ) (d : Bor (List ℕ))
    → i < length pieces → Appends old mid (joined_pieces (take i pieces)) → IsCut mid new (get_or pieces i d).now
    → IsCut old new (joined_pieces pieces)
pieces_cut old mid new pieces i d h taken cut =
    subst (IsCut old new) (sym (text_split pieces i d h))
    (append-IsCut old mid new (joined_pieces (take i pieces))
    ((get_or pieces i d).now ++ joined_pieces (drop (suc i) pieces)) taken
    (IsCut-append mid new (get_or pieces i d).now (joined_pieces (drop (suc i) pieces)) cut))

-- one more piece of a text was taken
pub taken_piece : (old mid new : Option (List ℕ)) (text rest piece after : List ℕ) → IsTaken old mid text rest
    → rest ≡ piece ++ after → Appends mid new piece → IsTaken old new text after
taken_piece old mid new text rest piece after so_far e more = grind (arith, append_assoc, Appends-append)

-- a piece of a text was cut off
pub cut_piece : (old mid new : Option (List ℕ)) (text rest piece after : List ℕ) → IsTaken old mid text rest
    → rest ≡ piece ++ after → IsCut mid new piece → IsCut old new text
cut_piece old mid new text rest piece after so_far e cut =
    subst (IsCut old new) (sym (so_far.joins ∙ ap (λ xs. so_far.front ++ xs) e))
    (append-IsCut old mid new so_far.front (piece ++ after) so_far.taken (IsCut-append mid new piece after cut))

-- a text whose first pieces were written by one call, and its rest by another
pub five_joined : (a b c d e rest : List ℕ)
    → (a ++ (b ++ (c ++ (d ++ (e ++ []))))) ++ rest ≡ a ++ (b ++ (c ++ (d ++ (e ++ rest))))
five_joined a b c d e rest =
    append_assoc a (b ++ (c ++ (d ++ (e ++ [])))) rest
    ∙ ap (λ l. a ++ l) (append_assoc b (c ++ (d ++ (e ++ []))) rest
    ∙ ap (λ l. b ++ l) (append_assoc c (d ++ (e ++ [])) rest
    ∙ ap (λ l. c ++ l) (append_assoc d (e ++ []) rest
    ∙ ap (λ l. d ++ l) (append_assoc e [] rest))))
