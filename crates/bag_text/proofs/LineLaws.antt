-- The lines of a text are its only cut.
use Rattle.bag_text.proofs.Common.{Bool, List, [], ap, append_assoc, arith, false, inl, inr, nat_eq, refl, subst, sym}
use Rattle.bag_text.proofs.Common.{true, ℕ, ◌++◌, ◌==◌, ◌∙◌, ◌∷◌, ◌≡◌, ◌≢◌, eqb-false, eqb-true, nat_tests}
use Rattle.bag_text.proofs.Common.{All-from_recursion, recursion_from_All, AllByRecursion, onto_first, starts_with, Cut}
use Rattle.bag_text.proofs.Common.{IsEnd, LinesAreTheOnlyCut, carriage_return, line_feed, lines}

-- what is known of one character of a line
abbrev pub IsPlain : ℕ → Type 0
IsPlain c = (c ≢ line_feed) × (c ≢ carriage_return)

pub lines_plain : (c : ℕ) (t : List ℕ) → IsPlain c → lines (c ∷ t) ≡ onto_first c (lines t)
lines_plain c t h = grind (arith, h.0, h.1)

line_feed_in_front : (t : List ℕ) → ((more : List ℕ) → t ≢ line_feed ∷ more)
    → starts_with nat_eq t (line_feed ∷ []) ≡ false
line_feed_in_front [] h = refl
line_feed_in_front (c ∷ t) h = let other : c ≢ line_feed = λ e. h t (ap (λ x. x ∷ t) e) in grind (arith, nat_tests)

-- an end is read as one
pub lines_end : (end after : List ℕ) → IsEnd end after → lines (end ++ after) ≡ [] ∷ lines after
lines_end end after (inl feed) = ap (λ e. lines (e ++ after)) feed
lines_end end after (inr (inl both_ends)) = ap (λ e. lines (e ++ after)) both_ends
lines_end end after (inr (inr (alone, none))) = grind (arith, line_feed_in_front)

-- a line and its end are read as one line
pub lines_line : (line rest : List ℕ) (others : List (List ℕ)) → AllByRecursion IsPlain line → lines rest ≡ [] ∷ others
    → lines (line ++ rest) ≡ line ∷ others
lines_line [] rest others plain e = e
lines_line (c ∷ line) rest others plain e =
    lines_plain c (line ++ rest) plain.0 ∙ ap (onto_first c) (lines_line line rest others plain.1 e)

-- a line without an end is read as one line
pub last_line : (line : List ℕ) → AllByRecursion IsPlain line → line ≢ [] → lines line ≡ line ∷ []
last_line [] plain some = absurd (some refl)
last_line (c ∷ []) plain some = lines_plain c [] plain.0
last_line (c ∷ d ∷ line) plain some =
    lines_plain c (d ∷ line) plain.0 ∙ ap (onto_first c) (last_line (d ∷ line) plain.1 (λ e. cc))

cut_is_lines : (all : List (List ℕ)) (t : List ℕ) → Cut t all → all ≡ lines t
cut_is_lines [] t cut = sym (ap lines cut)
cut_is_lines (line ∷ rest) t (plain, inl (whole, some, none)) = grind (arith, last_line, recursion_from_All)
cut_is_lines (line ∷ rest) t (plain, inr (end, after, is, parts, more)) =
    let read : lines (line ++ (end ++ after)) ≡ line ∷ lines after =
    lines_line line (end ++ after) (lines after) (recursion_from_All _ line plain) (lines_end end after is) in
    ap (λ r. line ∷ r) (cut_is_lines rest after more) ∙ sym (ap lines (parts ∙ append_assoc line end after) ∙ read)

-- a plain character in front of the first line
cut_plain : (c : ℕ) (t : List ℕ) (all : List (List ℕ)) → IsPlain c → Cut t all → Cut (c ∷ t) (onto_first c all)
cut_plain c t [] plain cut = grind arith
cut_plain c t (line ∷ rest) plain cut = grind arith

-- an end in front of the lines
cut_end : (end after : List ℕ) (all : List (List ℕ)) → IsEnd end after → Cut after all → Cut (end ++ after) ([] ∷ all)
cut_end end after all is cut = (All-from_recursion IsPlain [] tt, inr (end, after, is, refl, cut))

-- a CR in front of another character than LF
cut_return : (d : ℕ) (u : List ℕ) (b : Bool) → (d == line_feed) ≡ b → Cut (d ∷ u) (lines (d ∷ u)) → Cut u (lines u)
    → Cut (carriage_return ∷ d ∷ u) (lines (carriage_return ∷ d ∷ u))
cut_return d u true h long short =
    rw (eqb-true d line_feed h) (cut_end (carriage_return ∷ line_feed ∷ []) u (lines u) (inr (inl refl)) short)
cut_return d u false h long short =
    let end : IsEnd (carriage_return ∷ []) (d ∷ u) = inr (inr (refl, λ more e. eqb-false d line_feed h cc)) in
    subst (Cut (carriage_return ∷ d ∷ u)) (sym (lines_end (carriage_return ∷ []) (d ∷ u) end))
    (cut_end (carriage_return ∷ []) (d ∷ u) (lines (d ∷ u)) end long)

cut_in_front : (c : ℕ) (t : List ℕ) (feed back : Bool) → (c == line_feed) ≡ feed → (c == carriage_return) ≡ back
    → Cut t (lines t) → Cut (carriage_return ∷ t) (lines (carriage_return ∷ t)) → Cut (c ∷ t) (lines (c ∷ t))
cut_in_front c t true back h k cut returned =
    rw (eqb-true c line_feed h) (cut_end (line_feed ∷ []) t (lines t) (inl refl) cut)
cut_in_front c t false true h k cut returned = grind (arith, eqb-true)
cut_in_front c t false false h k cut returned = grind (arith, eqb-false, lines_plain, cut_plain)

cut_return_alone : Cut (carriage_return ∷ []) (lines (carriage_return ∷ []))
cut_return_alone = cut_end (carriage_return ∷ []) [] [] (inr (inr (refl, λ more e. cc))) refl

lines_are_cut : (t : List ℕ) → Cut t (lines t)
lines_are_cut [] = refl
lines_are_cut (c ∷ []) = cut_in_front c [] _ _ refl refl refl cut_return_alone
lines_are_cut (c ∷ d ∷ u) =
    cut_in_front c (d ∷ u) _ _ refl refl (lines_are_cut (d ∷ u))
    (cut_return d u _ refl (lines_are_cut (d ∷ u)) (lines_are_cut u))

-- a text is cut into its lines, and into no others
pub only_cut : LinesAreTheOnlyCut
only_cut t all = (cut_is_lines all t, λ same. subst (Cut t) (sym same) (lines_are_cut t))
