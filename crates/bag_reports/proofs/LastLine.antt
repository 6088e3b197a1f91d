-- The last line of a report, which comes after all others.
use Rattle.std.proofs.Common.{◌≡◌, ℕ, ◌+◌, ◌≤◌, ◌⊎◌, ◌++◌, ◌∷◌, List, [], Bool, true, false, inl, inr}
use Rattle.std.proofs.Common.{length, refl, ap, ◌∙◌, subst, arith, codes, append_assoc}
use Rattle.bag_reports.specs.Input.{AreLines, HasNoEnd, HoldsAhead, ended_lines}
use Rattle.bag_reports.specs.Reports.{ReportsState}
use Rattle.bag_reports.proofs.Coming.{ReadsFirst}

-- these lines are ahead, and then a last one
abbrev pub AreLinesAhead : ReportsState → List ℕ → List (List ℕ) → List ℕ → Type 0
AreLinesAhead state passed lines front = HoldsAhead state passed (ended_lines lines ++ (front ++ codes "\n"))

-- Some of the lines are to come, and the last one; or that line was read, and nothing is to come.
abbrev pub IsNearing : ReportsState → List ℕ → ℕ → List ℕ → List (List ℕ) → List ℕ → Type 0
IsNearing now passed count last lines front =
    ((later : List (List ℕ)) × AreLines later × AreLinesAhead now passed later front
    × (count + length later ≡ length lines))
    ⊎ (HoldsAhead now passed [] × (last ≡ front ++ codes "\n") × (count ≡ length lines + 1))

-- so it is whatever stood ahead at first
abbrev pub Nears : ReportsState → ReportsState → List ℕ → List ℕ → ℕ → List ℕ → Type 0
Nears start now before passed count last = (lines : List (List ℕ)) (front : List ℕ) → HasNoEnd front
    → AreLines lines → AreLinesAhead start before lines front → IsNearing now passed count last lines front

pub nears_first : (start : ReportsState) (before last : List ℕ) → Nears start start before before 0 last
nears_first start before last lines front plain are ahead = inl (lines, are, ahead, omega arith)

-- a line that ends the report
abbrev pub ReadsNone : ReportsState → List ℕ → List ℕ → Bool → Type 0
ReadsNone now passed line has_end = HoldsAhead now passed [] → (has_end ≡ false) × (line ≡ [])

true_or_false : (b : Bool) → b ≡ true → b ≡ false → ⊥
true_or_false b p q = cc

-- the next line, and what is ahead after it
abbrev IsNext : ReportsState → List ℕ → List ℕ → List (List ℕ) → List ℕ → Type 0
IsNext new passed line [] front = (line ≡ front) × HoldsAhead new passed []
IsNext new passed line (l ∷ more) front = AreLines more × AreLinesAhead new passed more front

next_is : (now new : ReportsState) (passed passed' line : List ℕ) (has_end : Bool) (later : List (List ℕ))
    (front : List ℕ) → ReadsFirst now passed new passed' line has_end → HasNoEnd front → AreLines later
    → AreLinesAhead now passed later front → (has_end ≡ true) × IsNext new passed' line later front
next_is now new passed passed' line has_end [] front reads plain are ahead =
    let first = reads front [] plain ahead in (first.0, (first.1, first.2))
next_is now new passed passed' line has_end (l ∷ more) front reads plain are ahead =
    let behind = ended_lines more ++ (front ++ codes "\n") in
    let first = reads l behind are.0
    (subst (λ text. HoldsAhead now passed text) (append_assoc l (10 ∷ ended_lines more) (front ++ codes "\n")) ahead) in
    (first.0, (are.1, first.2))

nearer : (now new : ReportsState) (passed passed' line ended last : List ℕ) (count : ℕ) (lines : List (List ℕ))
    (front : List ℕ) → ReadsFirst now passed new passed' line true → ReadsNone now passed line true → HasNoEnd front
    → ended ≡ line ++ codes "\n" → IsNearing now passed count last lines front
    → IsNearing new passed' (count + 1) ended lines front
nearer now new passed passed' line ended last count lines front reads none plain ends (inl ([], are, ahead, sum)) =
    let next = next_is now new passed passed' line true [] front reads plain are ahead in
    inr (next.1.1, ends ∙ ap (λ t. t ++ codes "\n") next.1.0, omega arith)
nearer now new passed passed' line ended last count lines front reads none plain ends (inl (l ∷ more, are, ahead, sum)) =
    let next = next_is now new passed passed' line true (l ∷ more) front reads plain are ahead in
    inl (more, next.1.0, next.1.1, omega arith)
nearer now new passed passed' line ended last count lines front reads none plain ends (inr at_end) =
    absurd (true_or_false true refl (none at_end.0).0)

pub nears_more : (start now new : ReportsState) (before passed passed' line ended last : List ℕ) (count : ℕ)
    (has_end : Bool) → has_end ≡ true → Nears start now before passed count last
    → ReadsFirst now passed new passed' line has_end → ReadsNone now passed line has_end
    → ended ≡ line ++ codes "\n" → Nears start new before passed' (count + 1) ended
nears_more start now new before passed passed' line ended last count has_end truth nears reads none ends lines front plain
    are ahead =
    nearer now new passed passed' line ended last count lines front
    (subst (λ b. ReadsFirst now passed new passed' line b) truth reads) (subst (λ b. ReadsNone now passed line b) truth none)
    plain ends (nears lines front plain are ahead)

at_last : (now new : ReportsState) (passed passed' line last : List ℕ) (count : ℕ) (lines : List (List ℕ))
    (front : List ℕ) → ReadsFirst now passed new passed' line false → ReadsNone now passed line false → HasNoEnd front
    → IsNearing now passed count last lines front → (line ≡ []) × (last ≡ front ++ codes "\n")
at_last now new passed passed' line last count lines front reads none plain (inl (later, are, ahead, sum)) =
    let next = next_is now new passed passed' line false later front reads plain are ahead in
    absurd (true_or_false false next.0 refl)
at_last now new passed passed' line last count lines front reads none plain (inr at_end) =
    ((none at_end.0).1, at_end.1)

-- a line without an end comes after the last one alone
pub nears_end : (start now new : ReportsState) (before passed passed' line last : List ℕ) (count : ℕ)
    (has_end : Bool) → has_end ≡ false → Nears start now before passed count last
    → ReadsFirst now passed new passed' line has_end → ReadsNone now passed line has_end
    → (lines : List (List ℕ)) (front : List ℕ) → HasNoEnd front → AreLines lines
    → AreLinesAhead start before lines front → (line ≡ []) × (last ≡ front ++ codes "\n")
nears_end start now new before passed passed' line last count has_end falsity nears reads none lines front plain are ahead =
    at_last now new passed passed' line last count lines front
    (subst (λ b. ReadsFirst now passed new passed' line b) falsity reads)
    (subst (λ b. ReadsNone now passed line b) falsity none) plain (nears lines front plain are ahead)

-- there are no more lines than those and one
pub few_lines : (now : ReportsState) (passed last : List ℕ) (count : ℕ) (lines : List (List ℕ)) (front : List ℕ)
    → IsNearing now passed count last lines front → count ≤ length lines + 1
few_lines now passed last count lines front (inl (later, are, ahead, sum)) = omega arith
few_lines now passed last count lines front (inr at_end) = let is = at_end.2 in omega arith
