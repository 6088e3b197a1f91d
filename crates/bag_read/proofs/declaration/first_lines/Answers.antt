use Rattle.bag_read.proofs.Common.{List, [], arith, refl, ℕ, ◌+◌, ◌∷◌, ◌≡◌, enumerate_from, ap, length, suc, sym, ◌∙◌}
use Rattle.bag_read.proofs.Common.{Bor, length-numbered, lines, numbered_rest}
use Rattle.std.proofs.lemmas.Iterator.Consumers.{count_from_yields_List, YieldsList-from_first}
use Rattle.bag_read.proofs.declaration.first_lines.Goals as goal

-- The first lines of a text.

no_lines : (n : ℕ) (all : List (List ℕ)) → enumerate_from n all ≡ [] → all ≡ []
no_lines n [] e = refl
no_lines n (line ∷ more) e = cc

-- the first of the numbered lines
first_line : (n k : ℕ) (all : List (List ℕ)) (line : List ℕ) (rest : List (ℕ × List ℕ))
    → enumerate_from n all ≡ (k, line) ∷ rest
    → (more : List (List ℕ)) × (all ≡ line ∷ more) × (enumerate_from (n + 1) more ≡ rest)
first_line n k [] line rest e = cc
first_line n k (x ∷ xs) line rest e = (xs, grind arith, grind arith)

pub returns-in_default : goal.returns-in_default
returns-in_default c = grind (arith, no_lines)

pub returns-in_default-next : goal.returns-in_default-next
returns-in_default-next c = grind (arith, first_line, no_lines)

pub count-requires-clause-fits : goal.count-requires-clause-fits
count-requires-clause-fits c = grind (arith, first_line, length-numbered)

pub returns-clause-first : goal.returns-clause-first
returns-clause-first c = grind (arith, first_line)

pub returns-clause-second : goal.returns-clause-second
returns-clause-second c = grind (arith, first_line)

pub returns-clause-count : goal.returns-clause-count
returns-clause-count c =
    let one =
    first_line 1 c.in-Some.field-0-0 (lines c.args.text.now) c.in-Some.first.now _
    (sym c.lines-rest.ensures.rest ∙ c.in-Some.ensures.steps) in
    let two =
    first_line (1 + 1) c.in-Some-next.field-0-0 one.0 c.in-Some-next.second.now _
    (one.2 ∙ c.in-Some-next.ensures.steps) in
    let long : length (lines c.args.text.now) ≡ suc (suc (length two.0)) =
    ap length (one.1 ∙ ap (λ more. c.in-Some.first.now ∷ more) two.1) in
    let counted : c.count.result ≡ length (enumerate_from (1 + 1 + 1) two.0) =
    count_from_yields_List c.next-2.new.self c.count.result c.count.ensures.ran
    (YieldsList-from_first (λ (item : ℕ × Bor (List ℕ)). (item.0, item.1.now)) numbered_rest
    (enumerate_from (1 + 1 + 1) two.0) (sym two.2)) in
    omega (arith, counted, length-numbered (1 + 1 + 1) two.0, long)

pub overflow_add-result : goal.overflow_add-result
overflow_add-result c = grind (arith, returns-clause-count)
