use Rattle.bag_read.proofs.Common.{Bool, List, false, refl, ℕ, ◌∙◌, ◌≡◌, contains, nat_cmp, lines}
use Rattle.bag_read.proofs.Reason.{both_ok, clash}
use Rattle.bag_read.proofs.ToldRepeats.{none_told, repeats_told}
use Rattle.std.proofs.lemmas.List.{nil_from_length}
use Rattle.bag_read.proofs.manifest.read_text.Goals as goal

pub returns-then-is_empty : goal.returns-then-is_empty
returns-then-is_empty c =
    let at_first : ℕ → List ℕ → Bool = λ n path. contains nat_cmp c.new.result n in
    let none_known : (n : ℕ) (path : List ℕ) → at_first n path ≡ false = λ n path. rw c.new.ensures.empty refl in
    let items = c.in_ok-parsed.ensures.items in
    let found = rw (c.as_slice.ensures ∙ items) at c.in_ok-repeated.ensures in
    let none : (n : ℕ) → contains nat_cmp c.in_ok-repeated.repeated n ≡ false = λ n.
    rw (nil_from_length _ (c.is_empty.ensures.0 c.if-is_empty.true)) refl in
    let tells =
    none_told c.args.rules c.args.kind c.args.alg (lines c.args.text.now) at_first none_known
    (λ n again. clash _ ((found n).1 again) (none n)) in
    record { names_again = at_first; tells = tells; items_are = items; faults_are = c.in_ok-parsed.ensures.faults }

pub returns : goal.returns
returns c =
    let at_first : ℕ → List ℕ → Bool = λ n path. contains nat_cmp c.new.result n in
    let none_known : (n : ℕ) (path : List ℕ) → at_first n path ≡ false = λ n path. rw c.new.ensures.empty refl in
    let found = rw (c.as_slice.ensures ∙ c.in_ok-parsed.ensures.items) at c.in_ok-repeated.ensures in
    let tells =
    repeats_told c.args.rules c.args.kind c.args.alg (lines c.args.text.now) at_first none_known
    (λ n path. contains nat_cmp c.in_ok-repeated.repeated n) (λ n path. found n) in
    both_ok c.read_lines-2.result _ _ _
    (λ parsed items faults. record { names_again = _; tells = tells; items_are = items; faults_are = faults })
    c.read_lines-2.ensures.items c.read_lines-2.ensures.faults
