use Rattle.bag_faults.proofs.Common.{◌≡◌, ◌≢◌, ℕ, Option, Some, None, Ok, sym, ap, ◌∙◌, arith, MatchOption, ok_or}
use Rattle.bag_faults.proofs.Common.{parse-decimal, Code, number}
use Rattle.bag_faults.specs.declared.from_line.CursorFault.TheVariants.{NotALine}
use Rattle.bag_faults.proofs.Codes.{small_number, same_code}
use Rattle.bag_faults.proofs.from_line.read_code.Goals as goal

found : (o : Option Code) (n : ℕ) (code : Code) → number code ≡ n
    → MatchOption o ((other : Code) → number other ≢ n) (λ other. number other ≡ n) → o ≡ Some code
found None n code e h = absurd (h code e)
found (Some other) n code e h = ap Some (same_code other code (h ∙ sym e))

pub returns-in-Ok : goal.returns-in-Ok
returns-in-Ok c code e =
    let small = small_number code in
    let parsed : c.parse.result ≡ Ok (number code) =
    parse-decimal 16 (number code) c.args.field.now c.parse.result (omega arith) (omega arith) (sym e)
    c.parse.ensures.value.0 in
    let read : number code ≡ c.in-Ok.number = cc in
    c.ok_or.ensures.value
    ∙ ap (λ o. ok_or o NotALine) (found c.from_number.result c.in-Ok.number code read c.from_number.ensures)

pub returns-in-Err : goal.returns-in-Err
returns-in-Err c code e =
    let small = small_number code in
    let parsed : c.parse.result ≡ Ok (number code) =
    parse-decimal 16 (number code) c.args.field.now c.parse.result (omega arith) (omega arith) (sym e)
    c.parse.ensures.value.0 in
    cc
