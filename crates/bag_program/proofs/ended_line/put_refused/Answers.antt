use Rattle.std.proofs.Common.{◌≡◌, ◌++◌, ◌∙◌, ℕ, List, ap, append_assoc, arith}
use Rattle.std.proofs.lemmas.Result.{err_from_is_err_and}
use Rattle.std.specs.Prelude.{codes}
use Rattle.bag_tree.proofs.Writing.{after_part, cut_part}
use Rattle.bag_tree.specs.Tree.{cause_word}
use Rattle.bag_faults.specs.FaultLine.{field}
use Rattle.bag_program.proofs.ended_line.put_refused.Goals as goal

-- the line is written in two parts
reason_line : (asked path cause : List ℕ)
    → (asked ++ codes " ") ++ (path ++ (codes " " ++ (cause ++ codes "\n")))
    ≡ (asked ++ (codes " " ++ (path ++ (codes " " ++ cause)))) ++ codes "\n"
reason_line asked path cause = grind (arith, append_assoc)

whole_line : (name words asked path cause : List ℕ)
    → (name ++ (words ++ (asked ++ codes " "))) ++ (path ++ (codes " " ++ (cause ++ codes "\n")))
    ≡ name ++ (words ++ ((asked ++ (codes " " ++ (path ++ (codes " " ++ cause)))) ++ codes "\n"))
whole_line name words asked path cause =
    append_assoc name (words ++ (asked ++ codes " ")) _
    ∙ ap (λ t. name ++ t)
    (append_assoc words (asked ++ codes " ") _ ∙ ap (λ t. words ++ t) (reason_line asked path cause))

pub returns-in_err-put_line : goal.returns-in_err-put_line
returns-in_err-put_line g c =
    let name = field c.args.name.now in
    let path = field c.args.path.now in
    let cause = cause_word c.args.cause in
    rw (err_from_is_err_and c.from_residual.result c.from_residual.ensures.1).1 (
      cut_part _ _ (name ++ (c.args.words.now ++ (c.args.asked.now ++ codes " ")))
          (path ++ (codes " " ++ (cause ++ codes "\n"))) _
          (whole_line name c.args.words.now c.args.asked.now path cause) c.in_err-put_line.ensures.0,
      c.in_err-put_line.ensures.1,
    )

pub returns : goal.returns
returns g c =
    let name = field c.args.name.now in
    let path = field c.args.path.now in
    let cause = cause_word c.args.cause in
    after_part (g.W.Out.state c.args.out.now) (g.W.Out.state c.put_line.new.out) (g.W.Out.state c.put_line-2.new.out)
    (name ++ (c.args.words.now ++ (c.args.asked.now ++ codes " "))) (path ++ (codes " " ++ (cause ++ codes "\n")))
    _ _ (whole_line name c.args.words.now c.args.asked.now path cause) c.in_ok-put_line.ensures
    (rw c.word.ensures at c.put_line-2.ensures)
