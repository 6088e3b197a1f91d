use Rattle.bag_sources.proofs.Common.{◌≡◌, ◌≢◌, ◌∙◌, false, true, [], sym, option_copied, is_passed}
use Rattle.bag_sources.proofs.Chosen.{named_by, not_declaration, tells, unnamed_by}
use Rattle.bag_sources.proofs.files.to_sum_of.Goals as goal

pub returns-then-is_empty : goal.returns-then-is_empty
returns-then-is_empty c = λ bag of full ahead.
    unnamed_by bag c.args.file.now.path c.in_ok-expected.expected
    (c.in_ok-expected.ensures.algs bag of (not_declaration c.args.facts.now.options.depth full))
    (c.is_empty.ensures.0 c.if-is_empty.true) ahead.0

pub returns : goal.returns
returns c = λ bag of full.
    let path = c.args.file.now.path in
    let expected = c.in_ok-expected.expected in
    let deep = not_declaration c.args.facts.now.options.depth full in
    let some : expected ≢ [] = λ none.
    let clash : false ≡ true = sym c.if-is_empty.false ∙ c.is_empty.ensures.1 none in cc in
    let ahead : is_passed (option_copied c.args.after) path ≡ false =
    sym c.is_passed.ensures ∙ c.if-is_passed.false in (
      c.in_ok-copy_of_file.ensures,
      (named_by bag path expected (c.in_ok-expected.ensures.algs bag of deep) some, ahead),
      rw c.in_ok-copy_of_file.ensures
          (tells bag (record { file = c.args.file.now; expected = expected })
          (λ bytes there. c.in_ok-expected.ensures.faults bag of deep bytes there)),
    )
