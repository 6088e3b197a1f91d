use Rattle.bag_make.proofs.Common.{◌∙◌, inr, sym}
use Rattle.std.proofs.lemmas.Result.{err_from_is_err_and}
use Rattle.bag_make.proofs.ReadFolder.{nothing_refused, files_are, listing_refused, opens_folder, opened_folder}
use Rattle.bag_make.proofs.ReadFolder.{files_refused}
use Rattle.bag_make.proofs.reading.read_and_plan.Goals as goal

pub returns-in-Err-clause-refused : goal.returns-in-Err-clause-refused
returns-in-Err-clause-refused g c =
    listing_refused (g.T.Tree.state c.args.tree.now)
    (g.T.Tree.state c.list.new.self) c.in-Err.cause c.without_path.result c.stopped.result c.without_path.ensures.cause
    c.without_path.ensures.path
    c.list.ensures.openings c.list.ensures.rest c.in-Err.ensures.refused c.in-Err.ensures.last c.stopped.ensures

pub returns-in-Err-sum_files-clause-opens : goal.returns-in-Err-sum_files-clause-opens
returns-in-Err-sum_files-clause-opens g c =
    opens_folder c.in-Ok.listing c.in-Ok.ensures.ordered _ _ c.list.ensures.keeps c.list.ensures.openings
    c.in-Ok.ensures.honest
    (g.T.Tree.state c.sum_files.new.tree) (rw c.as_slice.ensures at c.sum_files.ensures.opens)

pub returns-in-Err-sum_files-clause-refused : goal.returns-in-Err-sum_files-clause-refused
returns-in-Err-sum_files-clause-refused g c =
    files_refused c.in-Ok.listing c.in-Ok.ensures.ordered _ _ c.list.ensures.keeps c.list.ensures.openings
    c.in-Ok.ensures.honest
    (g.T.Tree.state c.sum_files.new.tree)
    (record {
      keeps = c.list.ensures.keeps;
      failures = c.in-Ok.ensures.no_failure;
      plain = c.in-Ok.ensures.plain;
      openings = c.list.ensures.openings;
      last = c.in-Ok.ensures.last;
    })
    c.in-Err-sum_files.stop c.stopped-in-Err-sum_files.result
    (λ honest. sym (c.is_in_the_way.ensures.of_bag (g.T.Tree.state c.args.tree.now).bag c.in-Ok.ensures.ordered
    (c.in-Ok.ensures.honest honest))
    ∙ c.if-is_in_the_way.false)
    (rw c.as_slice.ensures at c.in-Err-sum_files.ensures.stop) c.stopped-in-Err-sum_files.ensures

pub returns-clause-planned : goal.returns-clause-planned
returns-clause-planned g c = λ honest.
    let bag = (g.T.Tree.state c.args.tree.now).bag in
    let ordered = c.in-Ok.ensures.ordered in
    let of = c.in-Ok.ensures.honest honest in
    let summed =
    files_are c.in-Ok.listing ordered _ _ c.list.ensures.keeps c.list.ensures.openings c.in-Ok.ensures.honest
    c.args.algs c.in-Ok-sum_files.payload.items (rw c.as_slice.ensures at c.in-Ok-sum_files.ensures.summed.are) honest in
    let free = sym (c.is_in_the_way.ensures.of_bag bag ordered of) ∙ c.if-is_in_the_way.false in
    (c.in_ok-steps.ensures.of_bag bag ordered of (rw c.deref.ensures.value summed), free)

pub returns-clause-opened : goal.returns-clause-opened
returns-clause-opened g c =
    opened_folder c.in-Ok.listing c.in-Ok.ensures.ordered _ _ c.list.ensures.keeps c.list.ensures.openings
    c.in-Ok.ensures.honest
    (g.T.Tree.state c.sum_files.new.tree) (rw c.as_slice.ensures at c.in-Ok-sum_files.ensures.summed.opened)

pub returns-clause-opens : goal.returns-clause-opens
returns-clause-opens g c =
    opens_folder c.in-Ok.listing c.in-Ok.ensures.ordered _ _ c.list.ensures.keeps c.list.ensures.openings
    c.in-Ok.ensures.honest
    (g.T.Tree.state c.sum_files.new.tree) (rw c.as_slice.ensures at c.sum_files.ensures.opens)

pub returns-in_err-steps-clause-opens : goal.returns-in_err-steps-clause-opens
returns-in_err-steps-clause-opens g c =
    opens_folder c.in-Ok.listing c.in-Ok.ensures.ordered _ _ c.list.ensures.keeps c.list.ensures.openings
    c.in-Ok.ensures.honest
    (g.T.Tree.state c.sum_files.new.tree) (rw c.as_slice.ensures at c.sum_files.ensures.opens)

pub returns-in_err-steps-clause-refused : goal.returns-in_err-steps-clause-refused
returns-in_err-steps-clause-refused g c =
    let p = err_from_is_err_and c.from_residual.result c.from_residual.ensures.1 in
    rw (p.1, p.2)
    (inr (nothing_refused _ _ (g.T.Tree.state c.sum_files.new.tree)
    (record {
      keeps = c.list.ensures.keeps;
      failures = c.in-Ok.ensures.no_failure;
      plain = c.in-Ok.ensures.plain;
      openings = c.list.ensures.openings;
      last = c.in-Ok.ensures.last;
    })
    c.in-Ok-sum_files.ensures.summed.no_failure))
