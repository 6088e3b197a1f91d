use Rattle.bag_walk.proofs.Common.{subst, codes, err_from_is_err_and, field, option_copied, IsCut, Writes, ◌+◌}
use Rattle.std.specs.Prelude.{decimal}
use Rattle.bag_tree.proofs.Writing.{IsCut-append, five_joined, writes_after}
use Rattle.bag_walk.specs.PartRuns.{cut_line}
use Rattle.bag_walk.proofs.part_run.put_end.Goals as goal

pub returns-in_err-put_line : goal.returns-in_err-put_line
returns-in_err-put_line g c =
    let p = err_from_is_err_and c.from_residual.result c.from_residual.ensures.1 in
    let part = c.args.part in
    let wrote = rw (
      c.format.ensures.text,
      c.format-2.ensures.text,
      c.number-place.ensures.number,
      c.of-parts.ensures.of,
    ) at c.in_err-put_line.ensures in
    rw p.1 (
      subst (IsCut _ _)
          (five_joined (field c.args.name.now) (codes " part ") (decimal (part.number + 1)) (codes " of ")
          (decimal part.of) (cut_line c.args.how.now c.args.listed c.args.clashes (option_copied c.args.profile_sum) c.args.count))
          (IsCut-append _ _ _ _ wrote.0),
      wrote.1,
    )

pub returns : goal.returns
returns g c =
    let part = c.args.part in
    let wrote = rw (
      c.format.ensures.text,
      c.format-2.ensures.text,
      c.number-place.ensures.number,
      c.of-parts.ensures.of,
    ) at c.in_ok-put_line.ensures in
    let before = g.W.Out.state c.args.out.now in
    let after = g.W.Out.state c.put_cut.new.out in
    subst (λ text. Writes before after text c.put_cut.result)
    (five_joined (field c.args.name.now) (codes " part ") (decimal (part.number + 1)) (codes " of ")
    (decimal part.of) (cut_line c.args.how.now c.args.listed c.args.clashes (option_copied c.args.profile_sum) c.args.count))
    (writes_after before (g.W.Out.state c.put_line.new.out) after _ _ _ c.put_cut.ensures wrote)
