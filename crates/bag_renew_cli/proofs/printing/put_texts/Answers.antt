use Rattle.bag_renew_cli.proofs.Common.{◌∙◌, ap, err_from_is_err_and}
use Rattle.bag_renew_cli.proofs.Texts.{cut_after}
use Rattle.bag_renew_cli.specs.Printing.{text_of}
use Rattle.bag_renew_cli.proofs.printing.put_texts.Goals as goal

pub returns-in_err-put_all : goal.returns-in_err-put_all
returns-in_err-put_all g c =
    rw (err_from_is_err_and c.from_residual.result c.from_residual.ensures.1).1 (
      cut_after text_of _ _ _ _ c.loop-one.one-index c.one-item.result c.loop-one-test.true c.one-item.is
          c.loop-one.invariant (rw (c.as_slice.ensures ∙ ap text_of c.one.view_is) at c.in_err-put_all.ensures.0),
      c.in_err-put_all.ensures.1,
    )
