use Rattle.bag_renew_cli.proofs.Common.{◌∙◌, ap, refl, err_from_is_err_and}
use Rattle.bag_text.specs.AlgList.{with_member}
use Rattle.bag_renew_cli.proofs.Printed.{one_alg, printed}
use Rattle.bag_renew_cli.proofs.printing.print_manifest.Goals as goal

pub returns-in_err-put_texts-in-Ok : goal.returns-in_err-put_texts-in-Ok
returns-in_err-put_texts-in-Ok g c =
    rw (err_from_is_err_and c.from_residual.result c.from_residual.ensures.1).1
    (printed c.args.alg c.with.result
    (c.with.ensures.value ∙ ap (λ set. with_member set c.args.alg) c.empty.ensures ∙ one_alg c.args.alg)
    (g.T.Tree.state c.args.tree.now) (g.T.Tree.state c.new_manifests.new.tree) (g.W.Out.state c.args.out.now)
    (g.W.Out.state c.put_texts.new.out) _ c.in-Ok.made.items c.in-Ok.ensures.keeps c.in-Ok.ensures.opens
    c.in-Ok.ensures.same_bytes c.in-Ok.ensures.valid c.in-Ok.ensures.manifests
    (rw c.as_slice.ensures.value at c.in_err-put_texts-in-Ok.ensures))

pub returns-in_ok-put_texts-in-Ok : goal.returns-in_ok-put_texts-in-Ok
returns-in_ok-put_texts-in-Ok g c =
    printed c.args.alg c.with.result
    (c.with.ensures.value ∙ ap (λ set. with_member set c.args.alg) c.empty.ensures ∙ one_alg c.args.alg)
    (g.T.Tree.state c.args.tree.now) (g.T.Tree.state c.new_manifests.new.tree) (g.W.Out.state c.args.out.now)
    (g.W.Out.state c.put_texts.new.out) _ c.in-Ok.made.items c.in-Ok.ensures.keeps c.in-Ok.ensures.opens
    c.in-Ok.ensures.same_bytes c.in-Ok.ensures.valid c.in-Ok.ensures.manifests
    (refl, rw c.as_slice.ensures.value at c.in_ok-put_texts-in-Ok.ensures)
