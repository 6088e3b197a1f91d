use Rattle.bag_changes.proofs.Common.{◌≡◌, ◌∙◌, ◌++◌, List, sym, ap, subst, append_assoc, File}
use Rattle.std.proofs.lemmas.Result.{IfOk-weaker}
use Rattle.bag_changes.specs.Composing.{AreInPathOrder}
use Rattle.bag_checked.specs.Summed.{AreSummedBy}
use Rattle.bag_changes.proofs.SummedFiles.{some_more, summed_so}
use Rattle.bag_changes.proofs.named.named_tag_files.Goals as goal

pub returns : goal.returns
returns c =
    let algs = c.args.algs in
    let first = c.args.first.now in
    let last = c.args.last.now in
    let before = c.in_ok-sum_texts.field-0.items in
    let after = c.in_ok-sum_texts-2.field-0.items in
    let all : c.append-2.new.self.items ≡ (c.args.tags.items ++ before) ++ after =
    c.in_ok-append-2.ensures.items ∙ ap (λ xs. xs ++ after) c.in_ok-append.ensures.items in
    IfOk-weaker c.in_path_order.result _ (λ named. (files : List File) → AreSummedBy algs files c.args.tags.items
    → AreInPathOrder algs (files ++ (first ++ last)) named.items) (λ named h files are.
    subst (λ of. AreInPathOrder algs of named.items) (append_assoc files first last)
    (h algs ((files ++ first) ++ last) (subst (AreSummedBy algs ((files ++ first) ++ last)) (sym all)
    (some_more algs (files ++ first) last (c.args.tags.items ++ before) after
    (some_more algs files first c.args.tags.items before are (summed_so algs first before c.in_ok-sum_texts.ensures))
    (summed_so algs last after c.in_ok-sum_texts-2.ensures))))) c.in_path_order.ensures
