use Rattle.bag_changes.proofs.Common.{◌≡◌, ◌∙◌, [], List, sym, subst, Alg, File}
use Rattle.std.proofs.lemmas.Result.{IfOk-weaker}
use Rattle.bag_changes.specs.Composing.{AreInPathOrder}
use Rattle.bag_checked.specs.Summed.{AreSummedBy}
use Rattle.bag_changes.proofs.InPathOrder.{IsPutFrom, all_put, no_length, put_none, put_one_more}
use Rattle.bag_changes.proofs.named.in_path_order.Goals as goal

pub loop-one-init : goal.loop-one-init
loop-one-init c = λ algs of are.
    subst (λ put. IsPutFrom algs of c.args.files.items put) (sym c.new-by_path.ensures.empty)
    (put_none algs of c.args.files.items are)

pub loop-one-preserved : goal.loop-one-preserved
loop-one-preserved c = λ algs of are.
    put_one_more algs of c.pop.new.self.items c.loop-one.by_path.entries c.insert.new.self.entries c.in-Some.one
    (subst (λ left. IsPutFrom algs of left c.loop-one.by_path.entries) c.in-Some.ensures.items
    (c.loop-one.invariant algs of are))
    c.in_ok-insert.ensures.entries

pub returns : goal.returns
returns c =
    let none : c.loop-one.files.items ≡ [] =
    no_length c.loop-one.files.items (sym c.loop-one.files.ok.0 ∙ c.in_default.ensures.cases.0) in
    IfOk-weaker c.listed.result _ (λ ordered. (algs : List Alg) (of : List File) → AreSummedBy algs of c.args.files.items
    → AreInPathOrder algs of ordered.items) (λ ordered h algs of are.
    subst (AreSummedBy algs _) (sym h) (all_put algs of c.loop-one.by_path.entries
    (subst (λ left. IsPutFrom algs of left c.loop-one.by_path.entries) none (c.loop-one.invariant algs of are))))
    c.listed.ensures
