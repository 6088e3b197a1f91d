use Rattle.bag_stages.proofs.Common.{◌≡◌, true, false, sym, ◌∙◌, IfOk-weaker, contains_nothing, nothing_listed}
use Rattle.bag_stages.proofs.Common.{fault_cmp, IsLeftOutByAll, IsNamedBySome, IsFetchLeftOutByAll, None}
use Rattle.bag_stages.proofs.FetchFaults.{left_listed}
use Rattle.bag_stages.proofs.LeftOut.{some_member}
use Rattle.bag_stages.proofs.fetch.left_out_by_all.Goals as goal

pub returns-then-is_empty : goal.returns-then-is_empty
returns-then-is_empty c = λ bag facts deep at fetched.
    rw c.new.ensures.items
    (nothing_listed fault_cmp (IsFetchLeftOutByAll bag) (λ f h. let some = h.1.3.0 in contains_nothing some.0
    (rw (c.is_empty.ensures.0 c.if-is_empty.true) at ((c.algs.ensures bag facts some.0).1 some.1))))

pub returns : goal.returns
returns c = IfOk-weaker c.named_by_none.result _ _
    (λ faults list bag facts deep at fetched.
    let some =
    some_member _ (λ e. let clash : true ≡ false = sym (c.is_empty.ensures.1 e) ∙ c.if-is_empty.false in cc) in
    left_listed bag None (IsLeftOutByAll bag) c.args.path.now c.args.entries.now (IsNamedBySome bag) faults.items at
    fetched (λ p out. out.1)
    (λ p none. ((some.0, (c.algs.ensures bag facts some.0).0 some.1), none)) (list bag facts deep))
    c.named_by_none.ensures
