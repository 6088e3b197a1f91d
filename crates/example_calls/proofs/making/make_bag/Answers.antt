use Rattle.example_calls.proofs.Advised.{is_advised}
use Rattle.example_calls.proofs.making.make_bag.Goals as goal

pub returns : goal.returns
returns g c =
    let promised = rw (c.with-algs.ensures.value, c.with.ensures.value, c.empty.ensures, c.in_ok-label.ensures, c.in_ok-value.ensures)
    at c.make-tree.ensures.makes in
    rw c.what_follows.ensures (record { advised = is_advised _ _ _ _ promised })
