use Rattle.bag_stages.proofs.Common.{arith}
use Rattle.bag_stages.proofs.FetchFaults.{fetch_list_listed, no_list_listed, textless_list_listed}
use Rattle.bag_stages.proofs.fetch.fetch_faults.Goals as goal

pub returns-in_default : goal.returns-in_default
returns-in_default c = λ bag facts deep.
    rw c.new.ensures.items (no_list_listed bag (rw c.in_default.is at c.fetch_list.ensures bag facts deep))

pub returns-then-not-list : goal.returns-then-not-list
returns-then-not-list c = λ bag facts deep. grind (arith, textless_list_listed)

pub returns : goal.returns
returns c = λ bag facts deep.
    fetch_list_listed bag c.in-Some.list.now c.in_ok-faults.faults.items c.in_ok-of_manifests.of_manifests.items
    c.sort_unstable.new.self.items (c.in-Some.ensures bag facts deep) c.if-not-list.false
    (rw (c.as_slice.ensures, c.in_ok-path.ensures) at c.in_ok-faults.ensures)
    (λ fetched. c.in_ok-of_manifests.ensures bag facts deep c.in_ok-path.ensures (rw c.as_slice-2.ensures fetched))
    (rw c.in_ok-append.ensures.items at c.sort_unstable.ensures.permutation) c.sort_unstable.ensures.sorted
