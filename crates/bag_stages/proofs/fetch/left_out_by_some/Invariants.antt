use Rattle.bag_stages.proofs.Common.{◌≡◌, take, IsListOf, fault_cmp, IfBagRead}
use Rattle.bag_stages.proofs.Common.{AreFetched, IsFetchLeftOutByOne, fetch_txt}
use Rattle.bag_stages.proofs.ByItem.{OfSome}
use Rattle.bag_stages.proofs.fetch.left_out_by_some.Given as goal

abbrev pub invariant-loop-alg : goal.invariant-loop-alg
invariant-loop-alg l =
    IfBagRead l.facts (λ bag. l.path ≡ fetch_txt → AreFetched bag l.entries
    → IsListOf fault_cmp (OfSome (IsFetchLeftOutByOne bag) (take l.alg-index l.alg-items)) l.faults.items)
