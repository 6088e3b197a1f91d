use Rattle.bag_stages.proofs.Common.{◌≡◌, ℕ, List, take, Contains, IsStrictlySortedBy, IsListOf, text_cmp, fault_cmp}
use Rattle.bag_stages.proofs.Common.{first_of_form, IsClashOf, texts_of}
use Rattle.bag_stages.proofs.ByItem.{OfSome}
use Rattle.bag_stages.proofs.ClashFaults.{head_of}
use Rattle.bag_stages.proofs.LeastNames.{of_form}
use Rattle.bag_stages.proofs.clashes.clashes_among.Given as goal

abbrev pub invariant-loop-name : goal.invariant-loop-name
invariant-loop-name l =
    let names = texts_of l.names in
    IsStrictlySortedBy text_cmp names
    → ((form : List ℕ) → first_of_form l.firsts form ≡ head_of (of_form form (take l.name-index names)))
    × IsListOf fault_cmp (OfSome (IsClashOf (Contains names)) (take l.name-index names)) l.faults.items
