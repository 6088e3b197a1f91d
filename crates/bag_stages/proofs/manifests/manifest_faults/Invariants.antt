use Rattle.bag_stages.proofs.Common.{take, IsListOf, Bag, fault_cmp, IsFactsOf}
use Rattle.bag_stages.proofs.ByItem.{OfSome}
use Rattle.bag_stages.proofs.ManifestFaults.{OfTag}
use Rattle.bag_stages.proofs.manifests.manifest_faults.Given as goal

abbrev pub invariant-loop-tag : goal.invariant-loop-tag
invariant-loop-tag l = (bag : Bag) → IsFactsOf bag l.facts
    → IsListOf fault_cmp (OfSome (OfTag bag) (take l.tag-index l.tag-items)) l.faults.items
