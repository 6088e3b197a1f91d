use Rattle.bag_stages.proofs.Common.{take, IsListOf, fault_cmp, AreByPath, AreByLine, IsNotNamedAmong}
use Rattle.bag_stages.proofs.fetch.left_out_of.Given as goal

abbrev pub invariant-loop-entry : goal.invariant-loop-entry
invariant-loop-entry l =
    AreByPath l.manifest.entries → AreByLine l.entries
    → IsListOf fault_cmp (IsNotNamedAmong l.path l.manifest.alg l.manifest.entries (take l.entry-index l.entries))
    l.faults.items
