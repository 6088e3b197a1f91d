-- A look at a disk before another call.
use Rattle.bag_disk.proofs.Common.{IsTrue, subst, ◌∙◌, DiskState, Nodes, OnlyLooks}

-- what an honest disk has then it had before
pub had_before : (old mid : DiskState) → OnlyLooks old mid → (P : Nodes → Type 0) → (IsTrue mid.honest → P mid.nodes)
    → IsTrue old.honest → P old.nodes
had_before old mid looks P then honest = subst P looks.nodes (then (looks.honest ∙ honest))
