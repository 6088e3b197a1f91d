use Rattle.bag_store.proofs.FilledFiles.{HasPieces}
use Rattle.bag_store.proofs.Common.{◌≡◌, ◌≤◌, ◌-◌, length, take, HasWritten}
use Rattle.bag_store.proofs.writing.write_all.Given as goal

abbrev pub invariant-loop-done : goal.invariant-loop-done
invariant-loop-done g l =
    (l.done ≤ length l.bytes) × (g.D.WritableDisk.written l.disk ≡ g.D.WritableDisk.written l.initial.disk)
    × HasWritten (g.D.Disk.state l.initial.disk) (g.D.Disk.state l.disk) (g.D.WritableDisk.written l.initial.disk)
    (take l.done l.bytes)
    × ((g.D.Disk.state l.disk).failures ≡ (g.D.Disk.state l.initial.disk).failures)
    × HasPieces (g.D.WritableDisk.written l.initial.disk) (g.D.Disk.state l.initial.disk) (g.D.Disk.state l.disk)
    (take l.done l.bytes)

abbrev pub decreases-loop-done : goal.decreases-loop-done
decreases-loop-done g l = length l.bytes - l.done
