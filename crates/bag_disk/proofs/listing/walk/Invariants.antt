use Rattle.bag_disk.proofs.Common.{◌≡◌, ◌+◌, [], IsTrue, vec_len, OnlyLooks, AllArePaths, Walked}
use Rattle.bag_disk.proofs.listing.walk.Given as goal

abbrev pub invariant-loop-folder : goal.invariant-loop-folder
invariant-loop-folder g l =
    OnlyLooks (g.D.Disk.state l.initial.disk) (g.D.Disk.state l.disk)
    × (IsTrue (g.D.Disk.state l.initial.disk).honest
    → Walked (g.D.Disk.state l.initial.disk).nodes l.walk.files.items l.walk.folders.items l.walk.listed.items [])
    × AllArePaths l.walk.files.items l.walk.folders.items
    × ((g.D.Disk.state l.disk).failures ≡ (g.D.Disk.state l.initial.disk).failures)

abbrev pub decreases-loop-folder : goal.decreases-loop-folder
decreases-loop-folder g l = vec_len l.walk.folders + l.walk.room
