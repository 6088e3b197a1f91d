use Rattle.bag_disk.proofs.Common.{◌≡◌, IsTrue, IsReachedTo, OnlyLooks}
use Rattle.bag_disk.proofs.opening.check_folders.Given as goal

abbrev pub invariant-loop-end : goal.invariant-loop-end
invariant-loop-end g l =
    let old = g.D.Disk.state l.initial.disk in
    OnlyLooks old (g.D.Disk.state l.disk)
    × ((g.D.Disk.state l.disk).failures ≡ old.failures)
    × (IsTrue old.honest → IsReachedTo old.nodes l.path l.end)
