use Rattle.bag_disk.proofs.Common.{◌≡◌, ◌≤◌, ◌+◌, List, ℕ, IsTrue, vec_len, OnlyLooks, AllArePaths, Listing}
use Rattle.bag_disk.proofs.folder_walk.FolderWalk.list_names.Given as goal

abbrev pub invariant-loop-self : goal.invariant-loop-self
invariant-loop-self g l =
    let old = g.D.Disk.state l.initial.disk in
    OnlyLooks old (g.D.Disk.state l.disk)
    × (IsTrue old.honest → (listed : List (List ℕ))
    → Listing old.nodes l.initial.self.files.items l.initial.self.folders.items listed l.folder old.names
    → Listing old.nodes l.self.files.items l.self.folders.items listed l.folder (g.D.Disk.state l.disk).names)
    × (l.self.listed.items ≡ l.initial.self.listed.items)
    × (vec_len l.self.folders + l.self.room ≤ vec_len l.initial.self.folders + l.initial.self.room)
    × (AllArePaths l.initial.self.files.items l.initial.self.folders.items
    → AllArePaths l.self.files.items l.self.folders.items)
    × ((g.D.Disk.state l.disk).failures ≡ old.failures)

abbrev pub decreases-loop-self : goal.decreases-loop-self
decreases-loop-self g l = l.self.room
