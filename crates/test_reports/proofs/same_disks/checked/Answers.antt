use Rattle.std.proofs.Common.{◌≡◌, ℕ, List, [], Option, None, refl, subst}
use Rattle.bag_program.specs.SystemReports.{unread_reports}
use Rattle.bag_reports.specs.Reports.{ReportsState}
use Rattle.bag_archive.specs.Archive.{ArchiveState}
use Rattle.bag_archive.specs.MemoryArchive.{state_of_bytes}
use Rattle.bag_tree.specs.Tree.{TreeState}
use Rattle.bag_disk.specs.Disk.{DiskState}
use Rattle.bag_store.specs.FileTree.{tree_state}
use Rattle.test_disk.specs.MemoryDisk.{fresh, state_of}
use Rattle.bag_arguments.specs.declared.plan.Action.{Action}
use Rattle.bag_cli.specs.Checked.{AreChecksOf}
use Rattle.bag_cli.specs.Performed.{AreChecked, IsChecked, IsDoneBy, IsPerformed}
use Rattle.test_reports.specs.declared.same_disks.SameDisks.{SameDisks}
use Rattle.test_reports.proofs.same_disks.checked.Goals as goal

pub returns : goal.returns
returns g c name one =
    let plan = c.args.plan.now in
    let below : List ℕ → DiskState = λ _. fresh (state_of c.args.held.now).nodes in
    let archived : List ℕ → ArchiveState = λ _. state_of_bytes [] in
    let reported : List (List ℕ) → ReportsState = λ _. unread_reports 0 in
    let file : List ℕ → Option (List ℕ) → Type 0 = λ _ bytes. bytes ≡ None in
    let before = g.O.Out.state c.args.out.now in
    let after = g.O.Out.state c.perform.new.out in
    let n = c.perform.result in
    let performed = c.perform.ensures.performed in
    let visits = performed.0 in
    let over : SameDisks → Type 0 = λ disks.
    IsPerformed (λ _. fresh (state_of disks.held.now).nodes) archived reported file plan before after visits n in
    let done = subst over c.of-visits.ensures.disks performed.2 in
    let acted = subst (λ (action : Action). IsDoneBy action below archived reported file plan before after visits n) one.0 done in
    let checks =
    subst (λ (path : Option (List ℕ)). IsChecked (AreChecked below plan) file plan path before after visits n) one.1
    acted in
    let tree_of : List ℕ → TreeState = λ name. tree_state (below name) 0 in
    let check =
    subst (λ (names : List (List ℕ)). AreChecksOf plan None tree_of names before after visits n) one.2 checks in
    c.honest_disks_are_reported.ensures plan None below name before after visits n refl one.3 check
