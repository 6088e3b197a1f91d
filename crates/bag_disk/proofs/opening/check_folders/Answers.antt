use Rattle.bag_disk.proofs.Common.{err_from_is_err_and, ◌≡◌, ◌∙◌, IsTrue, Some, refl, arith, HasSpecial}
use Rattle.bag_disk.proofs.Common.{IsReachedByFolders, node, Folder}
use Rattle.bag_disk.proofs.DiskPaths.{slash_passed, other_passed, slash_reached, slash_refused}
use Rattle.bag_disk.proofs.DiskSteps.{looks_at_first, looks_on}
use Rattle.bag_disk.proofs.Looked.{had_before}
use Rattle.bag_disk.proofs.Refusals.{due_for}
use Rattle.bag_disk.specs.DiskNodes.{WhereReached}
use Rattle.bag_disk.proofs.opening.check_folders.Goals as goal
use Rattle.bag_disk.proofs.opening.check_folders.Goals.{then-byte-eq47+in_ok-check_is_folder, else-byte-eq47}

pub loop-end-init : goal.loop-end-init
loop-end-init g c = (
  looks_at_first (g.D.Disk.state c.args.disk.now),
  refl,
  λ honest folder rest same less.
      absurd (omega arith),
)

pub range-requires-clause-end_boundary : goal.range-requires-clause-end_boundary
range-requires-clause-end_boundary g c = grind arith

pub returns-in_err-check_is_folder-clause-refused : goal.returns-in_err-check_is_folder-clause-refused
returns-in_err-check_is_folder-clause-refused g c =
    let old = g.D.Disk.state c.args.disk.now in
    let mid = g.D.Disk.state c.loop-end.disk in
    let folder = c.range.result.now in
    let reached : IsTrue old.honest → IsReachedByFolders old.nodes folder = λ honest.
    slash_reached old.nodes c.args.path.now _ folder c.loop-end.end c.as_bytes-byte-items.ensures.value
    c.range.ensures.value c.loop-end-test.true c.if-byte-eq47.true (c.loop-end.invariant.2 honest) in
    let p = err_from_is_err_and c.from_residual.result c.from_residual.ensures.1 in
    rw (p.1, p.2)
    (due_for (WhereReached mid folder (HasSpecial mid.nodes)) ⊥
    (WhereReached mid folder (node mid.nodes folder ≡ Some Folder → ⊥)) ⊥ _ _ _ _ _
    (λ special honest.
    had_before _ _ c.loop-end.invariant.0 (λ nodes. IsReachedByFolders nodes folder → HasSpecial nodes) special
    honest (reached honest))
    (λ never. never)
    (λ none honest. slash_refused old.nodes c.args.path.now _ folder c.loop-end.end
    (g.met.D.Disk.is_disk c.args.disk.now) c.as_bytes-byte-items.ensures.value c.range.ensures.value
    c.loop-end-test.true c.if-byte-eq47.true
    (had_before _ _ c.loop-end.invariant.0
    (λ nodes. IsReachedByFolders nodes folder → node nodes folder ≡ Some Folder → ⊥) none honest (reached honest)))
    (λ never. never)
    c.in_err-check_is_folder.ensures.refused)

pub loop-end-preserved : goal.loop-end-preserved
loop-end-preserved g c = elim c.if-byte-eq47.branch [
  | then-byte-eq47+in_ok-check_is_folder w ↦ rw w.disk-is (
    looks_on _ _ _ c.loop-end.invariant.0 w.in_ok-check_is_folder.ensures.looks,
    w.in_ok-check_is_folder.ensures.failures ∙ c.loop-end.invariant.1,
    λ honest. slash_passed _ c.args.path.now _ w.range.result.now c.loop-end.end
        c.as_bytes-byte-items.ensures.value w.range.ensures.value c.loop-end-test.true w.if-byte-eq47.true
        (c.loop-end.invariant.2 honest)
        (had_before _ _ c.loop-end.invariant.0
        (λ nodes. IsReachedByFolders nodes w.range.result.now → node nodes w.range.result.now ≡ Some Folder)
        w.in_ok-check_is_folder.ensures.folder honest),
  )
  | else-byte-eq47 w ↦ rw w.disk-is (
    c.loop-end.invariant.0,
    c.loop-end.invariant.1,
    λ honest. other_passed _ c.args.path.now _ c.loop-end.end c.as_bytes-byte-items.ensures.value w.if-byte-eq47.false
        (c.loop-end.invariant.2 honest),
  )
]
