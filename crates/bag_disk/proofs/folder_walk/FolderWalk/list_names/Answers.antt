use Rattle.bag_disk.proofs.Common.{◌∙◌, Err, IsTrue, ap, refl, arith, err_from_is_err_and, Has, HasSpecial, path_in}
use Rattle.bag_disk.proofs.DiskSteps.{turn, next_there, folder_ended, looks_at_first, looks_on, all_stand}
use Rattle.bag_disk.proofs.Plain.{unnamed_there}
use Rattle.bag_disk.proofs.Refusals.{due_for_special, due_of_name}
use Rattle.bag_disk.proofs.folder_walk.FolderWalk.list_names.Goals as goal

pub loop-self-init : goal.loop-self-init
loop-self-init g c = (
  looks_at_first (g.D.Disk.state c.args.disk.now),
  λ honest listed now.
      now,
  refl,
  omega arith,
  λ paths. paths,
  refl,
)

pub add-requires-clause-name : goal.add-requires-clause-name
add-requires-clause-name g c = rw c.as_str.ensures (rw c.in-Ok-Some.field-0-is at c.in-Ok-Some.ensures.path)

pub loop-self-preserved : goal.loop-self-preserved
loop-self-preserved g c =
    let added = c.in_ok-add-in-Ok-Some.ensures in (
      looks_on _ _ _ (looks_on _ _ _ c.loop-self.invariant.0 c.in-Ok-Some.ensures.looks) added.looks,
      λ honest listed begun.
          rw added.names (turn _ _ _ c.in-Ok-Some.field-0 _ _ _ _ listed c.args.folder.now c.in-Ok-Some.name
          c.as_str.result.now
          c.loop-self.invariant.0 c.in-Ok-Some.ensures.looks c.in-Ok-Some.field-0-is c.in-Ok-Some.ensures.honest
          c.as_str.ensures added.walked honest (c.loop-self.invariant.1 honest listed begun)),
      added.listed ∙ c.loop-self.invariant.2,
      omega (arith, added.left, c.loop-self.invariant.3),
      λ paths. added.paths (c.loop-self.invariant.4 paths),
      added.failures ∙ c.in-Ok-Some.ensures.failures ∙ c.loop-self.invariant.5,
    )

pub loop-self-preserved-in_ok-add-in-Ok-Some : goal.loop-self-preserved-in_ok-add-in-Ok-Some
loop-self-preserved-in_ok-add-in-Ok-Some g c =
    let added = c.in_ok-add-in-Ok-Some.ensures in (
      looks_on _ _ _ (looks_on _ _ _ c.loop-self.invariant.0 c.in-Ok-Some.ensures.looks) added.looks,
      λ honest listed begun.
          rw added.names (turn _ _ _ c.in-Ok-Some.field-0 _ _ _ _ listed c.args.folder.now c.in-Ok-Some.name
          c.as_str.result.now
          c.loop-self.invariant.0 c.in-Ok-Some.ensures.looks c.in-Ok-Some.field-0-is c.in-Ok-Some.ensures.honest
          c.as_str.ensures added.walked honest (c.loop-self.invariant.1 honest listed begun)),
      added.listed ∙ c.loop-self.invariant.2,
      omega (arith, added.left, c.loop-self.invariant.3),
      λ paths. added.paths (c.loop-self.invariant.4 paths),
      added.failures ∙ c.in-Ok-Some.ensures.failures ∙ c.loop-self.invariant.5,
    )

pub returns-in_err-add-in-Ok-Some-clause-refused : goal.returns-in_err-add-in-Ok-Some-clause-refused
returns-in_err-add-in-Ok-Some-clause-refused g c =
    let looks =
    looks_on (g.D.Disk.state c.args.disk.now) _ (g.D.Disk.state c.next_name.new.self) c.loop-self.invariant.0
    c.in-Ok-Some.ensures.looks in
    let p = err_from_is_err_and c.from_residual.result c.from_residual.ensures.1 in
    rw (p.1, p.2) (due_for_special
    (IsTrue (g.D.Disk.state c.next_name.new.self).honest
    → Has (g.D.Disk.state c.next_name.new.self).nodes (path_in c.args.folder.now c.as_str.result.now)
    → HasSpecial (g.D.Disk.state c.next_name.new.self).nodes) _ _ _ _ _
    (λ special honest listed begun.
    rw looks.nodes at
    (special (looks.honest ∙ honest)
    (next_there _ _ _ c.in-Ok-Some.field-0 _ _ listed c.args.folder.now c.in-Ok-Some.name
    c.as_str.result.now
    c.loop-self.invariant.0 c.in-Ok-Some.ensures.looks c.in-Ok-Some.field-0-is c.in-Ok-Some.ensures.honest
    c.as_str.ensures honest (c.loop-self.invariant.1 honest listed begun))))
    c.in_err-add-in-Ok-Some.ensures.refused)

pub returns-in-Ok-None-clause-paths : goal.returns-in-Ok-None-clause-paths
returns-in-Ok-None-clause-paths g c = c.loop-self.invariant.4

pub returns-in-Ok-None-clause-walked : goal.returns-in-Ok-None-clause-walked
returns-in-Ok-None-clause-walked g c = λ honest listed begun. grind (arith, folder_ended)

pub returns-in-Err-clause-refused : goal.returns-in-Err-clause-refused
returns-in-Err-clause-refused g c =
    let nodes = (g.D.Disk.state c.args.disk.now).nodes in
    due_of_name _ _ _ _ c.in-Err.fault c.of_name.result c.of_name.ensures (λ is honest listed begun.
    unnamed_there nodes c.args.folder.now _ (c.loop-self.invariant.1 honest listed begun).there
    (c.in-Err.ensures.unnamed (ap Err is) (c.loop-self.invariant.0.honest ∙ honest)))

pub returns-clause-refused : goal.returns-clause-refused
returns-clause-refused g c = λ honest listed begun. grind (arith, all_stand)
