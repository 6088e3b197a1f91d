use Rattle.bag_cli.proofs.Common.{[], ◌∷◌, refl, Ok, Err, Read}
use Rattle.bag_cli.proofs.Tars.{form_of_read}
use Rattle.bag_program.proofs.Turns.{added}
use Rattle.bag_cli.proofs.work.Work.check_all.Goals as goal

pub returns-in-Ok : goal.returns-in-Ok
returns-in-Ok g c =
    let done = c.check_by.ensures in
    let plan = c.args.self.now.plan.now in
    let file = c.in-Ok.ensures in
    let read = Read c.in-Some.path file.answer in (
      read ∷ done.0,
      added _ _ _ (read ∷ []) done.0 (rw c.as_str.ensures at file.visits) done.1,
      rw c.in-Some.is (
        file.answer,
        Ok c.in-Ok.read,
        done.0,
        refl,
        rw c.as_str.ensures at file.is_answer,
        file.is_read,
        form_of_read _ _ plan plan.action c.in-Ok.read _ (g.O.Out.state c.args.out.now) (g.O.Out.state c.check_by.new.out) done.0 _
            c.in_form-formed.ensures done.2,
      ),
    )

pub returns-in-Err : goal.returns-in-Err
returns-in-Err g c =
    let file = c.in-Err.ensures in (
      Read c.in-Some.path file.answer ∷ [],
      rw c.as_str.ensures at file.visits,
      rw c.in-Some.is (
        file.answer,
        Err c.in-Err.refusal,
        [],
        refl,
        rw c.as_str.ensures at file.is_answer,
        file.is_read,
        (c.refuse_profile.ensures.status, refl, refl),
      ),
    )
