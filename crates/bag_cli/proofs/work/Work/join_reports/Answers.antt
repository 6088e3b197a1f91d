use Rattle.bag_cli.proofs.Common.{◌∷◌, [], inl, inr, refl, err_from_is_err_and, Asked, Closed}
use Rattle.bag_program.proofs.Turns.{added}
use Rattle.bag_cli.proofs.work.Work.join_reports.Goals as goal

pub returns-in_err-reports : goal.returns-in_err-reports
returns-in_err-reports g c =
    rw (err_from_is_err_and c.from_residual.result c.from_residual.ensures.1).1 (
      Asked c.args.self.now.plan.now.directories ∷ [],
      rw c.as_slice-paths.ensures at c.in_err-reports.ensures.asked,
      inl (refl, refl, refl),
    )

pub returns : goal.returns
returns g c =
    let paths = c.args.self.now.plan.now.directories in
    let new = g.D.Reports.Reports.state c.join-reports.result.0 in (
      Asked paths ∷ Closed new ∷ [],
      added _ _ _ (Asked paths ∷ []) (Closed new ∷ [])
          (rw c.as_slice-paths.ensures at c.in_ok-reports.ensures.asked) c.close.ensures,
      inr (record {
        new = new;
        joined = c.join-reports.result.1;
        visits_are = refl;
        join = record {
          is_joined = c.join-reports.ensures.joined;
          untouched = c.join-reports.ensures.untouched;
          whole = rw (c.in_ok-reports.ensures.state, c.as_slice-paths.ensures) at c.join-reports.ensures.whole;
          left = c.join-reports.ensures.left;
        };
        status_is = c.tell_joined-status.ensures;
      }),
    )
