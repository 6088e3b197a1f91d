use Rattle.bag_renew_cli.proofs.Statuses.{reported_status}
use Rattle.bag_renew_cli.proofs.renewals.RenewalsFolderDeed.do_with.Goals as goal

pub returns-clause-status : goal.returns-clause-status
returns-clause-status g c =
    reported_status c.args.self.now.plan.now c.args.self.now.action c.args.name.now _ _ _ _ c.do_by-told.result
    c.do_by-told.ensures
