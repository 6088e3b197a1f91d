use Rattle.bag_renew_cli.proofs.renewals.Renewals.do_by.Goals as goal

pub returns-in-Renew : goal.returns-in-Renew
returns-in-Renew g c = rw c.in-Renew.is c.renew_and_report.ensures

pub returns-in-DryRun : goal.returns-in-DryRun
returns-in-DryRun g c = rw c.in-DryRun.is c.plan_and_report.ensures

pub returns-in-Print : goal.returns-in-Print
returns-in-Print g c = rw c.in-Print.is c.print_manifest.ensures
