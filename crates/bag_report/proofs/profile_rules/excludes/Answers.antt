use Rattle.bag_report.proofs.Conforming.{arith}
use Rattle.bag_report.proofs.ListRules.{excludes_none, excludes_some}
use Rattle.bag_report.proofs.profile_rules.excludes.Goals as goal

pub returns-in-Some : goal.returns-in-Some
returns-in-Some c = grind (arith, excludes_some)

pub returns-in-None : goal.returns-in-None
returns-in-None c = excludes_none c.args.profile.now c.args.rule c.in-None.ensures.names c.args.name.now
