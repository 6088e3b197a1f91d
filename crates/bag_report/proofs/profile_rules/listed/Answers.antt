use Rattle.bag_report.proofs.Conforming.{[], refl}
use Rattle.bag_report.proofs.ListRules.{lists_none, lists_some}
use Rattle.bag_report.proofs.profile_rules.listed.Goals as goal

pub returns-in-Some : goal.returns-in-Some
returns-in-Some c = lists_some c.args.profile.now c.args.rule c.in-Some.names.now c.in-Some.ensures.names

pub returns-in-None : goal.returns-in-None
returns-in-None c = lists_none c.args.profile.now c.args.rule [] refl c.in-None.ensures.names
