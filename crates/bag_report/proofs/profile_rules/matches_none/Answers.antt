use Rattle.bag_report.proofs.ListRules.{matches_none_none, matches_none_some}
use Rattle.bag_report.proofs.profile_rules.matches_none.Goals as goal

pub returns-in_default : goal.returns-in_default
returns-in_default c = matches_none_none c.args.profile.now c.args.rule c.in_default.ensures.names c.args.name.now

pub returns : goal.returns
returns c =
    matches_none_some c.args.profile.now c.args.rule c.in-Some.patterns.now c.in-Some.ensures.names c.args.name.now
    c.matches_some.result c.matches_some.ensures
