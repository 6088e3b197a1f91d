use Rattle.std.proofs.lemmas.Bool.{both_ways}
use Rattle.bag_report.proofs.WholeBag.{accepted_all, excluded_all, undeclared_all}
use Rattle.bag_report.proofs.whole_bag.version_faults.Goals as goal

pub returns-in_default : goal.returns-in_default
returns-in_default c = λ bag facts.
    undeclared_all bag c.args.profile.now c.new.result.items c.new.ensures.items (c.in_default.ensures bag facts)

pub returns-then-not-excludes : goal.returns-then-not-excludes
returns-then-not-excludes c = λ bag facts.
    accepted_all bag c.args.profile.now c.in-Some.version.now (c.in-Some.ensures bag facts)
    c.new-then-not-excludes.result.items c.new-then-not-excludes.ensures.items
    (λ other. both_ways _ c.if-not-excludes.true ((rw c.as_str.ensures at c.excludes.ensures).1 other))

pub returns : goal.returns
returns c = λ bag facts.
    excluded_all bag c.args.profile.now c.in-Some.version.now (c.in-Some.ensures bag facts) c.in_ok-vec.field-0.items
    c.in_ok-version_fault.field-0
    c.in_ok-vec.ensures.items c.in_ok-version_fault.ensures
    ((rw c.as_str.ensures at c.excludes.ensures).0 c.if-not-excludes.false)
