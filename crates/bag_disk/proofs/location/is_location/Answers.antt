use Rattle.bag_disk.proofs.Common.{rules, ◌≢◌, ◌∙◌, [], sym}
use Rattle.bag_disk.proofs.Below.{location_cut}
use Rattle.bag_disk.proofs.location.is_location.Goals as goal

pub returns-then-separator-eq-SEPARATOR-clause-location : goal.returns-then-separator-eq-SEPARATOR-clause-location
returns-then-separator-eq-SEPARATOR-clause-location c = λ told.
    let some : c.args.path.now ≢ [] = search rules in
    rw (c.as_bytes.ensures.value, c.as_bytes-2.ensures.value, c.as_bytes-then-separator-eq-SEPARATOR.ensures.value) at
    (location_cut c.as_bytes.result.now c.as_bytes-2.result.now c.as_bytes-then-separator-eq-SEPARATOR.result.now
    c.in-Some.below.now c.in-Some-split_first.rest.now c.in-Some-split_first.separator.now
    (rw c.as_bytes-then-separator-eq-SEPARATOR.ensures.value some) c.in-Some.ensures.cases.0 c.in-Some.ensures.cases.1
    c.in-Some-split_first.ensures.cases.0 c.if-separator-eq-SEPARATOR.true (sym told ∙ c.eq.ensures))
