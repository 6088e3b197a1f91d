use Rattle.bag_facts.proofs.Reading.{keeps_on}
use Rattle.bag_tree.proofs.Calm.{nothing_then}
use Rattle.bag_checked.proofs.CheckedBag.{has_checked}
use Rattle.bag_changes.proofs.Openings.{before_by_check, for_renewal_of_files, for_renewal_of_tags}
use Rattle.bag_checked.proofs.InTurn.{all_still}
use Rattle.bag_checked.proofs.InTurn.{gives_still, wanted_still}
use Rattle.bag_changes.proofs.ReadBag.{has_read_bag, own_way, refused_by_check, refused_by_facts, refused_stop}
use Rattle.bag_checked.proofs.StopsOfBag.{stop_of_facts}
use Rattle.bag_renewed.specs.Renewed.{reads_payload}
use Rattle.bag_changes.proofs.reading.read_bag.Goals as goal

pub returns-in-Err-clause-refused : goal.returns-in-Err-clause-refused
returns-in-Err-clause-refused g c =
    let old = g.T.Tree.state c.args.tree.now in
    let new = g.T.Tree.state c.read.new.tree in
    refused_stop c.args.renewal.now old new c.in-Err.stop c.stopped.result
    (stop_of_facts (λ bag. reads_payload bag c.args.renewal.now) old new c.in-Err.stop c.in-Err.ensures.refused
    c.in-Err.ensures.stop)
    c.stopped.ensures

pub returns-in-Err-check_facts-clause-refused : goal.returns-in-Err-check_facts-clause-refused
returns-in-Err-check_facts-clause-refused g c =
    let now = g.T.Tree.state c.check_facts.new.tree in
    refused_by_facts c.args.renewal.now c.in-Ok.facts (g.T.Tree.state c.args.tree.now) (g.T.Tree.state c.read.new.tree)
    now c.in-Ok.ensures.options c.in-Ok.ensures.seen c.in-Ok.ensures.facts c.read.ensures.keeps
    c.in-Ok.ensures.no_failure now c.check_facts.ensures.still c.in-Ok.ensures.opened c.in-Err-check_facts.fault
    c.in-Err-check_facts.ensures.refused

pub returns-in-Err-check_files-clause-refused : goal.returns-in-Err-check_files-clause-refused
returns-in-Err-check_files-clause-refused g c =
    let old = g.T.Tree.state c.args.tree.now in
    let mid = g.T.Tree.state c.read.new.tree in
    let now = g.T.Tree.state c.check_facts.new.tree in
    let new = g.T.Tree.state c.check_files.new.tree in
    let ok = c.in-Ok.ensures in
    let still = c.check_facts.ensures.still in
    refused_by_check c.args.renewal.now c.in-Ok.facts old now new ok.options ok.seen ok.facts
    (keeps_on old mid now c.read.ensures.keeps still.keeps)
    (nothing_then old mid now ok.no_failure c.in-Ok-check_facts.ensures.no_failure)
    (all_still c.in-Ok.facts.listing.files old mid now ok.opened still.openings) c.in-Ok-check_facts.target
    c.in-Ok-check_facts.ensures.target (own_way old mid c.read.ensures.keeps c.in-Ok-check_facts.ensures.way)
    c.in-Err-check_files.unchecked c.refusal.result c.in-Err-check_files.ensures.unchecked.stopped
    c.in-Err-check_files.ensures.unchecked.faulty c.refusal.ensures

pub returns-in-Ok-check_files-clause-read : goal.returns-in-Ok-check_files-clause-read
returns-in-Ok-check_files-clause-read g c =
    let old = g.T.Tree.state c.args.tree.now in
    let mid = g.T.Tree.state c.read.new.tree in
    let now = g.T.Tree.state c.check_facts.new.tree in
    let new = g.T.Tree.state c.check_files.new.tree in
    let ok = c.in-Ok.ensures in
    let still = c.check_facts.ensures.still in
    let keeps = keeps_on old mid now c.read.ensures.keeps still.keeps in
    let calm = nothing_then old mid now ok.no_failure c.in-Ok-check_facts.ensures.no_failure in
    let files = c.in-Ok.facts.listing.files in
    let given = ok.gave in
    has_read_bag c.args.renewal.now c.in-Ok.facts old now new ok.options ok.seen ok.facts keeps calm
    c.in-Ok-check_facts.target c.in-Ok-check_facts.ensures.target
    (own_way old mid c.read.ensures.keeps c.in-Ok-check_facts.ensures.way)
    c.in-Ok-check_files.checked.summed.items c.in-Ok-check_files.checked.info
    (has_checked c.in-Ok.facts c.in-Ok-check_facts.target.algs old now new ok.options ok.facts keeps
    c.in-Ok-check_facts.ensures.target.none c.in-Ok-check_facts.target.reads_payload c.in-Ok-check_files.checked.summed.items
    c.in-Ok-check_files.checked.info
    (given.0, given.1, given.2, gives_still given.0 files old mid now given.3 still.listed still.gave)
    (all_still files old mid now ok.opened still.openings) c.in-Ok-check_files.ensures.checked)
    (g.met.T.Tree.is_bag c.args.tree.now)
    (keeps_on old now new keeps c.check_files.ensures.keeps)
    (nothing_then old now new calm c.in-Ok-check_files.ensures.checked.once.no_failure)

pub returns-in-Err-clause-opens : goal.returns-in-Err-clause-opens
returns-in-Err-clause-opens g c =
    let old = g.T.Tree.state c.args.tree.now in
    let new = g.T.Tree.state c.read.new.tree in
    for_renewal_of_tags c.args.renewal.now old new new (g.met.T.Tree.is_bag c.args.tree.now) c.read.ensures.opens

pub returns-in-Err-clause-opens_before : goal.returns-in-Err-clause-opens_before
returns-in-Err-clause-opens_before g c = λ _. c.read.ensures.opens

pub returns-in-Err-check_facts-clause-opens : goal.returns-in-Err-check_facts-clause-opens
returns-in-Err-check_facts-clause-opens g c =
    let old = g.T.Tree.state c.args.tree.now in
    let mid = g.T.Tree.state c.read.new.tree in
    let now = g.T.Tree.state c.check_facts.new.tree in
    for_renewal_of_tags c.args.renewal.now old now now (g.met.T.Tree.is_bag c.args.tree.now)
    (wanted_still old mid now c.read.ensures.opens c.check_facts.ensures.still.openings)

pub returns-in-Err-check_facts-clause-opens_before : goal.returns-in-Err-check_facts-clause-opens_before
returns-in-Err-check_facts-clause-opens_before g c = λ _.
    wanted_still (g.T.Tree.state c.args.tree.now) (g.T.Tree.state c.read.new.tree)
    (g.T.Tree.state c.check_facts.new.tree) c.read.ensures.opens c.check_facts.ensures.still.openings

pub returns-in-Err-check_files-clause-opens : goal.returns-in-Err-check_files-clause-opens
returns-in-Err-check_files-clause-opens g c =
    let old = g.T.Tree.state c.args.tree.now in
    let mid = g.T.Tree.state c.read.new.tree in
    let now = g.T.Tree.state c.check_facts.new.tree in
    let new = g.T.Tree.state c.check_files.new.tree in
    let ok = c.in-Ok.ensures in
    let still = c.check_facts.ensures.still in
    for_renewal_of_files c.args.renewal.now old now new (g.met.T.Tree.is_bag c.args.tree.now) c.in-Ok.facts ok.options
    ok.seen ok.facts (wanted_still old mid now c.read.ensures.opens still.openings) c.in-Ok-check_facts.target
    c.in-Ok-check_facts.ensures.target (own_way old mid c.read.ensures.keeps c.in-Ok-check_facts.ensures.way)
    c.check_files.ensures.opens

pub returns-in-Err-check_files-clause-opens_before : goal.returns-in-Err-check_files-clause-opens_before
returns-in-Err-check_files-clause-opens_before g c =
    before_by_check (g.T.Tree.state c.args.tree.now) (g.T.Tree.state c.check_files.new.tree)
    c.in-Err-check_files.unchecked c.refusal.result c.in-Err-check_files.ensures.unchecked.seventh c.refusal.ensures

pub returns-in-Ok-check_files-clause-opens : goal.returns-in-Ok-check_files-clause-opens
returns-in-Ok-check_files-clause-opens g c =
    let old = g.T.Tree.state c.args.tree.now in
    let mid = g.T.Tree.state c.read.new.tree in
    let now = g.T.Tree.state c.check_facts.new.tree in
    let new = g.T.Tree.state c.check_files.new.tree in
    let ok = c.in-Ok.ensures in
    let still = c.check_facts.ensures.still in
    for_renewal_of_files c.args.renewal.now old now new (g.met.T.Tree.is_bag c.args.tree.now) c.in-Ok.facts ok.options
    ok.seen ok.facts (wanted_still old mid now c.read.ensures.opens still.openings) c.in-Ok-check_facts.target
    c.in-Ok-check_facts.ensures.target (own_way old mid c.read.ensures.keeps c.in-Ok-check_facts.ensures.way)
    c.check_files.ensures.opens
