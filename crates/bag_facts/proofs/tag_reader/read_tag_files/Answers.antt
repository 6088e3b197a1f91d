use Rattle.bag_facts.proofs.Common.{◌≡◌, ◌++◌, ◌+◌, ◌∷◌, [], rules, nothing_then}
use Rattle.bag_faults.proofs.PassedOn.{passed_on, on_error}
use Rattle.bag_facts.proofs.Reading.{reads_none, reads_no_more, reads_one_more, opened_more, opens_first}
use Rattle.bag_facts.proofs.Reading.{opens_first_here, opens_up_to, stops_at, all_wanted, all_texts}
use Rattle.bag_facts.proofs.Refusing.{stop_of_memory}
use Rattle.bag_facts.proofs.tag_reader.read_tag_files.Goals as goal

pub loop-entry-init : goal.loop-entry-init
loop-entry-init g c = rw c.new-read.ensures.items
    (reads_none c.args.options c.args.files.now (g.T.Tree.state c.args.tree.now))

pub returns-in_err-file-clause-opened_first : goal.returns-in_err-file-clause-opened_first
returns-in_err-file-clause-opened_first g c =
    on_error c.from_residual.result _
    (opens_first_here c.requires.ascending c.loop-entry-test.true c.entry-item.is c.loop-entry.invariant
    (g.T.Tree.state c.read_wanted.new.tree)
    c.in_err-file.ensures.opens.0 c.in_err-file.ensures.opens.1)

pub returns-in_err-file-clause-refused : goal.returns-in_err-file-clause-refused
returns-in_err-file-clause-refused g c =
    passed_on c.from_residual.result _ _ c.from_residual.ensures.1
    (λ named. rw (c.in_err-file.ensures.refused named)
    (opens_up_to c.requires.ascending c.loop-entry-test.true c.entry-item.is c.loop-entry.invariant
    (g.T.Tree.state c.read_wanted.new.tree) c.in_err-file.ensures.opens.0 (c.in_err-file.ensures.refused_at named)))

pub returns-in_err-file-clause-stop : goal.returns-in_err-file-clause-stop
returns-in_err-file-clause-stop g c =
    passed_on c.from_residual.result _ _ c.from_residual.ensures.1
    (stops_at c.requires.ascending c.loop-entry-test.true c.entry-item.is c.loop-entry.invariant
    (g.T.Tree.state c.read_wanted.new.tree) c.in_err-file.field-0.0 c.in_err-file.ensures.stop)

pub loop-entry-preserved-in_default : goal.loop-entry-preserved-in_default
loop-entry-preserved-in_default g c =
    reads_no_more c.requires.ascending c.loop-entry-test.true c.entry-item.is c.loop-entry.invariant
    (g.T.Tree.state c.read_wanted.new.tree)
    c.in_ok-file.ensures.keeps c.in_ok-file.ensures.no_failure c.in_ok-file.ensures.listed c.in_ok-file.ensures.text
    (rw c.in_default.is at c.in_ok-file.ensures.read)

pub returns-then-is_err-clause-opened_first : goal.returns-then-is_err-clause-opened_first
returns-then-is_err-clause-opened_first g c =
    let new = g.T.Tree.state c.read_wanted.new.tree in
    opens_first c.args.options c.args.files.now (c.loop-entry.entry-index + 1) (g.T.Tree.state c.args.tree.now) new
    c.requires.ascending
    (opened_more c.requires.ascending c.loop-entry-test.true c.entry-item.is c.loop-entry.invariant new
    c.in-Some.file c.in_ok-file.ensures.keeps c.in_ok-file.ensures.no_failure c.in_ok-file.ensures.listed c.in_ok-file.ensures.text
    (rw c.in-Some.is at c.in_ok-file.ensures.read))

pub loop-entry-preserved : goal.loop-entry-preserved
loop-entry-preserved g c =
    let pushed : c.push.new.self.items ≡ c.loop-entry.read.items ++ c.in-Some.file ∷ [] = search rules in
    rw pushed (reads_one_more c.requires.ascending c.loop-entry-test.true c.entry-item.is c.loop-entry.invariant
    (g.T.Tree.state c.read_wanted.new.tree)
    c.in-Some.file c.in_ok-file.ensures.keeps c.in_ok-file.ensures.no_failure c.in_ok-file.ensures.listed c.in_ok-file.ensures.text
    (rw c.in-Some.is at c.in_ok-file.ensures.read))

pub returns-clause-wanted : goal.returns-clause-wanted
returns-clause-wanted g c =
    all_wanted c.args.options c.args.files.now c.loop-entry.entry-index (g.T.Tree.state c.args.tree.now)
    (g.T.Tree.state c.loop-entry.tree) c.loop-entry.read.items c.requires.ascending c.loop-entry-test.false
    c.loop-entry.invariant

pub returns-clause-texts : goal.returns-clause-texts
returns-clause-texts g c =
    all_texts c.args.options c.args.files.now c.loop-entry.entry-index (g.T.Tree.state c.args.tree.now)
    (g.T.Tree.state c.loop-entry.tree) c.loop-entry.read.items c.loop-entry-test.false c.loop-entry.invariant

pub returns-then-is_err-clause-stop : goal.returns-then-is_err-clause-stop
returns-then-is_err-clause-stop g c = λ are.
    let old = g.T.Tree.state c.args.tree.now in
    let mid = g.T.Tree.state c.loop-entry.tree in
    let new = g.T.Tree.state c.read_wanted.new.tree in
    stop_of_memory c.args.options old new c.out_of_memory.result c.out_of_memory.ensures
    (nothing_then old mid new c.loop-entry.invariant.no_failure c.in_ok-file.ensures.no_failure)
