use Rattle.bag_facts.proofs.Common.{arith, inr, map, nothing_given, nothing_then, read_path}
use Rattle.bag_facts.proofs.ItsFolder.{ordered_with, honest_with}
use Rattle.bag_facts.proofs.Known.{known_given, known_honest, known_seen}
use Rattle.bag_facts.proofs.Opens.{opened_wanted, opens_none, opens_wanted, opens_all_first, opens_later}
use Rattle.bag_facts.proofs.Opens.{opens_all_later}
use Rattle.bag_faults.proofs.PassedOn.{passed_on, on_error}
use Rattle.bag_facts.proofs.Reading.{facts_stop, listing_stop}
use Rattle.bag_facts.proofs.Refusing.{facts_stop_of_memory}
use Rattle.bag_facts.proofs.facts.Facts.read.Goals as goal

pub returns-in-Err-clause-opens : goal.returns-in-Err-clause-opens
returns-in-Err-clause-opens g c = opens_none c.args.options (g.T.Tree.state c.args.tree.now)
    (g.T.Tree.state c.list.new.self) c.list.ensures.openings

pub returns-in-Err-clause-stop : goal.returns-in-Err-clause-stop
returns-in-Err-clause-stop g c = grind (arith, listing_stop)

pub returns-in_err-read-clause-opens : goal.returns-in_err-read-clause-opens
returns-in_err-read-clause-opens g c =
    opens_wanted c.args.options c.as_slice.result.now (g.T.Tree.state c.args.tree.now)
    (g.T.Tree.state c.read_tag_files.new.tree) (rw c.list.ensures.openings at c.in_err-read.ensures.opened_first)

pub returns-in_err-read-clause-refused : goal.returns-in_err-read-clause-refused
returns-in_err-read-clause-refused g c =
    passed_on c.from_residual.result _ _ c.from_residual.ensures.1
    (λ named.
    let had = c.with_its_folder-listing in (
      had.result,
      ordered_with c.in-Ok.listing had.result had.ensures.files c.in-Ok.ensures.ordered,
      honest_with c.in-Ok.listing had.result had.ensures.files (g.T.Tree.state c.args.tree.now)
          (g.met.T.Tree.is_bag c.args.tree.now) had.ensures.same c.in-Ok.ensures.honest,
      rw (c.list.ensures.openings, c.as_slice.ensures) at (c.in_err-read.ensures.refused named),
    ))

pub returns-in_err-read-clause-stop : goal.returns-in_err-read-clause-stop
returns-in_err-read-clause-stop g c =
    let old = g.T.Tree.state c.args.tree.now in
    let mid = g.T.Tree.state c.list.new.self in
    passed_on c.from_residual.result _ _ c.from_residual.ensures.1
    (facts_stop c.args.options c.with_its_folder-listing.result c.as_slice.result.now old mid
    (g.T.Tree.state c.read_tag_files.new.tree) _ c.list.ensures.keeps
    (nothing_given old mid c.in-Ok.ensures.no_failure c.in-Ok.ensures.last) c.as_slice.ensures
    (honest_with c.in-Ok.listing c.with_its_folder-listing.result c.with_its_folder-listing.ensures.files old
    (g.met.T.Tree.is_bag c.args.tree.now) c.with_its_folder-listing.ensures.same c.in-Ok.ensures.honest)
    c.in_err-read.ensures.stop)

pub returns-in-Ok-of-clause-opens : goal.returns-in-Ok-of-clause-opens
returns-in-Ok-of-clause-opens g c =
    opened_wanted c.args.options c.as_slice.result.now (g.T.Tree.state c.args.tree.now) (g.T.Tree.state c.list.new.self)
    (g.T.Tree.state c.read_tag_files.new.tree)
    (map read_path c.in_ok-read.read.items) c.list.ensures.openings c.in_ok-read.ensures.wanted
    c.in_ok-read.ensures.opened

pub returns-in-Err-of-clause-opens : goal.returns-in-Err-of-clause-opens
returns-in-Err-of-clause-opens g c =
    opened_wanted c.args.options c.as_slice.result.now (g.T.Tree.state c.args.tree.now) (g.T.Tree.state c.list.new.self)
    (g.T.Tree.state c.read_tag_files.new.tree)
    (map read_path c.in_ok-read.read.items) c.list.ensures.openings c.in_ok-read.ensures.wanted
    c.in_ok-read.ensures.opened

pub returns-in-Ok-of-clause-facts : goal.returns-in-Ok-of-clause-facts
returns-in-Ok-of-clause-facts g c =
    let had = c.with_its_folder-listing in
    let old = g.T.Tree.state c.args.tree.now in
    known_honest c.in-Ok-of.facts c.args.options had.result c.as_slice.result.now c.in_ok-read.read.items
    c.in-Ok-of.ensures.options c.in-Ok-of.ensures.listing c.as_slice.ensures
    (ordered_with c.in-Ok.listing had.result had.ensures.files c.in-Ok.ensures.ordered) c.in-Ok-of.ensures.tags
    c.in_ok-read.ensures.wanted old (g.T.Tree.state c.list.new.self) c.list.ensures.keeps
    (honest_with c.in-Ok.listing had.result had.ensures.files old (g.met.T.Tree.is_bag c.args.tree.now) had.ensures.same
    c.in-Ok.ensures.honest) c.in_ok-read.ensures.whole

pub returns-in-Ok-of-clause-seen : goal.returns-in-Ok-of-clause-seen
returns-in-Ok-of-clause-seen g c =
    let had = c.with_its_folder-listing in
    known_seen c.in-Ok-of.facts c.args.options had.result c.as_slice.result.now c.in_ok-read.read.items
    c.in-Ok-of.ensures.options c.in-Ok-of.ensures.listing c.as_slice.ensures
    (ordered_with c.in-Ok.listing had.result had.ensures.files c.in-Ok.ensures.ordered) c.in-Ok-of.ensures.tags
    c.in_ok-read.ensures.wanted (g.T.Tree.state c.list.new.self) had.ensures.folder
    c.in_ok-read.ensures.texts c.in_ok-read.ensures.whole

pub returns-in-Ok-of-clause-gave : goal.returns-in-Ok-of-clause-gave
returns-in-Ok-of-clause-gave g c =
    let had = c.with_its_folder-listing in
    known_given c.in-Ok-of.facts c.args.options had.result c.as_slice.result.now c.in_ok-read.read.items
    c.in-Ok-of.ensures.options c.in-Ok-of.ensures.listing c.as_slice.ensures
    (ordered_with c.in-Ok.listing had.result had.ensures.files c.in-Ok.ensures.ordered) c.in-Ok-of.ensures.tags
    c.in_ok-read.ensures.wanted (g.T.Tree.state c.list.new.self) had.ensures.folder
    c.in_ok-read.ensures.texts c.in_ok-read.ensures.whole (g.T.Tree.state c.args.tree.now)
    (g.T.Tree.state c.read_tag_files.new.tree) c.in-Ok.listing c.in-Ok.ensures.listed had.ensures.files
    c.in_ok-read.ensures.listed c.list.ensures.gave c.in_ok-read.ensures.gave

pub returns-in-Ok-of-clause-opened : goal.returns-in-Ok-of-clause-opened
returns-in-Ok-of-clause-opened g c = grind (arith, opens_all_later)

pub returns-in_err-read-clause-opened_first : goal.returns-in_err-read-clause-opened_first
returns-in_err-read-clause-opened_first g c =
    let had = c.with_its_folder-listing in
    let old = g.T.Tree.state c.args.tree.now in
    on_error c.from_residual.result _ (inr (
      had.result,
      ordered_with c.in-Ok.listing had.result had.ensures.files c.in-Ok.ensures.ordered,
      honest_with c.in-Ok.listing had.result had.ensures.files old (g.met.T.Tree.is_bag c.args.tree.now)
          had.ensures.same c.in-Ok.ensures.honest,
      opens_later c.args.options had.result.files old (g.T.Tree.state c.list.new.self)
          (g.T.Tree.state c.read_tag_files.new.tree) c.list.ensures.openings
          (rw c.as_slice.ensures at c.in_err-read.ensures.opened_first),
    ))

pub returns-in-Err-of-clause-opened_first : goal.returns-in-Err-of-clause-opened_first
returns-in-Err-of-clause-opened_first g c = grind (arith, opens_all_first, opens_all_later)

pub returns-in-Ok-of-clause-no_failure : goal.returns-in-Ok-of-clause-no_failure
returns-in-Ok-of-clause-no_failure g c = grind (arith, nothing_then, nothing_given)

pub returns-in-Err-of-clause-stop : goal.returns-in-Err-of-clause-stop
returns-in-Err-of-clause-stop g c = grind (arith, facts_stop_of_memory, nothing_then, nothing_given)
