use Rattle.std.proofs.Common.{◌≡◌, ◌∙◌, ap, length, rules, subst, sym}
use Rattle.std.proofs.lemmas.Iterator.Adapters.{YieldsList-from_vec}
use Rattle.std.proofs.lemmas.Iterator.Consumers.{YieldsList-end, YieldsList-turn}
use Rattle.std.proofs.lemmas.List.{map-id}
use Rattle.std.specs.Vec.Iter.{into_iter_items}
use Rattle.bag_tree.proofs.Calm.{nothing_then}
use Rattle.bag_changes.proofs.Common.{Contains}
use Rattle.bag_changes.proofs.ReservedNames.{free_more, hindered_later, opens_nothing_on, reserved_in_base}
use Rattle.bag_changes.proofs.folders.check_folders.Goals as goal

pub check_name-requires : goal.check_name-requires
check_name-requires g c =
    let names = c.in-Ok.names.items in
    let source = c.into_iter-name-iterator.result in
    let same : into_iter_items source ≡ names = search (rules, c.into_iter-name-iterator.ensures.into_iter_gives) in
    let all = YieldsList-from_vec names same (source.rest.ok.0 ∙ ap length same) in
    let turn =
    YieldsList-turn all c.loop-name.yielded c.loop-name.name-iterator c.loop-name.yielded_by c.next.result
    c.next.new.self c.in-Some.name c.in-Some.is c.next.ensures.steps in
    let has =
    subst (λ xs. Contains xs c.in-Some.name) c.in-Ok.ensures (length c.loop-name.yielded, turn.0, sym turn.1) in
    reserved_in_base c.in-Some.name has

pub returns-in-Err-clause-hindered : goal.returns-in-Err-clause-hindered
returns-in-Err-clause-hindered g c =
    let names = c.in-Ok.names.items in
    let source = c.into_iter-name-iterator.result in
    let same : into_iter_items source ≡ names = search (rules, c.into_iter-name-iterator.ensures.into_iter_gives) in
    let all = YieldsList-from_vec names same (source.rest.ok.0 ∙ ap length same) in
    let turn =
    YieldsList-turn all c.loop-name.yielded c.loop-name.name-iterator c.loop-name.yielded_by c.next.result
    c.next.new.self c.in-Some.name c.in-Some.is c.next.ensures.steps in
    let has =
    subst (λ xs. Contains xs c.in-Some.name) c.in-Ok.ensures (length c.loop-name.yielded, turn.0, sym turn.1) in
    hindered_later (g.T.Tree.state c.args.tree.now) (g.T.Tree.state c.loop-name.tree)
    (g.T.Tree.state c.check_name.new.tree) c.loop-name.invariant.0 c.loop-name.invariant.1 c.in-Some.name has
    c.in-Err.fault c.in-Err.ensures.hindered

pub loop-name-preserved : goal.loop-name-preserved
loop-name-preserved g c =
    let old = g.T.Tree.state c.args.tree.now in
    let mid = g.T.Tree.state c.loop-name.tree in
    let new = g.T.Tree.state c.check_name.new.tree in
    let before = c.loop-name.invariant in (
      opens_nothing_on old mid new before.0 c.check_name.ensures.still,
      nothing_then old mid new before.1 c.in_default-check_name.ensures.no_failure,
      free_more old mid before.0 c.loop-name.yielded c.in-Some.name before.2 c.in_default-check_name.ensures.free,
    )

pub returns-clause-way : goal.returns-clause-way
returns-clause-way g c = λ honest name has.
    let names = c.in-Ok.names.items in
    let source = c.into_iter-name-iterator.result in
    let same : into_iter_items source ≡ names = search (rules, c.into_iter-name-iterator.ensures.into_iter_gives) in
    let all = YieldsList-from_vec names same (source.rest.ok.0 ∙ ap length same) in
    let end =
    YieldsList-end all c.loop-name.yielded c.loop-name.name-iterator c.loop-name.yielded_by c.next.result
    c.next.new.self c.in-None.is c.next.ensures.steps in
    let yielded : c.loop-name.yielded ≡ names = sym (map-id c.loop-name.yielded) ∙ end.0 in
    c.loop-name.invariant.2 honest name
    (subst (λ xs. Contains xs name) (sym c.in-Ok.ensures ∙ sym yielded) has)
