use Rattle.bag_checked.proofs.Common.{ap, ◌∙◌, Payload}
use Rattle.bag_tags.specs.Summed.{manifests_by}
use Rattle.bag_checked.proofs.CheckedBag.{has_no_fault, of_the_bag, opens_all, same_bytes}
use Rattle.bag_checked.proofs.StopsOfBag.{unchecked_for_memory}
use Rattle.bag_checked.proofs.further.new_manifests.Goals as goal

pub returns-in-Ok-manifests-clause-opened : goal.returns-in-Ok-manifests-clause-opened
returns-in-Ok-manifests-clause-opened g c =
    opens_all c.in-Ok.rules c.args.algs (g.T.Tree.state c.args.tree.now) (g.T.Tree.state c.check_bag.new.tree) c.in-Ok.summed.items
    c.in-Ok.ensures.checked

pub returns-in-Ok-manifests-clause-valid : goal.returns-in-Ok-manifests-clause-valid
returns-in-Ok-manifests-clause-valid g c =
    has_no_fault c.in-Ok.rules c.args.algs (g.T.Tree.state c.args.tree.now) (g.T.Tree.state c.check_bag.new.tree)
    c.in-Ok.summed.items c.in-Ok.ensures.checked

pub returns-in-Ok-manifests-clause-same_bytes : goal.returns-in-Ok-manifests-clause-same_bytes
returns-in-Ok-manifests-clause-same_bytes g c =
    same_bytes c.in-Ok.rules c.args.algs (g.T.Tree.state c.args.tree.now) (g.T.Tree.state c.check_bag.new.tree) c.in-Ok.summed.items
    c.in-Ok.ensures.checked c.in-Ok-manifests.made.items
    (c.in-Ok-manifests.ensures
    ∙ ap (manifests_by c.in-Ok.rules Payload c.args.algs) (c.deref.ensures.value ∙ c.payload_only.ensures))

pub returns-in-Ok-manifests-clause-manifests : goal.returns-in-Ok-manifests-clause-manifests
returns-in-Ok-manifests-clause-manifests g c = λ honest.
    of_the_bag c.in-Ok.rules c.args.algs (g.T.Tree.state c.args.tree.now) (g.T.Tree.state c.check_bag.new.tree)
    c.in-Ok.summed.items c.in-Ok.ensures.checked honest c.in-Ok-manifests.made.items
    (c.in-Ok-manifests.ensures
    ∙ ap (manifests_by c.in-Ok.rules Payload c.args.algs) (c.deref.ensures.value ∙ c.payload_only.ensures))

pub returns-clause-stopped : goal.returns-clause-stopped
returns-clause-stopped g c =
    unchecked_for_memory (g.T.Tree.state c.args.tree.now) (g.T.Tree.state c.check_bag.new.tree) c.no_memory.result
    c.no_memory.ensures c.in-Ok.ensures.no_failure
