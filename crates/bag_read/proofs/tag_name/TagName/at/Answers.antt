use Rattle.bag_read.proofs.TagPaths.{no_tag_begins_so, of_kinds}
use Rattle.bag_read.proofs.tag_name.TagName.at.Goals as goal

pub returns-else-eq-3 : goal.returns-else-eq-3
returns-else-eq-3 c = rw c.or.ensures
    (of_kinds c.args.path.now c.manifest_at.result c.manifest_at-else-eq-3.result c.if-eq.ensures c.if-eq-2.ensures
    c.if-eq-3.ensures c.manifest_at.ensures c.manifest_at-else-eq-3.ensures)

pub returns-then-begins_as_payload : goal.returns-then-begins_as_payload
returns-then-begins_as_payload c = no_tag_begins_so c.args.path.now
    (c.begins_as_payload.ensures c.if-begins_as_payload.true)
