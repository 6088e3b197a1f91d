use Rattle.bag_facts.proofs.Entries.{named_found}
use Rattle.bag_facts.proofs.tag_facts.Manifest.names.Goals as goal

pub returns : goal.returns
returns c = λ ordered.
    named_found c.args.self.now.entries c.as_slice.result.now c.args.path.now c.entry_at.result c.is_some.result
    c.as_slice.ensures c.is_some.ensures
    (c.entry_at.ensures (rw c.as_slice.ensures ordered))
