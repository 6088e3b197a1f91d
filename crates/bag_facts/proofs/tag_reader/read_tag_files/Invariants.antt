use Rattle.bag_facts.proofs.Reading.{ReadsSome}
use Rattle.bag_facts.proofs.tag_reader.read_tag_files.Given as goal

abbrev pub invariant-loop-entry : goal.invariant-loop-entry
invariant-loop-entry g l = ReadsSome l.options l.files l.entry-index (g.T.Tree.state l.initial.tree)
    (g.T.Tree.state l.tree) l.read.items
