use Rattle.bag_facts.proofs.Common.{◌∙◌, inl, inr, nothing_asked}
use Rattle.bag_facts.proofs.Refusing.{stop_of_memory, stop_of_refusal}
use Rattle.bag_facts.proofs.tag_reader.read_wanted.Goals as goal

pub returns-in_default-copy-clause-stop : goal.returns-in_default-copy-clause-stop
returns-in_default-copy-clause-stop g c = λ is.
    let state = g.T.Tree.state c.args.tree.now in
    stop_of_memory c.args.options state state c.out_of_memory.result c.out_of_memory.ensures
    (nothing_asked state)

pub returns-in-Err-clause-stop : goal.returns-in-Err-clause-stop
returns-in-Err-clause-stop g c =
    let state = g.T.Tree.state in
    stop_of_refusal c.args.options c.args.entry.now (state c.args.tree.now) (state c.read_whole.new.tree) c.in-Err.cause
    c.of_file.result
    (c.in-Some.name, c.in-Some.ensures.0 ∙ c.as_str.ensures, c.in-Some.ensures.1) c.in-Err.ensures.refused
    c.in-Err.ensures.out_of_memory (rw c.in-Ok.ensures at c.of_file.ensures)

pub returns-in-Err-clause-refused : goal.returns-in-Err-clause-refused
returns-in-Err-clause-refused g c = λ some.
    elim (rw c.in-Ok.ensures at c.of_file.ensures) [
      | inl (not, same, at) ↦ at
      | inr (is, m) ↦ absurd (some m.1)
    ]

pub returns-in-Err-clause-refused_at : goal.returns-in-Err-clause-refused_at
returns-in-Err-clause-refused_at g c = λ some.
    elim c.of_file.ensures [
      | inl (not, same, at) ↦ c.in-Err.ensures.refused_at not
      | inr (is, m) ↦ absurd (some m.1)
    ]
