use Rattle.bag_tree.proofs.file_sums.DigestsTaker.take.Goals as goal

pub returns-clause-taken : goal.returns-clause-taken
returns-clause-taken c = λ start front kept asked begun. c.update.ensures asked front (kept asked begun)
