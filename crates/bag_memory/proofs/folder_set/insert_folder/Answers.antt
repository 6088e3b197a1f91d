use Rattle.bag_memory.proofs.Listed.{one_folder}
use Rattle.bag_memory.proofs.folder_set.insert_folder.Goals as goal

pub returns-clause-put : goal.returns-clause-put
returns-clause-put c = one_folder c.args.folders.now.keys c.insert.new.self.keys c.args.name (λ q.
    c.in_ok-insert.ensures.updates.0 q)
