use Rattle.bag_memory.proofs.MemoryFiles.{one_put}
use Rattle.bag_memory.proofs.file_map.insert_file.Goals as goal

pub returns-clause-put : goal.returns-clause-put
returns-clause-put c = one_put c.args.files.now.entries c.insert.new.self.entries c.args.path c.args.bytes (λ q.
    c.in_ok-insert.ensures.updates.0 q)
