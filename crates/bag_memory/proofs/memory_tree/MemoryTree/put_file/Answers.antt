use Rattle.bag_memory.proofs.Common.{◌∙◌, ap, bag_of_files, file_map}
use Rattle.std.specs.FinMap as map
use Rattle.bag_memory.proofs.InMemory.{file_put_passes, bytes_below, text_path_of}
use Rattle.bag_memory.proofs.memory_tree.MemoryTree.put_file.Goals as goal

pub invariant_of-self-in-Ok : goal.invariant_of-self-in-Ok
invariant_of-self-in-Ok c =
    let a = c.args.self.now in
    record {
      passes =
          file_put_passes (bag_of_files a.files.entries a.folders.keys)
          (bag_of_files c.insert_file.new.files.entries c.put_parent.new.folders.keys) c.args.path.now
          c.args.bytes.now
          (c.in-Ok.ensures.put
          ∙ ap (λ path. map.insert (file_map a.files.entries) path c.in_ok-content.content) c.in_ok-key.ensures
          ∙ ap (map.insert (file_map a.files.entries) c.args.path.now) c.in_ok-content.ensures)
          c.in_ok-parent.ensures.put
          (text_path_of c.args.path.now c.requires c.utf8.path)
          (bytes_below c.args.bytes.now c.type_inv.bytes)
          a.passes;
    }
