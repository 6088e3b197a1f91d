use Rattle.bag_memory.proofs.Common.{◌∙◌, ap, sym, is_some}
use Rattle.bag_memory.proofs.MemoryFiles.{file_at}
use Rattle.bag_memory.proofs.changing.has_file.Goals as goal

pub returns : goal.returns
returns c = c.contains_key.ensures ∙ ap is_some (sym (file_at c.args.files.now.entries c.args.name.now))
