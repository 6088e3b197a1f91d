use Rattle.bag_memory.proofs.Common.{◌∙◌, sym, nat_list_cmp_total}
use Rattle.std.specs.FinSet as set
use Rattle.bag_memory.proofs.changing.is_folder.Goals as goal

pub returns : goal.returns
returns c = c.contains.ensures ∙ sym (set.contains-from_list nat_list_cmp_total c.args.folders.now.keys c.args.name.now)
