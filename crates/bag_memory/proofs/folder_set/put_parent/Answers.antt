use Rattle.bag_memory.proofs.Common.{arith, lit<, None, nat_list_cmp_total, folder_set, contains-from_list}
use Rattle.std.specs.FinSet as set
use Rattle.std.proofs.lemmas.Str.Pattern.{split_once_first}
use Rattle.bag_memory.proofs.Folders.{parent_put, no_parent, put_and_taken, put_again}
use Rattle.bag_memory.proofs.folder_set.put_parent.Goals as goal

pub returns-in_default-clause-put : goal.returns-in_default-clause-put
returns-in_default-clause-put c = no_parent (folder_set c.args.folders.now.keys) c.args.path.now
    (split_once_first 47 c.args.path.now None c.in_default.ensures.cases (lit< tt))

pub returns-then-contains-clause-put : goal.returns-then-contains-clause-put
returns-then-contains-clause-put c = grind
    (arith, split_once_first, lit<, parent_put, put_again, set.contains-from_list nat_list_cmp_total)

pub returns-clause-put : goal.returns-clause-put
returns-clause-put c = grind (arith, split_once_first, lit<, parent_put)

pub returns-clause-added : goal.returns-clause-added
returns-clause-added c = grind (arith, put_and_taken, set.contains-from_list nat_list_cmp_total)
