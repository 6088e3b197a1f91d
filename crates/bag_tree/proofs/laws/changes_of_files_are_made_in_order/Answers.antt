use Rattle.bag_tree.proofs.FileChanges.{cuts_leave_first_changes, changes_are_durable}
use Rattle.bag_tree.proofs.laws.changes_of_files_are_made_in_order.Goals as goal

pub returns-clause-any_moment : goal.returns-clause-any_moment
returns-clause-any_moment c = cuts_leave_first_changes

pub returns-clause-durable : goal.returns-clause-durable
returns-clause-durable c = changes_are_durable
