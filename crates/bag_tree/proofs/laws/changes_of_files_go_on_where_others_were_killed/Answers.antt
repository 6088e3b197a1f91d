use Rattle.bag_tree.proofs.Killed.{killed_changes}
use Rattle.bag_tree.proofs.Resumed.{durable_once_synced, resumed_changes_are_durable, resumed_cuts}
use Rattle.bag_tree.proofs.laws.changes_of_files_go_on_where_others_were_killed.Goals as goal

pub returns-clause-premise : goal.returns-clause-premise
returns-clause-premise c = durable_once_synced

pub returns-clause-any_moment : goal.returns-clause-any_moment
returns-clause-any_moment c = resumed_cuts

pub returns-clause-durable : goal.returns-clause-durable
returns-clause-durable c = resumed_changes_are_durable

pub returns-clause-killed : goal.returns-clause-killed
returns-clause-killed c = killed_changes
