use Rattle.bag_tree.proofs.LeftOut as left_out
use Rattle.bag_tree.proofs.laws.what_is_not_synced_may_be_lost.Goals as goal

pub returns-clause-moves : goal.returns-clause-moves
returns-clause-moves c = left_out.moves_may_lose

pub returns-clause-renames : goal.returns-clause-renames
returns-clause-renames c = left_out.renames_may_be_undone

pub returns-clause-files : goal.returns-clause-files
returns-clause-files c = left_out.files_may_be_missing

pub returns-clause-bytes : goal.returns-clause-bytes
returns-clause-bytes c = left_out.bytes_may_be_any

pub returns-clause-new_file : goal.returns-clause-new_file
returns-clause-new_file c = left_out.syncs_are_of_the_new_file

pub returns-clause-new_folder : goal.returns-clause-new_folder
returns-clause-new_folder c = left_out.syncs_are_of_the_new_folder

pub returns-clause-renamed_over : goal.returns-clause-renamed_over
returns-clause-renamed_over c = left_out.renames_may_lose

pub returns-clause-refused : goal.returns-clause-refused
returns-clause-refused c = left_out.refused_syncs_may_lose
