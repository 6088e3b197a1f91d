-- The names that this crate's proofs cite, passed on from one place. Declares nothing.
pub use Rattle.std.proofs.Common.{Any, Bool, IsTrue, List, None, Option, Some, [], ap, append-nil, append_assoc, arith}
pub use Rattle.std.proofs.Common.{cond, drop, false, filter, inl, inr, is_some, length, length-append, length-drop}
pub use Rattle.std.proofs.Common.{refl, sym, take, take-add, take_all, true, ℕ, ◌++◌, ◌+◌, ◌-◌, ◌<◌, ◌==◌, ◌∙◌, ◌∷◌}
pub use Rattle.std.proofs.Common.{length-take-le, ◌≡◌, ◌≤◌, ◌⊎◌}
pub use Rattle.std.proofs.Math.Seq.{take-length}
pub use Rattle.std.proofs.lemmas.Bool.{and_parts, eqb-true, false≢true, or_left, or_right}
pub use Rattle.std.proofs.lemmas.Result.{err_from_is_err_and, on_err_weaker, on_ok_weaker}
pub use Rattle.std.specs.Cmp.Lexicographic.{nat_list_cmp_total}
pub use Rattle.std.specs.FinMap.{find, get-empty, get-entries, get-insert, get-remove, len-empty, len-insert}
pub use Rattle.std.specs.FinMap.{len-remove, same_map}
pub use Rattle.std.specs.List.{list_any, slice_range}
pub use Rattle.std.specs.Ordering.{eq_by_cmp}
pub use Rattle.bag_disk.proofs.DiskSteps.{looks_on}
pub use Rattle.bag_disk.proofs.Looked.{had_before}
pub use Rattle.bag_disk.proofs.Moving.{nodes_move}
pub use Rattle.bag_disk.proofs.Plain.{all_plain, other_not_plain, other_seen, special_not_plain, unnamed_not_plain}
pub use Rattle.bag_disk.proofs.Refusals.{counted_since, due_at_known, due_for_special, due_in_move, due_in_step, move_due_for}
pub use Rattle.bag_disk.proofs.Refusals.{only_for, special_in_step, step_due_for}
pub use Rattle.bag_disk.specs.BagBelow.{bag_is_what_stands, bag_of_disk, file_of_disk, folder_of_disk}
pub use Rattle.bag_disk.specs.Disk.{DiskState, Node, Nodes, bytes_of}
pub use Rattle.bag_disk.specs.DiskNodes.{HasSpecial, IsDisk, IsReachedByFolders, OnlyLooks, node}
pub use Rattle.bag_disk.specs.Disk.{entry_count, files_and_folders, is_folder_node, is_plain}
pub use Rattle.bag_disk.specs.Disk.{is_plain_node}
pub use Rattle.bag_disk.specs.Disk.Node.{File, Folder}
pub use Rattle.bag_disk.specs.DiskBag.{bag_of}
pub use Rattle.bag_disk.specs.Location.{path_in}
pub use Rattle.bag_disk.specs.Refusal.{IsDue, IsDueInListing, IsDueInMove, MeetsSpecial, MeetsUnnamed, failures_after}
pub use Rattle.bag_disk.specs.WritableDisk.{Appends, ClosesOpenFile, HasFileNode, MakesFile, MakesFolderNode, Moves}
pub use Rattle.bag_disk.specs.WritableDisk.{with_file_node, with_folder_node}
pub use Rattle.bag_disk.specs.declared.refusal.Refusal.{Refusal}
pub use Rattle.bag_text.specs.Path.{components, is_base_name, is_path, under}
pub use Rattle.bag_text.specs.Text.{text_cmp}
pub use Rattle.bag_tree.proofs.SameText.{exact_texts, one_text, text_itself}
pub use Rattle.bag_tree.proofs.Within.{itself_within, not_within, within_cases}
pub use Rattle.bag_tree.specs.Bag.{Bag, file, files_of, has_folder}
pub use Rattle.bag_tree.specs.Changes.{LeavesPartialFile, AppliesStep, IsUnchanged, MayRefuseChange}
pub use Rattle.bag_tree.specs.Moved.{is_within, moved, renamed, with_renamed}
pub use Rattle.bag_tree.specs.MovesAll.{MovesAll}
pub use Rattle.bag_tree.specs.Steps.{create, has_within, is_taken, lacks_folder, lacks_source, make_folder}
pub use Rattle.bag_tree.specs.Tree.{Keeps, MayRefuse, most_entries}
pub use Rattle.bag_store.specs.Answered.{count_after, fault_answering}
pub use Rattle.bag_store.specs.Changing.{IsMovedIn, IsRenamed}
pub use Rattle.bag_store.specs.FileTree.{file_state_after}
pub use Rattle.bag_store.specs.FileTreeCalls.{ReportsDisk}
pub use Rattle.bag_store.specs.Standing.{IsStanding}
pub use Rattle.bag_store.specs.Writing.{Begins, HasWritten, HasWrittenSome, Makes}
