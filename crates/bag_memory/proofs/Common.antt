-- The names that this crate's proofs cite, passed on from one place. Declares nothing.
pub use Rattle.std.proofs.Common.{All, Bool, Err, Fits, IsTrue, IsUtf8, List, None, Ok, OnErr, OnOk, Option, Result}
pub use Rattle.std.proofs.Common.{Some, [], ap, append_assoc, arith, codes, cond, drop, false, get_or, is_some, length}
pub use Rattle.std.proofs.Common.{lit<, map, min, nat_lt, not, refl, slice_index, subst, suc, sym, take, true, w8, zero}
pub use Rattle.std.proofs.Common.{ℕ, ◌++◌, ◌+◌, ◌<◌, ◌∙◌, ◌∷◌, ◌≡◌, ◌≤◌, ◌⊎◌}
pub use Rattle.std.proofs.Math.Dec.{T}
pub use Rattle.std.proofs.lemmas.Bool.{and_from, and_parts, eqb-true, false≢true, lt-ltb, or_left, or_right}
pub use Rattle.std.proofs.lemmas.List.Elements.{All-cons, All-from_get_or, All-head, All-nil, All-tail}
pub use Rattle.std.proofs.lemmas.Str.{IsUtf8-append, IsUtf8-from_ascii, IsUtf8-from_is_utf8, is_utf8-from_IsUtf8}
pub use Rattle.std.specs.BTreeMap.{is_at}
pub use Rattle.std.specs.Cmp.{eq_by_cmp_equiv}
pub use Rattle.std.specs.Cmp.Lexicographic.{nat_list_cmp_total}
pub use Rattle.std.specs.FinMap.{empty, entries, entries_sorted, find, from_entries, get, get-empty, get-entries}
pub use Rattle.std.specs.FinMap.{get-from_entries, get-insert, insert, is_sorted, same_map}
pub use Rattle.std.specs.FinMap.Entries.{below_all, same_entries}
pub use Rattle.std.specs.FinSet.{contains-empty, contains-from_list, contains-insert, contains-remove, same_set}
pub use Rattle.std.specs.List.{AllByRecursion, list_all, list_any, position_or_len}
pub use Rattle.std.specs.Map.{lookup}
pub use Rattle.std.specs.Option.{option_copied, option_map}
pub use Rattle.std.specs.Ordering.{eq_by_cmp}
pub use Rattle.std.specs.declared.cmp.Ordering.TheVariants.{Less}
pub use Rattle.bag_text.specs.Path.{components, first_component, is_base_name, is_component, is_path, slash, under}
pub use Rattle.bag_text.specs.Text.{text_cmp}
pub use Rattle.bag_tree.proofs.SameText.{exact_texts, one_text, same_test, text_itself}
pub use Rattle.bag_tree.specs.Bag.{Bag, file, files_of, has_folder}
pub use Rattle.bag_tree.specs.Changes.{LeavesPartialFile, AppliesStep, IsUnchanged}
pub use Rattle.bag_tree.specs.Listing.{IsOrdered, size_at}
pub use Rattle.bag_tree.specs.Moved.{is_within, moved, renamed, with_renamed}
pub use Rattle.bag_tree.specs.Steps.{Files, create, is_taken, lacks_folder, lacks_source, make_folder, move_in}
pub use Rattle.bag_tree.specs.Steps.{rename_folder}
pub use Rattle.bag_tree.specs.Tree.{TreeState}
pub use Rattle.bag_tree.specs.FileReads.{ReadsNext}
pub use Rattle.bag_memory.specs.Memory.{empty_bag, folders_for, is_in_folder}
pub use Rattle.bag_memory.specs.MemoryTree.{PassesAsBag, are_bytes, bag_of_files, file_map}
pub use Rattle.bag_memory.specs.MemoryTree.{folder_set, is_text_name, is_text_path, listed}
pub use Rattle.bag_memory.specs.MemoryTree.{unread_rest}
pub use Rattle.bag_memory.specs.Memory.{memory_state_after, with_file, with_folder}
pub use Rattle.bag_memory.specs.Refusals.{after_call, failing, is_kth, next_due, refused_calls}
pub use Rattle.bag_memory.specs.declared.calls.Due.TheVariants.{After, Never, Past}
