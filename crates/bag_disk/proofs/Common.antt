-- The names that this crate's proofs cite, passed on from one place. Declares nothing.
pub use Rattle.std.proofs.Common.{All, Any, Bool, Contains, Err, IfErr, IsTrue, IsUtf8, List, MatchOption, None, OnOk}
pub use Rattle.std.proofs.Common.{Option, Result, Some, [], ap, append_assoc, arith, codes, cond, drop, eq-eqb}
pub use Rattle.std.proofs.Common.{eqb-true, false, filter, get_or, inl, inr, is_lt, is_some, length, length-append, map}
pub use Rattle.std.proofs.Common.{not, refl, rules, subst, sym, take, take-append-drop, true, vec_len, ℕ, ⊎_elim, ◌++◌}
pub use Rattle.std.proofs.Common.{◌+◌, ◌<◌, ◌==◌, ◌↔◌, ◌∙◌, ◌∷◌, ◌≡◌, ◌≢◌, ◌≤◌, ◌⊎◌}
pub use Rattle.std.proofs.Math.Seq.{get_or-append_seam, take-append_seam}
pub use Rattle.std.proofs.lemmas.Bool.{and_from, and_parts, cases_lt, false≢true, ltb-true}
pub use Rattle.std.proofs.lemmas.List.{get_or-map, length-map, length-take}
pub use Rattle.std.proofs.lemmas.List.Elements.{All-cons, All-contains, All-nil, All-push, Contains-append_left}
pub use Rattle.std.proofs.lemmas.List.Elements.{Contains-append_right, Contains-push, Contains-push_cases}
pub use Rattle.std.proofs.lemmas.List.Sorted.{All-permutation, Contains-permutation, IsPermutation-map}
pub use Rattle.std.proofs.lemmas.List.Sorted.{IsPermutation-sym, answers_always, ranks_by}
pub use Rattle.std.proofs.lemmas.Result.{IfOk-weaker, err_from_is_err_and}
pub use Rattle.std.specs.Cmp.Lexicographic.{nat_list_cmp_total, pointwise, same_text, texts_ties}
pub use Rattle.std.specs.FinMap.{entries_sorted, find, get-entries, get-from_entries, get-remove, is_sorted}
pub use Rattle.std.specs.FinMap.{len-entries, len-remove}
pub use Rattle.std.specs.List.{AllByRecursion, IsAllAdjacentAnswer, list_all, onto_first, slice_range}
pub use Rattle.std.specs.List.Sorted.{IsPermutation, IsSortedByKey, IsStrictlySortedBy}
pub use Rattle.std.specs.Option.{option_map}
pub use Rattle.std.specs.Ordering.{eq_by_cmp, is_eq, ordering_reverse}
pub use Rattle.std.specs.Prelude.{nat_eq}
pub use Rattle.std.specs.declared.cmp.Ordering.TheVariants.{Less}
pub use Rattle.bag_text.specs.Path.{components, is_path, slash, under}
pub use Rattle.bag_text.specs.Text.{text_cmp}
pub use Rattle.bag_tree.proofs.PathEntries.{none_below, t_true}
pub use Rattle.bag_tree.proofs.SameText.{exact_texts, one_text, same_test, text_itself}
pub use Rattle.bag_tree.specs.declared.listing.FileEntry.{FileEntry}
pub use Rattle.bag_disk.specs.BagBelow.{file_of_disk, folder_of_disk}
pub use Rattle.bag_disk.specs.Disk.{DiskState, Node, Nodes, bytes_of}
pub use Rattle.bag_disk.specs.DiskNodes.{AreNamesIn, Has, HasSpecial, HasUnnamed, HasUnnamedPath}
pub use Rattle.bag_disk.specs.DiskNodes.{IsDisk, IsFolder, IsName, IsReachedByFolders, IsReachedTo}
pub use Rattle.bag_disk.specs.DiskNodes.{OnlyLooks, entry_of_node, is_plain_found, node}
pub use Rattle.bag_disk.specs.Disk.{entry_count, files_and_folders, is_folder_node, is_plain}
pub use Rattle.bag_disk.specs.Disk.{is_plain_node}
pub use Rattle.bag_disk.specs.Disk.Node.{File, Folder, Other}
pub use Rattle.bag_disk.specs.FolderWalk.{AllArePaths, AllStand, AreFolders, AreThere, IsAtOrBelow, IsBelow, IsFileOf}
pub use Rattle.bag_disk.specs.FolderWalk.{IsFolderPath, Listing, Walked, files_with, folders_with, walked_paths}
pub use Rattle.bag_disk.specs.Location.{location_below, path_in}
pub use Rattle.bag_disk.specs.declared.disk.Entry.{Entry}
