-- The names that this crate's proofs cite, passed on from one place. Declares nothing.
pub use Rattle.std.proofs.Common.{Bool, Contains, IsTrue, List, None, Option, Some, [], ap, append-nil, append_assoc}
pub use Rattle.std.proofs.Common.{arith, bytes_eq, codes, cond, false, fold, get_or, inl, inr, is_some, length, map}
pub use Rattle.std.proofs.Common.{not, refl, subst, suc, sym, take, true, zero, ℕ, ◌&&◌, ◌++◌, ◌+◌, ◌<◌, ◌||◌, ◌∙◌, ◌∷◌}
pub use Rattle.std.proofs.Common.{◌≡◌, ◌≢◌, ◌≤◌, ◌⊎◌}
pub use Rattle.std.proofs.lemmas.Bool.{and_from, and_parts, false_from_ne_true, false≢true, not_from_true, or_cases}
pub use Rattle.std.proofs.lemmas.Bool.{or_from, or_left, or_parts, or_right}
pub use Rattle.std.proofs.lemmas.List.Elements.{All-contains, All-from_recursion}
pub use Rattle.std.proofs.lemmas.List.Sums.{fold-append}
pub use Rattle.std.proofs.lemmas.Slice.Eq.{bytes_eq-Decides}
pub use Rattle.std.specs.Cmp.Lexicographic.{nat_list_cmp_total}
pub use Rattle.std.specs.FinMap.{entries_sorted, find, get-entries, get-from_entries, get-insert, get-retain_keys}
pub use Rattle.std.specs.FinMap.{is_sorted}
pub use Rattle.std.specs.FinMap.Entries.{below_all}
pub use Rattle.std.specs.FinSet.{contains-remove, same_set}
pub use Rattle.std.specs.List.{AllByRecursion, list_any}
pub use Rattle.std.specs.Option.{unwrap_or}
pub use Rattle.std.specs.Ordering.{eq_by_cmp}
pub use Rattle.std.specs.Prelude.{All, filter}
pub use Rattle.bag_facts.proofs.Mapped.{contains_mapped, mapped_contains}
pub use Rattle.bag_read.proofs.PickedOut.{any_from, from_any}
pub use Rattle.bag_read.proofs.TagPaths.{in_base, name_is_text, name_named, paths_differ}
pub use Rattle.bag_read.specs.ManifestName.{is_manifest_name, manifest_name, tag_path}
pub use Rattle.bag_read.specs.declared.kind.Kind.{Kind}
pub use Rattle.bag_read.specs.declared.kind.Kind.TheVariants.{Payload, Tag}
pub use Rattle.bag_read.specs.declared.tag_name.TagName.{TagName}
pub use Rattle.bag_read.specs.declared.tag_name.TagName.TheVariants.{Declaration, Fetch, Info, Manifest}
pub use Rattle.bag_facts.specs.Facts.{rules_in}
pub use Rattle.bag_stages.specs.Payload.{payload}
pub use Rattle.bag_text.proofs.ListOf.{contains_back, contains_behind, contains_cases, contains_either, contains_first}
pub use Rattle.bag_text.proofs.ListOf.{contains_front, contains_nothing}
pub use Rattle.bag_text.specs.Alg.{name}
pub use Rattle.bag_text.specs.AlgList.{has_member}
pub use Rattle.bag_text.specs.Path.{is_base_name, is_path, is_payload_path, under}
pub use Rattle.bag_text.specs.Text.{text_cmp}
pub use Rattle.bag_text.specs.declared.alg.Alg.{Alg}
pub use Rattle.bag_tree.proofs.Parents.{base_not_under}
pub use Rattle.bag_tree.proofs.SameText.{exact_texts, one_text, text_itself}
pub use Rattle.bag_tree.proofs.Within.{within_cases}
pub use Rattle.bag_tree.specs.Bag.{Bag, HasFile, IsBag, file, files_of, has_file, has_folder}
pub use Rattle.bag_tree.specs.FileChanges.{after_changes, changed}
pub use Rattle.bag_tree.specs.Moved.{is_within}
pub use Rattle.bag_tree.specs.Steps.{create}
pub use Rattle.bag_tree.specs.declared.file_change.FileChange.{FileChange}
pub use Rattle.bag_tree.specs.declared.file_change.FileChange.TheVariants.{Put, Remove}
pub use Rattle.bag_changes.specs.Changes.{after, changes, clearing, closing, dropping, last_files}
pub use Rattle.bag_changes.specs.Changes.{opening, put, putting, removals_of, unkept, written_info}
pub use Rattle.bag_changes.specs.Laws.{ChangesKeepPayload, ChangesRenew, HasKnownManifests}
pub use Rattle.bag_renewed.specs.Renewed.{algs_where, begun_file, declaration_file, has_payload_manifest}
pub use Rattle.bag_renewed.specs.Renewed.{has_tag_manifest, info_files, is_dropped_alg, is_kept, is_kept_alg, is_new_alg, keeps}
pub use Rattle.bag_renewed.specs.Renewed.{kept_or, kept_tag_files, named_tag_files, new_algs, new_elements, new_rules}
pub use Rattle.bag_renewed.specs.Renewed.{new_tag_files, payload_manifest, payload_manifests, renewed, stays}
pub use Rattle.bag_renewed.specs.Renewed.{tag_manifests, with_path, writes_info}
pub use Rattle.bag_tags.specs.Summed.{File, manifest_by}
pub use Rattle.bag_changes.specs.Reserved.{IsOutOfTheWay}
pub use Rattle.bag_renewed.specs.declared.renewal.Renewal.{Renewal}
