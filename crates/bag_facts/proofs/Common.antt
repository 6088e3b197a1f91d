-- The names that this crate's proofs cite, passed on from one place. Declares nothing.
pub use Rattle.std.proofs.Common.{All, Any, Bool, Bor, Contains, Err, IsTrue, List, None, Ok, Option, Result, Some, []}
pub use Rattle.std.proofs.Common.{ap, append-nil, append_assoc, arith, bytes_eq, codes, cond, drop}
pub use Rattle.std.proofs.Common.{false, get_or, inl, inr, is_lt, is_some, length, map}
pub use Rattle.std.proofs.Common.{of_calls, refl, replicate, rules, subst, suc, sym, take, true}
pub use Rattle.std.proofs.Common.{zero, ℕ, ◌&&◌, ◌++◌, ◌+◌, ◌<◌, ◌↔◌, ◌∙◌, ◌∷◌, ◌≡◌, ◌≢◌, ◌≤◌, ◌⊎◌}
pub use Rattle.std.proofs.lemmas.Bool.{and_from, and_parts, cases_lt}
pub use Rattle.std.proofs.lemmas.Cmp.{on_total}
pub use Rattle.std.proofs.lemmas.List.{get_or_default, length-replicate, map-append, take-append-drop}
pub use Rattle.std.proofs.lemmas.List.{take_all}
pub use Rattle.std.proofs.lemmas.List.Elements.{All-cons}
pub use Rattle.std.proofs.lemmas.List.Elements.{All-nil, All-replicate, filter-append}
pub use Rattle.std.proofs.lemmas.List.Sorted.{Contains-permutation, IsPermutation-sym, searchable_from_sorted}
pub use Rattle.std.proofs.lemmas.Slice.Eq.{bytes_eq-Decides}
pub use Rattle.std.specs.Cmp.{nat_cmp_total, tied_itself}
pub use Rattle.std.specs.Cmp.Lexicographic.{nat_list_cmp_total}
pub use Rattle.std.specs.FinMap.{find, from_entries, get-from_entries, nat_cmp-IsAntisymmetric}
pub use Rattle.std.specs.FinMap.{slice_cmp-IsAntisymmetric}
pub use Rattle.std.specs.List.{AllByRecursion, HoldsAt, IsDistinct, filter, list_any}
pub use Rattle.std.specs.List.Sorted.{IsBinarySearchResult, IsPermutation, IsSearchInRange, IsSortedByKey}
unfoldable pub use Rattle.std.specs.List.Sorted.{IsStrictlySortedBy}
pub use Rattle.std.specs.Option.{option_copied, option_map}
pub use Rattle.std.specs.Ordering.{eq_by_cmp, is_eq, nat_cmp, on, ordering_reverse}
pub use Rattle.std.specs.Prelude.{IsUtf8, MatchOption, option_and_then}
pub use Rattle.std.specs.Result.{is_ok}
pub use Rattle.std.specs.Str.{is_utf8}
pub use Rattle.std.specs.declared.cmp.Ordering.{Ordering}
pub use Rattle.std.specs.declared.cmp.Ordering.TheVariants.{Equal, Greater, Less}
pub use Rattle.bag_read.proofs.PickedOut.{any_from, both_true, from_any}
pub use Rattle.bag_read.proofs.TagPaths.{in_base, paths_differ}
pub use Rattle.bag_read.specs.Declaration.{declared_version}
pub use Rattle.bag_read.specs.LineFault.{AreFaults, line_fault}
pub use Rattle.bag_read.specs.Manifest.{IsEntry, IsManifestFault, ManifestFault}
pub use Rattle.bag_read.specs.ManifestName.{tag_path}
pub use Rattle.bag_read.specs.declared.line_fault.LineFault.{LineFault}
pub use Rattle.bag_read.specs.declared.tag_name.TagName.{TagName}
pub use Rattle.bag_read.specs.declared.tag_name.TagName.TheVariants.{Declaration, Fetch, Info, Manifest}
pub use Rattle.bag_text.proofs.AlgSets.{each_is_listed}
pub use Rattle.bag_text.proofs.ListOf.{contains_back, contains_behind, contains_cases, contains_either, contains_first}
pub use Rattle.bag_text.proofs.ListOf.{contains_front, contains_nothing, each_from_members, member_has, same_members}
pub use Rattle.bag_text.specs.Alg.{algs}
pub use Rattle.bag_text.specs.Order.{IsListOf}
pub use Rattle.bag_text.specs.Path.{first_component, is_base_name, is_path, is_payload_path, under}
pub use Rattle.bag_text.specs.Rules.{rules_of}
pub use Rattle.bag_text.specs.Text.{IsNoText, text_cmp}
pub use Rattle.bag_text.specs.declared.alg.Alg.{Alg}
pub use Rattle.bag_text.specs.declared.alg.Alg.TheVariants.{Md5}
pub use Rattle.bag_text.specs.declared.code.Code.{Code}
pub use Rattle.bag_text.specs.declared.code.Code.TheVariants.{NotUtf8}
pub use Rattle.bag_text.specs.declared.rules.Rules.{Rules}
pub use Rattle.bag_tree.proofs.Calm.{memory_refused, memory_then, memory_unlisted, nothing_asked, nothing_given}
pub use Rattle.bag_tree.proofs.Calm.{nothing_then}
pub use Rattle.bag_tree.proofs.SameText.{one_text, same_test, text_itself}
pub use Rattle.bag_tree.specs.Bag.{Bag, HasFile, IsBag, file, has_file}
pub use Rattle.bag_tree.specs.Listing.{IsListingOf, IsOrdered, entry_at, size_at}
pub use Rattle.bag_tree.specs.Tree.{CameFromFile, FailsOver, Keeps, MayRefuseListing, TreeState}
pub use Rattle.bag_tree.specs.Tree.{MayReportMemory, NothingFailed, IsRefusedAt}
pub use Rattle.bag_tree.specs.FileReads.{IsEntryOf, OpensAtMost}
pub use Rattle.bag_tree.specs.Whole.{MayRefuseWhole}
pub use Rattle.bag_tree.specs.declared.answer.Answer.TheVariants.{Refused, Unlisted}
pub use Rattle.bag_tree.specs.declared.listing.FileEntry.{FileEntry}
pub use Rattle.bag_tree.specs.declared.listing.Listing.{Listing}
pub use Rattle.bag_tree.specs.declared.tree_fault.Stop.{Stop}
pub use Rattle.bag_tree.specs.declared.tree_fault.TreeFault.{TreeFault}
pub use Rattle.bag_tree.specs.declared.tree_fault.TreeFault.TheVariants.{Changed, Device, Exists, Memory, Name}
pub use Rattle.bag_tree.specs.declared.tree_fault.TreeFault.TheVariants.{NoneOpen, NotFound, Special, TooMany}
pub use Rattle.bag_facts.specs.Facts.{rules_in}
pub use Rattle.bag_facts.specs.FactsOfBag.{AreJudged, AreParsed, AreRulesOf, HasItsFolder}
pub use Rattle.bag_facts.specs.FactsOfBag.{IsFactsOf}
pub use Rattle.bag_tree.specs.Stop.{IsOutOfMemory, IsRefusalOf}
pub use Rattle.bag_facts.specs.Stops.{MayRefuseFacts}
pub use Rattle.bag_facts.specs.TagFacts.{AreByPath, AreEntriesOf, IsDeclarationOf, IsManifestNamed, IsManifestOf}
pub use Rattle.bag_facts.specs.TagFacts.{IsParsed, IsReadOf, IsTagFileNamed, SaysOfTagFile, entry_paths, name_of}
pub use Rattle.bag_facts.specs.TagFacts.{path_of}
pub use Rattle.bag_facts.specs.TagReader.{AreBytes, AreFilesOfBag, PathsAreTexts, IsWhole, ReadsWanted, StopsReading}
pub use Rattle.bag_facts.specs.TagReader.{given_of, read_path, MayStopReading, OpensAll, OpensFirst}
pub use Rattle.bag_facts.specs.Wanted.{AreWanted, IsWanted, OpensUpTo, OpensWanted}
pub use Rattle.bag_facts.specs.Wanted.{paths_of}
pub use Rattle.bag_faults.specs.Options.{Wants}
pub use Rattle.bag_facts.specs.declared.facts.Facts.{Facts}
pub use Rattle.bag_faults.specs.declared.options.Options.{Options}
pub use Rattle.bag_facts.specs.declared.tag_facts.TagFacts.{TagFacts}
pub use Rattle.bag_facts.specs.declared.tag_reader.TagBytes.{TagBytes}
