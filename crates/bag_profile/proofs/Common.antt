-- The names that this crate's proofs cite, passed on from one place. Declares nothing.
pub use Rattle.std.proofs.Common.{Bool, Bor, Err, Global, List, None, Ok, Option, Result, Some, String, [], ap}
pub use Rattle.std.proofs.Common.{append_assoc, arith, codes, cond, drop, eqb, false, get_or, inl, inr, length, lit<}
pub use Rattle.std.proofs.Common.{refl, rules, string_bytes, subst, suc, sym, true, ℕ, ◌&&◌, ◌++◌, ◌-◌, ◌<◌, ◌∙◌, ◌∷◌}
pub use Rattle.std.proofs.Common.{◌≡◌, ◌≢◌, ◌≤◌, ◌⊎◌}
pub use Rattle.std.proofs.lemmas.Bool.{and_from, and_parts, cases_lt, eq-eqb, eqb-true, false_from_ne_true, iff_false}
pub use Rattle.std.proofs.lemmas.Bool.{ne_eqb, or_cases, or_left, or_right, true≢false}
pub use Rattle.std.proofs.lemmas.Result.{IfErr-weaker, IfOk-weaker, MatchResult-from_both, err_from_is_err_and}
pub use Rattle.std.proofs.lemmas.Slice.Eq.{bytes_eq-Decides}
pub use Rattle.std.specs.List.{AllByRecursion, onto_first, slice_split}
pub use Rattle.std.specs.Option.{ForSome, MatchOption, is_some, option_and_then, option_map, option_or}
pub use Rattle.std.specs.Prelude.{Contains, find}
pub use Rattle.std.specs.Result.{IsErrAnd, MatchResult}
pub use Rattle.std.specs.Str.{IsUtf8, bytes_eq, is_utf8}
pub use Rattle.std.specs.declared.cmp.Ordering.TheVariants.{Equal, Greater, Less}
pub use Rattle.bag_text.specs.Text.{text_cmp}
pub use Rattle.serde_json.specs.Data.{Data, Items, Members, item, member, no_items, no_members}
pub use Rattle.serde_json.specs.Find.{as_array, as_bool, as_object, as_str, get}
pub use Rattle.serde_json.specs.View.{items_view, members_view}
pub use Rattle.bag_profile.specs.Answer.{at, needed, present, shaped}
pub use Rattle.bag_text.specs.FirstFault.{◌>>=◌}
pub use Rattle.bag_profile.specs.Label.{allowed_values, flag, label_rules, labels, optional}
pub use Rattle.bag_profile.specs.Orderly.{AreLabelsOrderly}
pub use Rattle.bag_profile.specs.Label.{label_rules_of}
pub use Rattle.bag_profile.specs.NameLists.{name_lists_of, name_rules}
pub use Rattle.bag_profile.specs.Pattern.{begins, matches, some_tail, star}
pub use Rattle.bag_profile.specs.Laws.{IsPieces, MatchesArePieces, TextSetsAreLists}
pub use Rattle.bag_profile.specs.Star.{matches_after_star}
pub use Rattle.bag_profile.specs.Read.{as_record, of_object}
pub use Rattle.bag_profile.specs.Terms.{serialization_named, terms_of}
pub use Rattle.bag_profile.specs.TextSet.{IsAscending, text_set, texts, texts_if_all, with_texts}
pub use Rattle.bag_profile.specs.Unchecked.{keys, unchecked_of}
pub use Rattle.bag_profile.specs.declared.fault.ProfileFault.{ProfileFault}
pub use Rattle.bag_profile.specs.declared.key.Key.{Key}
pub use Rattle.bag_profile.specs.declared.label.LabelRule.{LabelRule}
