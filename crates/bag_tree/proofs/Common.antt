-- The names that this crate's proofs cite, passed on from one place. Declares nothing.
pub use Rattle.std.proofs.Common.{Bool, Contains, Err, IsTrue, IsUtf8, List, MutBor, None, Ok, Option, Result, Some, []}
pub use Rattle.std.proofs.Common.{add-one, add_comm, ap, append-nil, append_assoc, arith, below_more, cond, drop, false}
pub use Rattle.std.proofs.Common.{get_or, get_or-set_other, get_or-set_same, inl, inr, is_some, length, length-append}
pub use Rattle.std.proofs.Common.{length-take-le, map, nat_eq, nat_lt, refl, rules, set, slice_index, subst, suc, sym}
pub use Rattle.std.proofs.Common.{take, take-append-drop, true, unwrap_or, vec_len, zero, ℕ, ⊎_elim, ◌&&◌, ◌*◌, ◌++◌}
pub use Rattle.std.proofs.Common.{◌+◌, ◌-◌, ◌/◌, ◌<◌, ◌==◌, ◌^◌, ◌∙◌, ◌∷◌, ◌≡◌, ◌≢◌, ◌≤◌, ◌⊎◌}
pub use Rattle.std.proofs.Math.Dec.{T}
pub use Rattle.std.proofs.Math.Seq.{take-append-add}
pub use Rattle.std.proofs.lemmas.Bool.{and_from, and_parts, cases_lt, eqb-true, false≢true, lt-ltb, ltb-true, or_right}
pub use Rattle.std.proofs.lemmas.Bool.Decides.{Decides-eqb, nat_tests}
pub use Rattle.std.proofs.lemmas.Grind.{common_steps}
pub use Rattle.std.proofs.lemmas.List.{take_at}
pub use Rattle.std.proofs.lemmas.List.Elements.{All-append, All-cons, All-from_get_or, All-head, All-nil, All-tail}
pub use Rattle.std.proofs.lemmas.List.Elements.{All-take}
pub use Rattle.std.proofs.lemmas.List.Prefix.{front_rest}
pub use Rattle.std.proofs.lemmas.Result.{MatchResult-weaker, err_from_is_err_and}
pub use Rattle.std.proofs.lemmas.Slice.Eq.{bytes_eq-Decides, starts_is}
pub use Rattle.std.specs.Borrow.{Bor}
pub use Rattle.std.specs.Cmp.Lexicographic.{nat_list_cmp_total}
pub use Rattle.std.specs.FinMap.{IsAntisymmetric, entries_sorted, find, get-empty, get-entries, get-insert, is_sorted}
pub use Rattle.std.specs.FinMap.{nat_cmp-IsAntisymmetric, slice_cmp-IsAntisymmetric}
pub use Rattle.std.specs.FinMap.Entries.{below_all, same_entries}
pub use Rattle.std.specs.Io.KnownBytes.{Appends}
pub use Rattle.std.specs.List.{AllByRecursion, before_first, position_or_len, starts_with}
pub use Rattle.std.specs.Option.{option_map}
pub use Rattle.std.specs.Ordering.{eq_by_cmp, is_eq, is_lt, nat_cmp}
pub use Rattle.std.specs.Prelude.{All}
pub use Rattle.std.specs.Str.{bytes_eq}
pub use Rattle.std.specs.declared.cmp.Ordering.TheVariants.{Less}
pub use Rattle.bag_text.proofs.AlgSets.{rank_within}
pub use Rattle.bag_text.specs.Alg.{algs, rank}
pub use Rattle.bag_text.specs.Path.{components, first_component, is_base_name, is_path, slash, under}
pub use Rattle.bag_text.specs.Text.{text_cmp}
pub use Rattle.bag_text.specs.declared.alg.Alg.{Alg}
pub use Rattle.bag_text.specs.declared.alg.Alg.TheVariants.{Md5, Sha1, Sha224, Sha256, Sha384, Sha512}
pub use Rattle.hex.specs.Hex.{IsBytes, encode_lower}
pub use base.Logic.{SProp, emp, ent, fst∗, id⊢, sep, via}
pub use contract.Monad.{Fun}
pub use contract.Running.{tables}
pub use denote.Steps.{closes, nothing, opens}
pub use denote.Triple.Entry.{on_entry}
pub use denote.Triple.Spec.{Meets, triple_of}
pub use denote.Triple.Table.{entered}
pub use denote.Triple.Walked.{Goes-none_slice, Goes-ref, Stays, ends_at, says, stay_none_slice, stay_ref, walk_Meets}
pub use denote.Triple.Walked.{walk_of, walked}
pub use mir.Val.{Val, vcons, vnil, vptr, vstruct, vunit}
pub use prog.Memory.{Memory}
pub use prog.Routine.{Routine}
pub use prog.Wp.{Calls, Loops, Tables, WpFn}
pub use seplogic.Ra.Ura.{Ura}
pub use sound.WpLaws.{WpFn-mono}
pub use types.ByLocal.{alloc_all, free_all, get, look_at, pass_all, sets}
pub use types.Kit.{ !, by, done, feq_i, fjoin, fjoin3, frame, fsplit, fsplit3, join, keep, move, qed, raw, split}
pub use types.Kit.{suffices, use1, ‵, ◌$◌, ◌∵◌, ◌⊛◌}
pub use types.Logic.{Logic}
pub use types.Run.{and_then, enter, no_more, of_opd, returns, unit_lit}
pub use Rattle.bag_tree.specs.Bag.{file, files_of}
pub use Rattle.bag_tree.specs.Digest.{digest, hash}
pub use Rattle.bag_tree.specs.DigestsOf.{AreSumsOf, hash_len, sum_at}
pub use Rattle.bag_tree.specs.Digests.{HoldsWhere, IsHashWhere}
pub use Rattle.bag_tree.specs.Moved.{ByPath, is_within, moved, renamed, with_renamed}
pub use Rattle.bag_tree.specs.MovesAll.{MovedIsThere}
pub use Rattle.bag_tree.specs.Out.{IsCut, OutState}
pub use Rattle.bag_tree.specs.Pieces.{IsTaken, Writes, joined_pieces}
pub use Rattle.bag_tree.specs.Tree.{HasOpen, Keeps, TreeState, refusal_of}
pub use Rattle.bag_tree.specs.FileReads.{ReadsNext, answer_of_read}
pub use Rattle.bag_tree.specs.Whole.{HasRead}
pub use Rattle.bag_tree.specs.declared.answer.Answer.TheVariants.{Given, Refused, Unlisted}
pub use Rattle.bag_tree.specs.declared.given_files.GivenFiles.{GivenFiles}
pub use Rattle.bag_tree.specs.declared.heard.Heard.{Heard}
