-- The names that this crate's proofs cite, passed on from one place. Declares nothing.
pub use Rattle.std.proofs.Common.{Bor, List, Option, Vec, [], ap, append-nil}
pub use Rattle.std.proofs.Common.{append_assoc, arith, drop, get_or, inl, inr, length, map, max, refl, rules}
pub use Rattle.std.proofs.Common.{string_bytes, take, ℕ, ◌++◌, ◌+◌, ◌<◌, ◌∙◌, ◌∷◌, ◌≡◌, ◌≤◌}
pub use Rattle.std.proofs.lemmas.Iterator.{IsCollectResult, YieldsList, YieldsList-from_map_by, YieldsList-from_slice}
pub use Rattle.std.proofs.lemmas.Iterator.{items_from_collect, items_from_drains}
pub use Rattle.std.proofs.lemmas.List.{drop_all, drop_more}
pub use Rattle.std.proofs.lemmas.Result.{err_from_is_err_and}
pub use Rattle.std.specs.Option.{option_map}
pub use Rattle.std.specs.Prelude.{IfOk, IfSome, MatchOption, unwrap_or}
pub use Rattle.std.specs.declared.result.Result.{Result}
pub use Rattle.std.specs.declared.result.Result.TheVariants.{Ok}
pub use Rattle.bag_tree.specs.Out.{OutState}
pub use Rattle.bag_tree.specs.Tree.{TreeState}
pub use Rattle.bag_program.specs.FolderDeeds.{AreDoneWith, TreeDeed}
pub use Rattle.bag_program.specs.Folders.{visits_of}
pub use Rattle.bag_program.specs.InTurn.{AreInTurn, HasVisited, Last, Whole}
pub use Rattle.bag_program.specs.Deeds.{IsSaid}
pub use Rattle.bag_program.specs.Visits.{Asked, Closed, Entered, Event, Left, NotGiven, Opened, Read, Shut}
