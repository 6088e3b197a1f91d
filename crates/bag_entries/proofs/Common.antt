-- The names that this crate's proofs cite, passed on from one place. Declares nothing.
pub use Rattle.std.proofs.Common.{Bool, List, Some, [], ap}
pub use Rattle.std.proofs.Common.{append_assoc, arith, bytes_eq, cond, false, get_or}
pub use Rattle.std.proofs.Common.{length, map, nat_eq, nat_lt, refl, rules}
pub use Rattle.std.proofs.Common.{slice_index, slice_set, sym, take, true, ℕ, ◌%◌, ◌&&◌, ◌*◌, ◌++◌}
pub use Rattle.std.proofs.Common.{◌+◌, ◌/◌, ◌<◌, ◌==◌, ◌∙◌, ◌∷◌, ◌≡◌, ◌≤◌, ◌⊎◌}
pub use Rattle.std.proofs.lemmas.Bool.{agree_below_at, and_parts, both_ways, cases_lt}
pub use Rattle.std.proofs.lemmas.Bool.{eqb-false, eqb-true, not-false}
pub use Rattle.std.proofs.lemmas.Bool.{not-true}
pub use Rattle.std.proofs.lemmas.Bool.Decides.{nat_tests}
pub use Rattle.std.proofs.lemmas.List.{get_or-map, length-map}
pub use Rattle.std.proofs.lemmas.List.{map-append, take_more, take_more_set}
pub use Rattle.std.proofs.lemmas.Option.{get_or_from_slice_get, slice_get-get_or, slice_get_within}
pub use Rattle.std.proofs.lemmas.Slice.Eq.{bytes_eq-Decides}
pub use Rattle.std.specs.BTreeSet.{contains, contains_by}
pub use Rattle.std.specs.Char.{is_ascii_hexdigit, to_ascii_lowercase}
pub use Rattle.std.specs.Cmp.{IsTotalOrder, nat_cmp_is}
pub use Rattle.std.specs.List.{IsDistinct}
pub use Rattle.std.specs.List.{slice_get}
pub use Rattle.std.specs.Ordering.{is_eq, is_lt, nat_cmp}
pub use Rattle.std.specs.Prelude.{IsTrue, ◌↔◌}
pub use Rattle.std.specs.Str.{str_to_ascii_lowercase}
pub use Rattle.std.specs.declared.cmp.Ordering.{Ordering}
pub use Rattle.std.specs.declared.cmp.Ordering.TheVariants.{Equal, Less}
pub use Rattle.bag_text.specs.Text.{text_cmp}
pub use Rattle.hex.specs.Hex.{encode_lower, lower_digits}
pub use Rattle.bag_entries.specs.Repeats.{PathsAscend, AreDifferent, IsRepeatedLine, NamesBelow, RepeatsBelow}
pub use Rattle.bag_entries.specs.Repeats.{fingerprint, mark_of}
pub use Rattle.bag_entries.specs.declared.entry.ManifestEntry.{ManifestEntry}
unfoldable pub use Rattle.hex.specs.Hex.{encode_with}
