-- The names that this crate's proofs cite, passed on from one place. Declares nothing.
pub use Rattle.std.proofs.Common.{Bool, Contains, IsTrue, List, None, Option, Some, [], ap, append-nil, append_assoc}
pub use Rattle.std.proofs.Common.{arith, bytes_eq, codes, cond, false, get_or, inl, inr, length, map, not, refl, subst}
pub use Rattle.std.proofs.Common.{sym, take, true, ℕ, ◌++◌, ◌+◌, ◌<◌, ◌||◌, ◌∙◌, ◌∷◌, ◌≡◌, ◌≢◌, ◌≤◌, ◌⊎◌}
pub use Rattle.std.proofs.lemmas.Bool.{and_parts, false≢true}
pub use Rattle.std.proofs.lemmas.List.{map-append}
pub use Rattle.std.proofs.lemmas.List.Elements.{All-append, All-cons, All-contains, All-nil}
pub use Rattle.std.proofs.lemmas.Slice.Eq.{bytes_eq-Decides}
pub use Rattle.std.specs.Option.{unwrap_or}
pub use Rattle.std.specs.Prelude.{All, filter}
pub use Rattle.bag_facts.proofs.Mapped.{contains_mapped, mapped_contains}
pub use Rattle.bag_read.proofs.TagPaths.{in_base}
pub use Rattle.bag_read.specs.ManifestName.{tag_path}
pub use Rattle.bag_read.specs.declared.kind.Kind.{Kind}
pub use Rattle.bag_read.specs.declared.kind.Kind.TheVariants.{Payload, Tag}
pub use Rattle.bag_read.specs.declared.tag_name.TagName.TheVariants.{Manifest}
pub use Rattle.bag_facts.specs.Facts.{rules_in}
pub use Rattle.bag_stages.specs.Payload.{payload}
pub use Rattle.bag_text.proofs.ListOf.{contains_back, contains_behind, contains_cases, contains_either, contains_first}
pub use Rattle.bag_text.proofs.ListOf.{contains_front, contains_nothing}
pub use Rattle.bag_text.specs.Path.{is_path, is_payload_path}
pub use Rattle.bag_text.specs.Text.{text_cmp}
pub use Rattle.bag_text.specs.declared.alg.Alg.{Alg}
pub use Rattle.bag_tree.specs.Bag.{Bag, HasFile, IsBag, file, files_of}
pub use Rattle.bag_tags.specs.Summed.{File}
