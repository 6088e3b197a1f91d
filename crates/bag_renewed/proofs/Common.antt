-- The names that this crate's proofs cite, passed on from one place. Declares nothing.
pub use Rattle.std.proofs.Common.{Bool, Contains, IsTrue, List, [], ap, arith, cond, false, get_or, length, not, refl}
pub use Rattle.std.proofs.Common.{sym, take, true, ℕ, ◌&&◌, ◌++◌, ◌+◌, ◌<◌, ◌||◌, ◌∙◌, ◌∷◌, ◌≡◌, ◌≤◌}
pub use Rattle.std.proofs.lemmas.Bool.{false≢true}
pub use Rattle.std.specs.List.{list_any}
pub use Rattle.std.specs.Prelude.{filter}
pub use Rattle.bag_read.specs.ManifestName.{tag_path}
pub use Rattle.bag_read.specs.declared.kind.Kind.TheVariants.{Payload}
pub use Rattle.bag_read.specs.declared.tag_name.TagName.TheVariants.{Declaration, Manifest}
pub use Rattle.bag_text.specs.Alg.{algs}
pub use Rattle.bag_text.specs.AlgList.{has_member}
pub use Rattle.bag_text.specs.Text.{text_cmp}
pub use Rattle.bag_text.specs.declared.alg.Alg.{Alg}
pub use Rattle.bag_tree.specs.Bag.{Bag, has_file}
pub use Rattle.bag_renewed.specs.Renewed.{algs_where, has_payload_manifest, is_kept_alg, is_new_alg, keeps, new_algs}
pub use Rattle.bag_renewed.specs.declared.renewal.Renewal.{Renewal}
