-- The names that this crate's proofs cite, passed on from one place. Declares nothing.
pub use Rattle.std.proofs.Common.{Bool, Contains, List, Option, [], ap, arith, false, filter, inl, inr, is_some, map}
pub use Rattle.std.proofs.Common.{refl, rules, subst, suc, sym, true, zero, ℕ, ◌<◌, ◌∙◌, ◌∷◌, ◌≡◌, ◌≢◌}
pub use Rattle.std.proofs.lemmas.Bool.{and_parts}
pub use Rattle.std.specs.Option.{option_copied}
pub use Rattle.std.specs.declared.cmp.Ordering.{Ordering}
pub use Rattle.bag_report.proofs.ConformanceFaultsLaws.{conformance_faults_are_listed}
pub use Rattle.bag_report.proofs.ConformanceFaultsLaws.{conformance_faults_are_of_stage_eight}
pub use Rattle.bag_report.specs.ConformanceStage.{IsOfConformance}
pub use Rattle.bag_facts.proofs.Mapped.{kept, passed}
pub use Rattle.bag_faults.proofs.Ordered.{fault_cmp_same, fault_cmp_total}
pub use Rattle.bag_faults.specs.FaultOrder.{fault_cmp}
pub use Rattle.bag_faults.specs.Options.{reaches}
pub use Rattle.bag_faults.specs.declared.fault.Fault.{Fault}
pub use Rattle.bag_profile.specs.Profile.{Profile}
pub use Rattle.bag_stages.specs.CompletenessStage.{IsOfCompleteness}
pub use Rattle.bag_stages.specs.CompletenessFaults.{IsSoughtInStageSix}
pub use Rattle.bag_stages.specs.DeclarationStage.{IsOfDeclaration}
pub use Rattle.bag_stages.specs.FetchStage.{IsOfFetch}
pub use Rattle.bag_stages.specs.ManifestsStage.{IsOfManifests}
pub use Rattle.bag_stages.specs.MetadataStage.{IsOfMetadata}
pub use Rattle.bag_stages.specs.PartsStage.{IsOfParts}
pub use Rattle.bag_stages.specs.ValidityStage.{IsOfValidity}
pub use Rattle.bag_text.proofs.ListOf.{nothing_listed, one_list, same_members}
pub use Rattle.bag_text.specs.Code.{stage}
pub use Rattle.bag_text.specs.Order.{IsListOf}
pub use Rattle.bag_text.specs.declared.code.Code.TheVariants.{NameClash, NoOxum}
pub use Rattle.bag_tree.specs.Bag.{Bag}
pub use Rattle.bag_report.specs.Report.{Check, IsReported, asks, is_fast}
pub use Rattle.bag_report.specs.Stages.{IsFoundAt, IsStageOf}
unfoldable pub use Rattle.bag_report.specs.Report.{Is}
