-- A walk over a part of a report is started.
use Rattle.bag_sources.proofs.Common.{◌≡◌, Option, IsTrue, subst, Bag, IsBag, TreeState, Fault, Facts, Options}
use Rattle.bag_sources.proofs.Common.{Profile, IsFactsOf, Check, IsStarted, List, ℕ}
use Rattle.bag_faults.specs.Part.{Part}
use Rattle.bag_sources.proofs.Stages.{payload_to_open, seen_of}
use Rattle.bag_sources.proofs.Within.{all_ahead, all_to_open}
use Rattle.bag_report.specs.Report.{check_with}
use Rattle.bag_sources.specs.Parts.{AreFilesIn, bounds_of, only_part}
use Rattle.bag_sources.specs.StartPart.{AreSourcesWithin, AreToOpenWithin, IsPartStarted, IsReportWithin}
use Rattle.bag_sources.specs.declared.part.Bounds.{Bounds}
use Rattle.bag_sources.specs.declared.source.Source as Source

-- a walk over the part 1 of 1 that was started is one over the report
pub whole_started : {old : TreeState} {profile : Option Profile} {options : Options} {after : Option Fault}
    {IsOf : Bag → Type 0} {left : Bag → List Fault} {todo : List (List ℕ)}
    → IsPartStarted old profile options after only_part IsOf left todo
    → IsStarted old profile options after IsOf left todo
whole_started {profile = profile} {options = options} {after = after} {left = left} {todo = todo} started =
    let check : Check = check_with started.seen profile options in
    let files = all_to_open check after todo started.files in
    record {
      seen = started.seen;
      is_bag = started.is_bag;
      honest = started.honest;
      of = started.of;
      stands = all_ahead check after (left started.seen) started.stands;
      files = files;
      payload = payload_to_open check after todo files;
    }

module _ (profile : Option Profile) where
  abbrev check_by : Bag → Options → Check
  check_by bag by = record { bag = bag; profile = profile; options = by }

  files_of_facts : (bag : Bag) (facts : Facts) → IsFactsOf bag facts → AreFilesIn bag facts.listing.files
  files_of_facts bag facts are = record { ordered = are.ordered; sizes = are.listing.files }

  pub part_started : {T S : Type 0} (source : Source.Ghosts S T) (old : TreeState) (options : Options)
      (after : Option Fault) (part : Part) (facts : Facts) (sources : S) → IsBag old.bag
      → (IsTrue old.honest → IsFactsOf old.bag facts) → ((bag : Bag) × IsBag bag × IsFactsOf bag facts)
      → facts.options ≡ options
      → AreSourcesWithin source facts profile after (bounds_of facts.listing.files part) sources
      → IsPartStarted old profile options after part (λ bag. source.is_of bag sources)
      (λ bag. source.remaining bag sources) (source.todo sources)
  part_started source old options after part facts sources is_bag are seen same of =
      let picked =
      seen_of (λ bag. IsBag bag × IsFactsOf bag facts) old.honest old.bag (λ h. (is_bag, are h))
      (seen.0, (seen.1, seen.2)) in
      let bag : Bag = picked.0 in
      let told : IsFactsOf bag facts = picked.2.1 in
      let bounds : Bounds = bounds_of facts.listing.files part in
      record {
        seen = bag;
        is_bag = picked.2.0;
        honest = picked.1;
        of = of.of bag told;
        listing = facts.listing.files;
        listed = files_of_facts bag facts told;
        stands = subst (λ by. IsReportWithin (check_by bag by) after bounds (source.remaining bag sources)) same
            (of.stands bag told);
        files = subst (λ by. AreToOpenWithin (check_by bag by) after bounds (source.todo sources)) same
            (of.files bag told);
      }
