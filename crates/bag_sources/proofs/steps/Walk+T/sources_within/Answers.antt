use Rattle.bag_sources.proofs.Common.{◌++◌, List, Option, refl, append-nil, option_copied, Bag, Fault, IsFactsOf, Check}
use Rattle.bag_sources.proofs.Common.{faults_of_files, paths_to_sum}
use Rattle.bag_sources.specs.StartPart.{IsAheadWithin}
use Rattle.bag_sources.proofs.Stages.{Hold, all_joined, early_below, late_behind, none_to_open, sums_below}
use Rattle.bag_sources.proofs.Within.{seventh, to_open}
use Rattle.bag_sources.proofs.steps.Walk+T.sources_within.Goals as goal

pub returns : goal.returns
returns g c =
    let after : Option Fault = option_copied c.args.after in
    let bounds = c.args.bounds.now in
    let validity = c.in_ok-validity.validity in
    let has = c.in_ok-validity.ensures in
    let late = c.in_ok-late.late.items in
    let check : Bag → Check = λ bag.
    record { bag = bag; profile = option_copied c.args.profile; options = c.args.facts.now.options } in
    let sums : Bag → List Fault = λ bag. validity.found ++ faults_of_files bag validity.after validity.pending in
    let hold : (bag : Bag) → IsFactsOf bag c.args.facts.now
    → Hold (IsAheadWithin (check bag) after bounds) c.in_ok-early.early.items (sums bag) late = λ bag h.
    record {
      first = c.in_ok-early.ensures bag h;
      seventh =
          seventh bounds (check bag) after (sums bag) (λ full. has.faults bag h full) (λ below.
          rw ((has.none below).0, (has.none below).1) refl);
      eighth = c.in_ok-late.ensures bag h;
    } in
    rw (c.new-4.ensures, c.new-3.ensures, c.new-2.ensures, c.new.ensures) (record {
      of = λ bag h.
          let all = hold bag h in (
            (all.first.ascending, early_below all, λ ordered. none_to_open (sums bag ++ late)),
            (
              (has.of bag h, sums_below all, λ ordered. late_behind all (paths_to_sum validity.pending)),
              all.eighth.ascending,
            ),
          );
      stands = λ bag h. all_joined (hold bag h);
      files = λ bag h.
          rw (append-nil (paths_to_sum validity.pending))
          (to_open bounds (check bag) after (paths_to_sum validity.pending) (λ full. has.todo bag h full) (λ below.
          rw (has.none below).0 refl));
    })
