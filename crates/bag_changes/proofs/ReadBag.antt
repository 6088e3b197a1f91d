-- What a bag is that was read for a renewal, and why it is refused.
use Rattle.bag_changes.proofs.Common.{◌≡◌, ◌≢◌, ◌∙◌, ◌⊎◌, inl, inr, ℕ, List, [], Bool, IsTrue, sym, ap, arith, subst}
use Rattle.bag_changes.proofs.Common.{and_parts, Bag, IsBag, files_of, Renewal}
use Rattle.bag_facts.proofs.Mapped.{kept}
use Rattle.bag_facts.proofs.Reading.{later_refusal}
use Rattle.bag_facts.proofs.Refusing.{path_some}
use Rattle.bag_facts.specs.FactsOfBag.{IfBagRead, IsFactsOf}
use Rattle.bag_tree.specs.Stop.{IsOutOfMemory}
use Rattle.bag_facts.specs.Stops.{IsOfListing}
use Rattle.bag_facts.specs.TagReader.{OpensAll}
use Rattle.bag_facts.specs.declared.facts.Facts.{Facts}
use Rattle.bag_faults.specs.declared.options.Depth.TheVariants.{Declaration}
use Rattle.bag_faults.specs.declared.options.Options.{Options}
use Rattle.bag_tree.proofs.Calm.{memory_then}
use Rattle.bag_tree.specs.Tree.{Keeps, NothingFailed, TreeState}
use Rattle.bag_tree.specs.declared.tree_fault.Stop.{Stop}
use Rattle.bag_checked.proofs.CheckedBag.{compared, damaged, first_early, first_looked_for, info_lines, none_at_all}
use Rattle.bag_checked.proofs.CheckedBag.{none_early, opens_read, sums_are}
use Rattle.bag_stages.specs.MetadataStage.{bag_info_txt}
use Rattle.bag_stages.specs.TagFiles.{lines_in}
use Rattle.bag_checked.specs.Compared.{AreCompared}
use Rattle.bag_checked.specs.FirstFaults.{HasNoneBefore, IsFirst, IsFoundFirst, IsLookedFor, HasNoEarlyFault}
use Rattle.bag_changes.specs.NewInfo.{IsInfoRefusal}
use Rattle.bag_checked.specs.NewManifests.{HasChecked, OpensRead}
use Rattle.bag_checked.proofs.InTurn.{all_still}
use Rattle.bag_changes.proofs.ReservedNames.{reserved_in_base}
use Rattle.bag_changes.specs.Folders.{IsRefusedLook, OpensNothing}
use Rattle.bag_changes.specs.Obstacles.{CanNameFiles, HasNoObstacle, IfOwn, IsFreeToChange, IsHindered, IsInTheWay}
use Rattle.bag_changes.specs.Obstacles.{IsObstacle}
use Rattle.bag_changes.specs.Reading.{AllowsRenewal, HasReadBag, IsNotReady, IsOfLook, IsRefusalOf}
use Rattle.bag_changes.specs.Reading.{IsRefusalOfStop, MayRefuseReading, MayStopReadingBag}
use Rattle.bag_changes.specs.Reserved.{IsOutOfTheWay, reserved_names}
use Rattle.bag_renewed.specs.Renewed.{reads_payload}
use Rattle.bag_checked.specs.Stops.{IsOfFile, MayStop, StopsChecking}
use Rattle.bag_checked.specs.Summed.{AreSummedBy, IsFaultyFile, files_to_read, to_read}
use Rattle.bag_report.specs.Valid.{full}
use Rattle.bag_checked.specs.declared.checked.Unchecked.{Unchecked}
use Rattle.bag_checked.specs.declared.checked.Unchecked.TheVariants as checked
use Rattle.bag_changes.specs.declared.fault.RenewFault.{RenewFault}
use Rattle.bag_changes.specs.declared.fault.RenewFault.TheVariants as why
use Rattle.bag_renewed.specs.declared.target.Target.{Target}
use Rattle.bag_tags.specs.declared.summed.SummedFile.{SummedFile}
use Rattle.bag_checked.proofs.StopsOfBag.{stop_at_file}

-- ---- a stop

refused_path : (with_payload : Bag → Bool) (old new : TreeState) (stop : Stop) → (IsOutOfMemory stop → ⊥)
    → IsOutOfMemory stop ⊎ IsOfListing old new stop ⊎ IsOfFile with_payload old new stop
    → IsOfListing old new stop ⊎ IsOfLook old new stop ⊎ IsOfFile with_payload old new stop
refused_path with_payload old new stop not (inl memory) = absurd (not memory)
refused_path with_payload old new stop not (inr (inl listing)) = inl listing
refused_path with_payload old new stop not (inr (inr of_file)) = inr (inr of_file)

pub refused_stop : (renewal : Renewal) (old new : TreeState) (stop : Stop) (fault : RenewFault)
    → MayStop (λ bag. reads_payload bag renewal) old new stop → IsRefusalOfStop stop fault
    → MayRefuseReading renewal old new fault
refused_stop renewal old new stop why.Memory h is = h.out_of_memory is
refused_stop renewal old new stop (why.ReadStopped other) h is =
    subst (MayStopReadingBag renewal old new) (sym is.0) (record {
      cause = h.cause;
      not_memory = is.1;
      answered = h.answered;
      path = refused_path (λ bag. reads_payload bag renewal) old new stop (λ memory. is.1 memory.0) h.path;
    })
refused_stop renewal old new stop (why.Faulty f) h is = absurd is
refused_stop renewal old new stop why.BadValue h is = absurd is
refused_stop renewal old new stop why.NoAlgorithm h is = absurd is
refused_stop renewal old new stop (why.InTheWay n) h is = absurd is
refused_stop renewal old new stop (why.Unnameable p) h is = absurd is
refused_stop renewal old new stop (why.Outdated p) h is = absurd is
refused_stop renewal old new stop (why.Unlisted p) h is = absurd is
refused_stop renewal old new stop why.Fetch h is = absurd is
refused_stop renewal old new stop (why.PutRefused n q) h is = absurd is
refused_stop renewal old new stop (why.RemoveRefused n q) h is = absurd is

-- ---- what is known allows no renewal

module _ (renewal : Renewal) (facts : Facts) (old new : TreeState) where
  -- an obstacle was found
  pub refused_by_obstacle : (fault : RenewFault) → HasNoneBefore facts 7 → IsHindered facts renewal old new fault
      → IsNotReady facts renewal old new fault
  refused_by_obstacle (why.Faulty f) none h = λ deep bag of. absurd (h bag of deep)
  refused_by_obstacle why.BadValue none h = (none, λ bag of deep. absurd (h bag of deep))
  refused_by_obstacle why.NoAlgorithm none h = (none, h)
  refused_by_obstacle (why.InTheWay n) none h = (none, h)
  refused_by_obstacle (why.Unnameable p) none h = (none, h)
  refused_by_obstacle (why.Outdated p) none h = (none, h)
  refused_by_obstacle (why.Unlisted p) none h = (none, h)
  refused_by_obstacle why.Fetch none h = (none, h)
  refused_by_obstacle (why.ReadStopped s) none h = h
  refused_by_obstacle why.Memory none h = h
  refused_by_obstacle (why.PutRefused n q) none h = (none, h)
  refused_by_obstacle (why.RemoveRefused n q) none h = (none, h)

  -- an element can't be written
  pub refused_by_info : (fault : RenewFault) → HasNoneBefore facts 7
      → IfBagRead facts (λ bag. IsFreeToChange bag renewal) → (IsTrue old.honest → IsOutOfTheWay old.bag)
      → IfBagRead facts (λ bag. CanNameFiles bag renewal)
      → IfBagRead facts (λ bag. IsInfoRefusal bag renewal (lines_in bag bag_info_txt) fault)
      → NothingFailed old new → IsNotReady facts renewal old new fault
  refused_by_info (why.Faulty f) none free way names h calm = λ deep bag of. absurd (h bag of deep).1
  refused_by_info why.BadValue none free way names h calm =
      (none, λ bag of deep. (free bag of deep, way, names bag of deep, h bag of deep))
  refused_by_info why.NoAlgorithm none free way names h calm = (none, λ bag of deep. absurd (h bag of deep).1)
  refused_by_info (why.InTheWay n) none free way names h calm =
      (none, λ honest of deep. absurd (h old.bag of deep).1)
  refused_by_info (why.Unnameable p) none free way names h calm = (none, λ bag of deep. absurd (h bag of deep).1)
  refused_by_info (why.Outdated p) none free way names h calm = (none, λ bag of deep. absurd (h bag of deep).1)
  refused_by_info (why.Unlisted p) none free way names h calm = (none, λ bag of deep. absurd (h bag of deep).1)
  refused_by_info why.Fetch none free way names h calm = (none, λ bag of deep. absurd (h bag of deep).1)
  refused_by_info (why.ReadStopped s) none free way names h calm = λ bag of deep. absurd (h bag of deep).1
  refused_by_info why.Memory none free way names h calm = inr calm
  refused_by_info (why.PutRefused n q) none free way names h calm = (none, λ bag of deep. absurd (h bag of deep).1)
  refused_by_info (why.RemoveRefused n q) none free way names h calm = (none, λ bag of deep. absurd (h bag of deep).1)

  memory_by_stage : (fault : RenewFault) (stop : Stop) → IsOutOfMemory stop → IsRefusalOfStop stop fault
      → NothingFailed old new → IsNotReady facts renewal old new fault
  memory_by_stage (why.Faulty f) stop memory is calm = absurd is
  memory_by_stage why.BadValue stop memory is calm = absurd is
  memory_by_stage why.NoAlgorithm stop memory is calm = absurd is
  memory_by_stage (why.InTheWay n) stop memory is calm = absurd is
  memory_by_stage (why.Unnameable p) stop memory is calm = absurd is
  memory_by_stage (why.Outdated p) stop memory is calm = absurd is
  memory_by_stage (why.Unlisted p) stop memory is calm = absurd is
  memory_by_stage why.Fetch stop memory is calm = absurd is
  memory_by_stage (why.ReadStopped s) stop memory is calm = absurd (is.1 memory.0)
  memory_by_stage why.Memory stop memory is calm = inr calm
  memory_by_stage (why.PutRefused n q) stop memory is calm = absurd is
  memory_by_stage (why.RemoveRefused n q) stop memory is calm = absurd is

  pub refused_by_stage : (e : Unchecked) (fault : RenewFault) → IsFoundFirst facts e → IsRefusalOf e fault
      → NothingFailed old new → IsNotReady facts renewal old new fault
  refused_by_stage (checked.Stopped stop) fault h is calm = memory_by_stage fault stop h is calm
  refused_by_stage (checked.Faulty found) fault h is calm =
      subst (IsNotReady facts renewal old new) (sym is) (λ deep. h)

-- of an honest tree's own bag, from what it was when the facts had been read
pub own_way : (old mid : TreeState) → Keeps old mid → (IsTrue mid.honest → IsOutOfTheWay mid.bag) → IsTrue old.honest
    → IsOutOfTheWay old.bag
own_way old mid keeps way honest = subst IsOutOfTheWay keeps.bag (way (keeps.honest ∙ honest))

module _ (renewal : Renewal) (facts : Facts) (old mid new : TreeState) (options : facts.options ≡ full)
    (seen : (bag : Bag) × IsBag bag × IsFactsOf bag facts) (of : IsTrue old.honest → IsFactsOf old.bag facts)
    (keeps : Keeps old mid) (calm : NothingFailed old mid) where
  deep : facts.options.depth ≢ Declaration
  deep e = let at : full.depth ≡ Declaration = sym (ap (λ (o : Options). o.depth) options) ∙ e in cc

  no_obstacle : (target : Target) → AllowsRenewal facts renewal target → (IsTrue old.honest → IsOutOfTheWay old.bag)
      → IsTrue old.honest → HasNoObstacle old.bag renewal
  no_obstacle target allows way honest = record {
    free = allows.free old.bag (of honest) deep;
    way = way honest;
    names = allows.names old.bag (of honest) deep;
  }

  -- a file was refused, or has another digest
  pub refused_by_check : OpensAll full facts.listing.files old mid → (target : Target)
      → AllowsRenewal facts renewal target → (IsTrue old.honest → IsOutOfTheWay old.bag)
      → (e : Unchecked) (fault : RenewFault)
      → StopsChecking (to_read target.reads_payload facts.listing.files) mid new e
      → IsFaultyFile facts (to_read target.reads_payload facts.listing.files) mid e → IsRefusalOf e fault
      → MayRefuseReading renewal old new fault
  refused_by_check tags target allows way (checked.Stopped stop) fault stops faulty is =
      refused_stop renewal old new stop fault
      (stop_at_file facts old mid new seen of keeps calm tags (λ bag. reads_payload bag renewal) target.reads_payload
      (λ bag is. (allows.decided bag is deep).reads_payload) stop stops)
      is
  refused_by_check tags target allows way (checked.Faulty found) fault stops faulty is =
      subst (MayRefuseReading renewal old new) (sym is)
      (λ honest. (
        subst (λ b. IsFirst (IsLookedFor old.bag b) found) (allows.decided old.bag (of honest) deep).reads_payload
            (first_looked_for facts target.algs old mid new options of keeps allows.none target.reads_payload found faulty
            honest),
        λ seventh. no_obstacle target allows way honest,
      ))

  its_obstacle : (fault : RenewFault)
      → HasNoneBefore facts 7 × IfBagRead facts (λ bag. IsObstacle bag renewal fault)
      → IsTrue old.honest → HasNoEarlyFault old.bag × IsObstacle old.bag renewal fault
  its_obstacle fault h honest =
      (none_early facts old.bag (of honest) options h.0, h.1 old.bag (of honest) deep)

  -- what is known allows no renewal, or a folder
  module _ (now : TreeState) (still : OpensNothing mid now) (tags : OpensAll full facts.listing.files old mid) where
    folder_there : (name : List ℕ) → HasNoneBefore facts 7 × IfOwn facts mid (IsInTheWay mid.bag name)
        → IsTrue old.honest → HasNoEarlyFault old.bag × IsInTheWay old.bag name
    folder_there name h honest = (
      none_early facts old.bag (of honest) options h.0,
      subst (λ (bag : Bag). IsInTheWay bag name) keeps.bag
          (h.1 (keeps.honest ∙ honest) (subst (λ (bag : Bag). IsFactsOf bag facts) (sym keeps.bag) (of honest)) deep),
    )

    look_stopped : (stop : Stop) → IsRefusedLook reserved_names mid now stop → MayStopReadingBag renewal old now stop
    look_stopped stop look =
        let is_one = (and_parts _ _ (reserved_in_base stop.path look.named)).0 in record {
          cause = later_refusal old mid now stop.cause keeps look.cause;
          not_memory = look.not_memory;
          answered = inr (inr (path_some stop.path is_one, look.answered));
          path =
              inr (inl (record {
                named = look.named;
                in_turn = (
                  facts.listing,
                  seen.2.ordered,
                  (λ honest. (of honest).listing),
                  all_still facts.listing.files old mid now tags still.openings,
                );
              }));
        }

    pub refused_by_facts : (fault : RenewFault) → IsNotReady facts renewal mid now fault
        → MayRefuseReading renewal old now fault
    refused_by_facts (why.Faulty f) h = λ honest. let found = h deep old.bag (of honest) in (
      first_early facts old.bag (of honest) options (reads_payload old.bag renewal) f found.0 found.1,
      λ seventh. absurd (omega (arith, seventh, found.0)),
    )
    refused_by_facts why.Memory h = memory_then old mid now calm h
    refused_by_facts why.BadValue h = inr (λ honest. let is = h.1 old.bag (of honest) deep in (
      none_early facts old.bag (of honest) options h.0,
      record { free = is.0; way = own_way old mid keeps is.1 honest; names = is.2 },
      is.3.0,
      is.3.1,
    ))
    refused_by_facts (why.ReadStopped s) h = look_stopped s (h seen.0 seen.2 deep)
    refused_by_facts (why.PutRefused n q) h = absurd (h.1 seen.0 seen.2 deep)
    refused_by_facts (why.RemoveRefused n q) h = absurd (h.1 seen.0 seen.2 deep)
    refused_by_facts (why.InTheWay n) h = folder_there n h
    refused_by_facts why.NoAlgorithm h = its_obstacle why.NoAlgorithm h
    refused_by_facts (why.Unnameable p) h = its_obstacle (why.Unnameable p) h
    refused_by_facts (why.Outdated p) h = its_obstacle (why.Outdated p) h
    refused_by_facts (why.Unlisted p) h = its_obstacle (why.Unlisted p) h
    refused_by_facts why.Fetch h = its_obstacle why.Fetch h

  -- all was read and checked
  module _ (target : Target) (allows : AllowsRenewal facts renewal target)
      (way : IsTrue old.honest → IsOutOfTheWay old.bag) (summed : List SummedFile) (info : List ℕ)
      (h : HasChecked facts target.reads_payload target.algs old new summed info) where
    reads : (bag : Bag) → IsFactsOf bag facts → target.reads_payload ≡ reads_payload bag renewal
    reads bag is = (allows.decided bag is deep).reads_payload

    pub has_read_bag : IsBag old.bag → Keeps old new → NothingFailed old new
        → HasReadBag renewal old new facts summed info
    has_read_bag is_bag kept never = record {
      read = record {
        keeps = kept;
        no_failure = never;
        opened = λ honest. subst (λ b. OpensRead b old new) (reads old.bag (of honest))
            (opens_read facts target.reads_payload target.algs old new summed info h honest);
        can = λ honest. let none = no_obstacle target allows way honest in record {
          is_bag = is_bag;
          damaged = damaged facts target.reads_payload target.algs old new summed info h honest;
          fetch = none.free.fetch;
          nameable = none.names.nameable;
          listed = none.names.listed;
          some_alg = none.free.some_alg;
        };
        valid = λ honest all.
            none_at_all facts target.reads_payload target.algs old new summed info h honest
            (reads old.bag (of honest) ∙ all);
        no_obstacle = no_obstacle target allows way;
      };
      options = options;
      seen = (h.bag, h.is_bag, h.of_it);
      of_bag = of;
      sums = λ honest.
          subst (λ some. AreSummedBy some (files_to_read (reads_payload old.bag renewal) (files_of old.bag)) summed)
          (allows.decided old.bag (of honest) deep).algs
          (subst (λ b. AreSummedBy target.algs (files_to_read b (files_of old.bag)) summed) (reads old.bag (of honest))
          (sums_are facts target.reads_payload target.algs old new summed info h honest));
      files = h.checked.files;
      compared = subst (λ b. AreCompared h.bag b h.checked.files old new) (reads h.bag h.of_it)
          (compared facts target.reads_payload target.algs old new summed info h);
      summed_of = λ bag is.
          subst (λ some. AreSummedBy some h.checked.files summed) (allows.decided bag is deep).algs h.checked.sums;
      info_of = h.checked.info_of;
      lines = λ honest. info_lines facts target.reads_payload target.algs old new summed info h honest;
    }

pub ruleset refusing = (refused_by_obstacle, refused_by_info)
