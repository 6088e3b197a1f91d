-- Why a bag is not read and checked to its end.
use Rattle.bag_checked.proofs.Common.{◌≡◌, ◌≢◌, ◌∙◌, ◌⊎◌, ◌++◌, ◌∷◌, inl, inr, ℕ, List, [], Bool, true, IsTrue, refl}
use Rattle.bag_checked.proofs.Common.{sym, subst, mapped_contains}
use Rattle.bag_checked.proofs.Common.{Contains, All, All-contains, and_parts, is_path, in_base, Bag, IsBag, HasFile}
use Rattle.std.proofs.lemmas.List.Elements.{All-from_recursion}
use Rattle.bag_text.proofs.ListOf.{each_from_members}
use Rattle.bag_facts.proofs.ListedFiles.{own_size}
use Rattle.bag_facts.proofs.Mapped.{contains_mapped, kept}
use Rattle.bag_facts.proofs.Reading.{later_refusal}
use Rattle.bag_facts.proofs.Refusing.{has_entry, path_some, wanted_some}
use Rattle.bag_facts.proofs.StoppingAmong.{is_among, refused_back, refused_front}
use Rattle.bag_facts.specs.FactsOfBag.{IsFactsOf}
use Rattle.bag_tree.specs.Stop.{IsOutOfMemory}
use Rattle.bag_facts.specs.Stops.{IsOfListing}
use Rattle.bag_facts.specs.StopsAmong.{IsRefusedAmong, StopsAmong}
use Rattle.bag_facts.specs.TagReader.{MayStopReading, OpensAll}
use Rattle.bag_facts.specs.Wanted.{ForListing, IsRefusedFile, IsWanted, OpensUpTo, paths_of}
use Rattle.bag_facts.specs.declared.facts.Facts.{Facts}
use Rattle.bag_tree.proofs.Calm.{memory_then, nothing_then}
use Rattle.bag_tree.specs.FileReads.{IsEntryOf}
use Rattle.bag_tree.specs.Tree.{Keeps, NothingFailed, TreeState}
use Rattle.bag_tree.specs.declared.listing.FileEntry.{FileEntry}
use Rattle.bag_tree.specs.declared.tree_fault.Stop.{Stop}
use Rattle.bag_checked.proofs.CheckedBag.{files_refuse, has_checked, stages_refuse}
use Rattle.bag_checked.specs.FirstFaults.{IsFoundFirst}
use Rattle.bag_checked.specs.Stops.{AreOpened, IsOfFile, MayStop, MayStopUnchecked, StopsChecking}
use Rattle.bag_checked.specs.Summed.{IsNoMemory, is_to_read, to_read}
use Rattle.bag_report.specs.Valid.{full}
use Rattle.bag_checked.specs.declared.checked.Unchecked.{Unchecked}
use Rattle.bag_checked.specs.declared.checked.Unchecked.TheVariants as checked

-- ---- a stop

module _ (with_payload : Bag → Bool) (old new : TreeState) (stop : Stop) where
  of_tag_file : IsWanted full stop.path → (IsTrue old.honest → HasFile old.bag stop.path)
      → ForListing old (λ files. OpensUpTo full files stop.path old new) → IsOfFile with_payload old new stop
  of_tag_file (name, at, wants) has (listing, ordered, own, (before, after, are, refused)) =
      let read = paths_of (to_read (with_payload old.bag) listing.files) in record {
        named = subst (λ p. is_path p ≡ true) at (and_parts _ _ (in_base name)).0;
        there = has;
        reads = with_payload old.bag;
        reads_is = λ honest. refl;
        in_turn = (
          listing,
          ordered,
          own,
          (
            (before ++ stop.path ∷ after) ++ read,
            (before ++ stop.path ∷ after, are, refl),
            refused_front old new stop.path (before ++ stop.path ∷ after) read (before, after, refl, refused),
          ),
        );
      }

  module _ (up_to : stop.path ≢ [] → ForListing old (λ files. OpensUpTo full files stop.path old new)) where
    of_wanted : IsOutOfMemory stop ⊎ IsOfListing old new stop ⊎ IsRefusedFile full old stop
        → IsOutOfMemory stop ⊎ IsOfListing old new stop ⊎ IsOfFile with_payload old new stop
    of_wanted (inl memory) = inl memory
    of_wanted (inr (inl listing)) = inr (inl listing)
    of_wanted (inr (inr (wanted, has))) =
        inr (inr (of_tag_file wanted has (up_to (wanted_some full stop.path wanted))))

    -- the listing or a tag file was refused
    pub stop_of_facts : MayStopReading full old new stop → MayStop with_payload old new stop
    stop_of_facts h = record {
      cause = h.cause;
      answered = h.answered;
      path = of_wanted h.path;
      out_of_memory = h.out_of_memory;
    }

-- memory ran out
pub stop_for_memory : (with_payload : Bag → Bool) (old new : TreeState) (stop : Stop) → IsOutOfMemory stop
    → NothingFailed old new → MayStop with_payload old new stop
stop_for_memory with_payload old new stop memory calm =
    record {
      cause = rw memory.0 tt;
      answered = inl memory;
      path = inl memory;
      out_of_memory = λ _. inr calm;
    }

pub unchecked_for_memory : (old new : TreeState) (e : Unchecked) → IsNoMemory e → NothingFailed old new
    → MayStopUnchecked old new e
unchecked_for_memory old new (checked.Stopped stop) memory calm =
    stop_for_memory (λ bag. true) old new stop memory calm
unchecked_for_memory old new (checked.Faulty fault) memory calm = absurd memory

-- ---- after the facts were read

module _ (facts : Facts) (old mid new : TreeState) (seen : (bag : Bag) × IsBag bag × IsFactsOf bag facts)
    (of : IsTrue old.honest → IsFactsOf old.bag facts) (keeps : Keeps old mid) (calm : NothingFailed old mid) where
  was_honest : IsTrue mid.honest → IsTrue old.honest
  was_honest honest = sym keeps.honest ∙ honest

  is_entry : IsTrue old.honest → (entry : FileEntry) → Contains facts.listing.files entry → IsEntryOf old.bag entry
  is_entry honest entry c =
      sym ((of honest).listing.files entry.path)
      ∙ own_size facts.listing.files entry (of honest).ordered.ascending c

  its_file : (path : List ℕ) → Contains (paths_of facts.listing.files) path
      → (is_path path ≡ true) × (IsTrue old.honest → HasFile old.bag path)
  its_file path has =
      let m = contains_mapped (λ (e : FileEntry). e.path) facts.listing.files path has in (
        subst (λ p. is_path p ≡ true) m.2
            (All-contains (λ (e : FileEntry). IsTrue (is_path e.path)) facts.listing.files m.0 seen.2.ordered.paths
            m.1),
        λ honest. subst (HasFile old.bag) m.2
            (has_entry old m.0 (λ h. is_entry h m.0 m.1) honest),
      )

  module _ (tags : OpensAll full facts.listing.files old mid) (with_payload : Bag → Bool) (b : Bool)
      (reads : (bag : Bag) → IsFactsOf bag facts → b ≡ with_payload bag) where
    abbrev files_read : List FileEntry
    files_read = to_read b facts.listing.files

    among : (entry : FileEntry) → Contains files_read entry → Contains facts.listing.files entry
    among entry c = (kept (λ (e : FileEntry). is_to_read b e.path) facts.listing.files entry c).1

    entries : IsTrue mid.honest → All (IsEntryOf mid.bag) files_read
    entries honest =
        All-from_recursion (IsEntryOf mid.bag) files_read
        (each_from_members (IsEntryOf mid.bag) files_read (λ entry c.
        subst (λ bag. IsEntryOf bag entry) (sym keeps.bag) (is_entry (was_honest honest) entry (among entry c))))

    listed_path : (path : List ℕ) → IsRefusedAmong (paths_of files_read) mid new path
        → Contains (paths_of facts.listing.files) path
    listed_path path at =
        let m =
        contains_mapped (λ (e : FileEntry). e.path) files_read path
        (is_among mid new path (paths_of files_read) at) in
        subst (Contains (paths_of facts.listing.files)) m.2
        (mapped_contains (λ (e : FileEntry). e.path) facts.listing.files m.0 (among m.0 m.1))

    in_turn : (path : List ℕ) → IsRefusedAmong (paths_of files_read) mid new path
        → ForListing old (λ files. (paths : List (List ℕ)) × AreOpened b files paths
        × IsRefusedAmong paths old new path)
    in_turn path at = (
      facts.listing,
      seen.2.ordered,
      (λ honest. (of honest).listing),
      (
        tags.0 ++ paths_of files_read,
        (tags.0, tags.1, refl),
        refused_back old new path mid tags.0 (paths_of files_read) tags.2 at,
      ),
    )

    at_file : (stop : Stop) → StopsAmong files_read mid new stop
        → IsOutOfMemory stop ⊎ IsRefusedAmong (paths_of files_read) mid new stop.path
        → MayStop with_payload old new stop
    at_file stop h (inl memory) =
        record {
          cause = rw memory.0 tt;
          answered = inl memory;
          path = inl memory;
          out_of_memory = λ m. memory_then old mid new calm (h.out_of_memory m);
        }
    at_file stop h (inr at) = let its = its_file stop.path (listed_path stop.path at) in record {
      cause = later_refusal old mid new stop.cause keeps (h.cause entries);
      answered = inr (inr (path_some stop.path its.0, h.answered));
      path =
          inr (inr (record {
            named = its.0;
            there = its.1;
            reads = b;
            reads_is = λ honest. reads old.bag (of honest);
            in_turn = in_turn stop.path at;
          }));
      out_of_memory = λ m. memory_then old mid new calm (h.out_of_memory m);
    }

    -- a file was refused
    pub stop_at_file : (stop : Stop) → StopsAmong files_read mid new stop → MayStop with_payload old new stop
    stop_at_file stop h = at_file stop h h.path

  pub stop_of_check : OpensAll full facts.listing.files old mid → (e : Unchecked)
      → StopsChecking (to_read true facts.listing.files) mid new e → MayStopUnchecked old new e
  stop_of_check tags (checked.Stopped stop) h = stop_at_file tags (λ bag. true) true (λ bag is. refl) stop h
  stop_of_check tags (checked.Faulty fault) h = tt

-- a stage has a fault, or memory ran out
pub stop_of_stages : (facts : Facts) (old mid : TreeState) (e : Unchecked) → IsFoundFirst facts e
    → NothingFailed old mid → MayStopUnchecked old mid e
stop_of_stages facts old mid (checked.Stopped stop) h calm = stop_for_memory (λ bag. true) old mid stop h calm
stop_of_stages facts old mid (checked.Faulty fault) h calm = tt

-- for the checking of a whole bag, and of what is known of it
pub ruleset checking = (nothing_then, stop_of_stages, stages_refuse, files_refuse, has_checked)
