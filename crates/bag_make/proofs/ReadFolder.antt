-- Reading the files of a folder.
use Rattle.bag_make.proofs.Common.{arith, ◌≡◌, inl, inr, ℕ, ◌++◌, List, [], true, false, IsTrue, length, map, take}
use Rattle.bag_make.proofs.Common.{append-nil, All, Some, sym, ap, ◌∙◌, subst, option_map, All-contains}
use Rattle.bag_make.proofs.Common.{All-from_recursion, is_path, Alg, each_from_members}
use Rattle.bag_make.proofs.Common.{Bag, file, files_of, IsListingOf, IsOrdered, NothingFailed, TreeState, IsEntryOf}
use Rattle.bag_make.proofs.Common.{Keeps, MayRefuseListing, refusal_of, Unlisted, FileEntry, Listing, Stop, TreeFault}
use Rattle.bag_make.proofs.Common.{listings_are_of_the_bag, paths_of, contains_mapped, later_refusal, listing_refusal}
use Rattle.bag_make.proofs.Common.{path_some, File, new_payload, is_in_the_way, IsRefusedAmong, MayStopMaking, StopsAmong}
use Rattle.bag_make.proofs.Common.{AreSummed, AreSummedFiles, OpensFirstOf, entry_of_file, MakeFault, SummedFile}
use Rattle.std.proofs.lemmas.Simd.{map-map}
use Rattle.bag_facts.proofs.ListedFiles.{own_size}
use Rattle.bag_facts.proofs.Mapped.{at_place}
use Rattle.bag_facts.proofs.StoppingAmong.{is_among, refused_back}
use Rattle.bag_facts.proofs.Found.{held_at, same_files}
use Rattle.bag_make.specs.Reading.{HasOnlyListed, HasRefusedNothing, OpensFolder}
use Rattle.bag_make.specs.Reads.{IsRefusalOfStop, MayRefuseReading}
use Rattle.bag_make.specs.declared.fault.MakeFault.TheVariants as fault_of

-- where nothing was refused after the listing either
pub nothing_refused : (old mid new : TreeState) → HasOnlyListed old mid → NothingFailed mid new
    → HasRefusedNothing old new
nothing_refused old mid new listed no_failure = grind arith

-- where the listing was refused, nothing is planned
pub listing_refused : (old new : TreeState) (cause : TreeFault) (stop : Stop) (fault : MakeFault) → stop.cause ≡ cause
    → stop.path ≡ [] → new.openings ≡ old.openings → new.rest ≡ old.rest
    → MayRefuseListing old new cause → new.last ≡ Unlisted cause → IsRefusalOfStop stop fault
    → MayRefuseReading old new fault
listing_refused old new cause stop (fault_of.ReadStopped other) same none unopened left h last (is, not) =
    grind (arith, listing_refusal)
listing_refused old new cause stop fault_of.Memory same none unopened left h last is =
    inl (ap refusal_of last ∙ ap Some (sym same ∙ is))
listing_refused old new cause stop _ same none unopened left h last is = absurd is

module _ (listing : Listing) (ordered : IsOrdered listing.files) where
  -- what is listed of a bag are its paths
  pub paths_are : (bag : Bag) → IsListingOf bag listing
      → paths_of listing.files ≡ map (λ (e : File). e.0) (files_of bag)
  paths_are bag of =
      ap paths_of (listings_are_of_the_bag bag listing ordered of)
      ∙ map-map (λ (e : FileEntry). e.path) entry_of_file (files_of bag)

  module _ (old mid : TreeState) (keeps : Keeps old mid) (none : mid.openings ≡ old.openings)
      (of : IsTrue old.honest → IsListingOf old.bag listing) where
    from_old : IsTrue old.honest → (n : ℕ)
        → mid.openings ++ take n (paths_of listing.files)
        ≡ old.openings ++ take n (map (λ (e : File). e.0) (files_of old.bag))
    from_old honest n =
        ap (λ xs. xs ++ take n (paths_of listing.files)) none
        ∙ ap (λ xs. old.openings ++ take n xs) (paths_are old.bag (of honest))

    -- of an honest tree the files that were summed are those of the bag
    pub files_are : (algs : List Alg) (summed : List SummedFile) → AreSummedFiles mid listing.files algs summed
        → IsTrue old.honest
        → AreSummed algs (new_payload (files_of old.bag)) summed
    files_are algs summed s honest =
        subst (λ es. AreSummed algs (new_payload es) summed)
        (same_files old.bag s.files (files_of old.bag)
        (s.listed ∙ listings_are_of_the_bag old.bag listing ordered (of honest))
        (λ e c. ap (λ bag. file bag e.0) (sym keeps.bag)
        ∙ All-contains (λ (x : File). file mid.bag x.0 ≡ Some x.1) s.files e
        (s.honest (keeps.honest ∙ honest)) c)
        (λ e c. held_at old.bag.files e.0 e.1 c))
        s.are

    pub opens_folder : (new : TreeState) → OpensFirstOf (paths_of listing.files) mid new → OpensFolder old new
    opens_folder new h = grind (arith, from_old)

    pub opened_folder : (new : TreeState) → new.openings ≡ mid.openings ++ paths_of listing.files → IsTrue old.honest
        → new.openings ≡ old.openings ++ map (λ (e : File). e.0) (files_of old.bag)
    opened_folder new h honest =
        h ∙ ap (λ xs. xs ++ paths_of listing.files) none ∙ ap (λ xs. old.openings ++ xs) (paths_are old.bag (of honest))

    entries_are : IsTrue mid.honest → All (IsEntryOf mid.bag) listing.files
    entries_are honest =
        All-from_recursion (IsEntryOf mid.bag) listing.files
        (each_from_members (IsEntryOf mid.bag) listing.files (λ entry c.
        ap (λ bag. option_map length (file bag entry.path)) keeps.bag
        ∙ sym ((of (sym keeps.honest ∙ honest)).files entry.path) ∙ own_size listing.files entry ordered.ascending c))

    at_file : (new : TreeState) (path : List ℕ) → IsRefusedAmong (paths_of listing.files) mid new path → IsTrue old.honest
        → IsRefusedAmong (map (λ (e : File). e.0) (files_of old.bag)) old new path
    at_file new path at honest =
        subst (λ paths. IsRefusedAmong paths old new path) (paths_are old.bag (of honest))
        (refused_back old new path mid [] (paths_of listing.files) (none ∙ sym (append-nil old.openings)) at)

    listed_path : (new : TreeState) (path : List ℕ) → IsRefusedAmong (paths_of listing.files) mid new path
        → is_path path ≡ true
    listed_path new path at =
        let entry =
        contains_mapped (λ (e : FileEntry). e.path) listing.files path
        (is_among mid new path (paths_of listing.files) at) in
        subst (λ p. is_path p ≡ true) entry.2
        (All-contains (λ (e : FileEntry). IsTrue (is_path e.path)) listing.files entry.0 ordered.paths entry.1)

    -- where a file is refused, nothing is planned
    pub files_refused : (new : TreeState) → HasOnlyListed old mid → (stop : Stop) (fault : MakeFault)
        → (IsTrue old.honest → is_in_the_way old.bag ≡ false)
        → StopsAmong listing.files mid new stop → IsRefusalOfStop stop fault
        → MayRefuseReading old new fault
    files_refused new listed stop (fault_of.ReadStopped other) free h (same, not) =
        subst (MayStopMaking old new) (sym same) (record {
          cause = later_refusal old mid new stop.cause keeps (h.cause entries_are);
          not_memory = not;
          answered = elim h.path [
            | inl m ↦ absurd (not m.0)
            | inr at ↦ inr (inr (path_some stop.path (listed_path new stop.path at), h.answered))
          ];
          path = elim h.path [
            | inl m ↦ absurd (not m.0)
            | inr at ↦ inr (listed_path new stop.path at, λ honest. (at_file new stop.path at honest, free honest))
          ];
        })
    files_refused new listed stop fault_of.Memory free h is = grind (arith, nothing_refused)
    files_refused new listed stop _ free h is = absurd is
