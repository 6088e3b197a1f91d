-- The files between two bounds whose digests are to be compared, and their faults.
use Rattle.bag_sources.proofs.Common.{◌≡◌, ◌≢◌, ◌<◌, ◌+◌, ◌++◌, ◌∷◌, ◌∙◌, inl, inr, ℕ, Bool, true, false, List, [], length}
use Rattle.bag_sources.proofs.Common.{append-nil, take, get_or, cond, Option, Contains, refl, sym, ap, subst}
use Rattle.bag_sources.proofs.Common.{IsListOf, text_cmp, contains_nothing, same_members, Bag, FileEntry}
use Rattle.bag_sources.proofs.Common.{fault_cmp, Fault, IsFactsOf, paths_of, Facts, Full, take_one_more, filter-append}
use Rattle.bag_sources.proofs.Common.{IsSummed, IsOfValidity, validity_of_stage_seven, AreToSum, IsAbove}
use Rattle.bag_sources.proofs.Common.{IsNamedAhead, HasItsFaults, faults_of_files, paths_to_sum, is_passed, AreFilesOf}
use Rattle.bag_sources.proofs.Common.{IsOfBag, ToSum, kept, mapped_contains}
use Rattle.std.specs.List.Sorted.{IsStrictlySortedBy}
use Rattle.bag_facts.proofs.ListedFiles.{file_listed, listed_file, own_size}
use Rattle.bag_facts.proofs.Mapped.{contains_mapped, passed}
use Rattle.bag_stages.proofs.SummedFiles.{faulty_is_summed}
use Rattle.bag_sources.proofs.Chosen.{Among, added, ahead_of, behind_all, full_or_not, listed_faults, passed_over}
use Rattle.bag_sources.proofs.Within.{within_by_file}
use Rattle.bag_sources.specs.Parts.{files_within, is_file_within}
use Rattle.bag_sources.specs.StartPart.{AreSummedWithin, IsWithin}
use Rattle.bag_sources.specs.declared.part.Bounds.{Bounds}

module _ (bounds : Bounds) where
  abbrev has : FileEntry → Bool
  has entry = is_file_within bounds entry.path

  -- the paths of the files between the bounds
  within_listed : (files : List FileEntry) (path : List ℕ) → Contains (paths_of (files_within bounds files)) path
      → Contains (paths_of files) path × (is_file_within bounds path ≡ true)
  within_listed files path c =
      let one = contains_mapped (λ (entry : FileEntry). entry.path) (files_within bounds files) path c in
      let both = kept has files one.0 one.1 in (
        subst (Contains (paths_of files)) one.2
            (mapped_contains (λ (entry : FileEntry). entry.path) files one.0 both.1),
        subst (λ p. is_file_within bounds p ≡ true) one.2 both.0,
      )

  listed_within : (files : List FileEntry) (path : List ℕ) → Contains (paths_of files) path
      → is_file_within bounds path ≡ true → Contains (paths_of (files_within bounds files)) path
  listed_within files path c is =
      let one = contains_mapped (λ (entry : FileEntry). entry.path) files path c in
      subst (Contains (paths_of (files_within bounds files))) one.2
      (mapped_contains (λ (entry : FileEntry). entry.path) (files_within bounds files) one.0
      (passed has files one.0 (subst (λ p. is_file_within bounds p ≡ true) (sym one.2) is) one.1))

  -- the first files of a list, and one more
  module _ (files : List FileEntry) (i : ℕ) (file : FileEntry) (lt : i < length files)
      (at : file ≡ get_or files i file) where
    only : (b : Bool) → has file ≡ b → files_within bounds (file ∷ []) ≡ cond b (file ∷ []) []
    only b is = rw is refl

    more_files : (b : Bool) → has file ≡ b
        → files_within bounds (take (i + 1) files) ≡ files_within bounds (take i files) ++ cond b (file ∷ []) []
    more_files b is =
        ap (files_within bounds) (take_one_more files i file lt at) ∙ filter-append has (take i files) (file ∷ [])
        ∙ ap (λ l. files_within bounds (take i files) ++ l) (only b is)

    module _ (bag : Bag) (after : Option Fault) (chosen : List ToSum)
        (so_far : AreToSum bag after (files_within bounds (take i files)) chosen) where
      pub one_left : has file ≡ false → AreToSum bag after (files_within bounds (take (i + 1) files)) chosen
      one_left is =
          subst (λ l. AreToSum bag after l chosen)
          (sym (append-nil (files_within bounds (take i files))) ∙ sym (more_files false is)) so_far

      pub one_passed_over : has file ≡ true → ¬ (IsNamedAhead bag after file.path)
          → AreToSum bag after (files_within bounds (take (i + 1) files)) chosen
      one_passed_over is lacks =
          subst (λ l. AreToSum bag after l chosen) (sym (more_files true is))
          (passed_over bag after (files_within bounds (take i files)) file chosen so_far lacks)

      pub one_added : has file ≡ true → IsStrictlySortedBy text_cmp (paths_of files) → (to_sum : ToSum)
          → to_sum.file ≡ file → IsNamedAhead bag after file.path → HasItsFaults bag to_sum
          → AreToSum bag after (files_within bounds (take (i + 1) files)) (chosen ++ to_sum ∷ [])
      one_added is ordered to_sum same ahead tells =
          subst (λ l. AreToSum bag after l (chosen ++ to_sum ∷ [])) (sym (more_files true is))
          (added bag after (files_within bounds (take i files)) file chosen so_far to_sum same ahead tells
          (λ path c. behind_all files i file lt at ordered path (within_listed (take i files) path c).0))

  -- of the files of a bag
  module _ (bag : Bag) (after : Option Fault) (facts : Facts) (of : IsFactsOf bag facts) (chosen : List ToSum)
      (are : AreToSum bag after (files_within bounds facts.listing.files) chosen) where
    abbrev files : List FileEntry
    files = facts.listing.files

    pub chosen_todo : AreSummedWithin bag after bounds (paths_to_sum chosen)
    chosen_todo =
        same_members text_cmp
        (λ path. Contains (paths_of (files_within bounds files)) path × IsNamedAhead bag after path)
        (λ path. (IsSummed bag path × (is_passed after path ≡ false)) × (is_file_within bounds path ≡ true))
        (paths_to_sum chosen)
        (λ path h. let c = within_listed files path h.0 in
        (((listed_file bag files path of.listing.files c.0, h.1.0), h.1.1), c.1))
        (λ path h. (
          listed_within files path (file_listed bag files path of.listing.files h.0.0.0) h.1,
          (h.0.0.1, h.0.1),
        )) are.paths

    pub chosen_faults : IsListOf fault_cmp (IsAbove after (IsWithin bounds (IsOfValidity bag)))
        (faults_of_files bag after chosen)
    chosen_faults =
        same_members fault_cmp (Among bag after (paths_to_sum chosen))
        (IsAbove after (IsWithin bounds (IsOfValidity bag))) (faults_of_files bag after chosen)
        (λ f h. (
          (
            h.1.0,
            within_by_file bounds f (validity_of_stage_seven bag f h.1.0)
                ∙ ((chosen_todo.members f.path).0 h.0).1,
          ),
          h.1.1,
        ))
        (λ f h. (
          (chosen_todo.members f.path).1 (
            (faulty_is_summed bag f h.0.0, ahead_of bag after f h.0.0 h.1),
            sym (within_by_file bounds f (validity_of_stage_seven bag f h.0.0)) ∙ h.0.1,
          ),
          (h.0.0, h.1),
        ))
        (listed_faults bag after chosen are.paths.ascending are.faults)

    pub chosen_of : AreFilesOf bag chosen
    chosen_of = record {
      in_order = are.paths.ascending;
      entries = λ to_sum c.
          sym (of.listing.files to_sum.file.path)
          ∙ own_size files to_sum.file of.ordered.ascending (kept has files to_sum.file (are.listed to_sum c)).1;
    }

pub none_of : (bag : Bag) (after : Option Fault) → IsOfBag bag after [] []
unfolding IsStrictlySortedBy
none_of bag after =
    record { files = record { in_order = tt; entries = λ to_sum c. absurd (contains_nothing to_sum c) }; ascends = tt }

-- of a bag, whatever the depth
module _ (bounds : Bounds) (bag : Bag) (after : Option Fault) (facts : Facts) (of : IsFactsOf bag facts)
    (chosen : List ToSum)
    (at_full : facts.options.depth ≡ Full → AreToSum bag after (files_within bounds facts.listing.files) chosen)
    (at_other : facts.options.depth ≢ Full → chosen ≡ []) where
  pub chosen_is_of : IsOfBag bag after chosen []
  chosen_is_of = elim (full_or_not facts.options.depth) [
    | inl full ↦ (let are = at_full full in
        record {
          files = chosen_of bounds bag after facts of chosen are;
          ascends = (chosen_faults bounds bag after facts of chosen are).ascending;
        })
    | inr other ↦ rw (at_other other) (none_of bag after)
  ]
