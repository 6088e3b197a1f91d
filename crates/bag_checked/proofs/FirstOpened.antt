-- The first of the listed files that are to be read were opened, and no other.
use Rattle.bag_checked.proofs.Common.{◌≡◌, ◌≢◌, ◌<◌, ◌+◌, ◌++◌, ◌∷◌, ◌∙◌, ◌⊎◌, inl, inr, ℕ, Bool, List, [], length}
use Rattle.bag_checked.proofs.Common.{take, get_or, Alg, All-contains, IsTrue, ap, append-nil}
use Rattle.bag_checked.proofs.Common.{append_assoc, arith, contains_cases, contains_either, contains_first}
use Rattle.bag_checked.proofs.Common.{contains_mapped, contains_nothing, file, map-append, mapped_contains, subst}
use Rattle.bag_checked.proofs.Common.{sym, text_cmp, true, Contains, File, Some}
use Rattle.std.proofs.Math.Seq.{take-append_seam, take-length}
use Rattle.std.proofs.lemmas.List.{take-append-drop}
use Rattle.std.proofs.lemmas.List.Elements.{filter-append}
use Rattle.std.proofs.lemmas.Simd.{map-map}
use Rattle.std.specs.List.Sorted.{IsStrictlySortedBy}
use Rattle.std.specs.Prelude.{drop}
use Rattle.std.specs.declared.cmp.Ordering.TheVariants.{Less}
use Rattle.bag_text.proofs.ListOf.{member_has}
use Rattle.bag_text.specs.Code.{stage}
use Rattle.bag_read.specs.declared.kind.Kind.{Kind}
use Rattle.bag_faults.proofs.Ascending.{not_both}
use Rattle.bag_facts.proofs.Mapped.{passed}
use Rattle.bag_faults.proofs.Ordered.{fault_cmp_total}
use Rattle.bag_facts.proofs.StoppingAmong.{stop_later}
use Rattle.bag_facts.specs.Wanted.{paths_of}
use Rattle.bag_facts.specs.FactsOfBag.{IsFactsOf}
use Rattle.bag_faults.specs.FaultOrder.{fault_cmp}
use Rattle.bag_facts.specs.declared.facts.Facts.{Facts}
use Rattle.bag_faults.specs.declared.fault.Fault.{Fault}
use Rattle.bag_faults.specs.declared.options.Depth.TheVariants.{Declaration}
use Rattle.bag_stages.proofs.InFile.{less_by_path}
use Rattle.bag_stages.proofs.ValidityFaults.{validity_of_stage_seven}
use Rattle.bag_stages.specs.ValidityStage.{IsOfValidity}
use Rattle.bag_stages.specs.Given.{kind_of}
use Rattle.bag_stages.specs.SumFaults.{differing_code, faults_of_bytes}
use Rattle.bag_stages.specs.Expected.{Expected}
use Rattle.bag_tree.specs.FileReads.{OpensAtMost}
use Rattle.bag_tree.specs.Tree.{NothingFailed, TreeState}
use Rattle.bag_tree.specs.declared.listing.FileEntry.{FileEntry}
use Rattle.bag_checked.proofs.Stopping.{stops_for_memory}
use Rattle.bag_checked.proofs.Summing.{ChecksFirst, faulty_file, faulty_for_memory, next, only_path, opened_more}
use Rattle.bag_checked.specs.Checked.{IsUnchecked}
use Rattle.bag_checked.specs.InTurn.{IsOfSeventh, OpensFirstToRead}
use Rattle.bag_checked.specs.OneReading.{AreLeftUnchecked, IsLeftUnchecked}
use Rattle.bag_checked.specs.Stops.{StopsChecking}
use Rattle.bag_checked.specs.FirstFaults.{IsFirst}
use Rattle.bag_checked.specs.Summed.{IsDifferenceIn, IsFaultyFile, IsGivenFor, IsNoMemory, IsRight, is_to_read, to_read}
use Rattle.bag_tree.specs.Listing.{entry_of_file}
use Rattle.bag_checked.specs.declared.checked.Unchecked.{Unchecked}
use Rattle.bag_checked.specs.declared.checked.Unchecked.TheVariants.{Faulty, Stopped}
use Rattle.bag_tags.specs.declared.summed.SummedFile.{SummedFile}

module _ (with_payload : Bool) (files : List FileEntry) (old new : TreeState) where
  abbrev front : ℕ → List (List ℕ)
  front i = paths_of (to_read with_payload (take i files))

  abbrev behind : ℕ → List (List ℕ)
  behind i = paths_of (to_read with_payload (drop i files))

  parted : (i : ℕ) → to_read with_payload files
      ≡ to_read with_payload (take i files) ++ to_read with_payload (drop i files)
  parted i =
      ap (to_read with_payload) (sym (take-append-drop i files))
      ∙ filter-append (λ (e : FileEntry). is_to_read with_payload e.path) (take i files) (drop i files)

  joined : (i : ℕ) → paths_of (to_read with_payload files) ≡ front i ++ behind i
  joined i =
      ap paths_of (parted i)
      ∙ map-append (λ (e : FileEntry). e.path) (to_read with_payload (take i files))
      (to_read with_payload (drop i files))

  pub opens_so_far : (i : ℕ) → new.openings ≡ old.openings ++ front i → OpensFirstToRead with_payload files old new
  opens_so_far i opened = (
    length (front i),
    opened
        ∙ ap (λ xs. old.openings ++ xs)
        (sym (ap (take (length (front i))) (joined i) ∙ take-append_seam (front i) (behind i))),
  )

  pub opens_each : new.openings ≡ old.openings ++ paths_of (to_read with_payload files)
      → OpensFirstToRead with_payload files old new
  opens_each opened = (
    length (paths_of (to_read with_payload files)),
    opened ∙ ap (λ xs. old.openings ++ xs) (sym (take-length (paths_of (to_read with_payload files)))),
  )

  pub opens_none : new.openings ≡ old.openings → OpensFirstToRead with_payload files old new
  opens_none same = (0, same ∙ sym (append-nil old.openings))

-- a list of one ascends, and what stands behind an item of a list that ascends is greater
one_ascends : (path : List ℕ) → IsStrictlySortedBy text_cmp (path ∷ [])
unfolding IsStrictlySortedBy
one_ascends path = (tt, tt)

behind_less : (before : List (List ℕ)) (path : List ℕ) (after : List (List ℕ)) (other : List ℕ)
    → IsStrictlySortedBy text_cmp (before ++ path ∷ after) → Contains after other → text_cmp path other ≡ Less
unfolding IsStrictlySortedBy
behind_less [] path after other up c = member_has (λ p. text_cmp path p ≡ Less) after other up.0 c
behind_less (x ∷ before) path after other up c = behind_less before path after other up.1 c

-- it stopped at a file, which was opened or not
module _ (facts : Facts) (files : List FileEntry) (i : ℕ) (entry : FileEntry) (with_payload : Bool) (algs : List Alg)
    (old mid new : TreeState) (summed : List SummedFile) (info : List ℕ)
    (lt : i < length files) (is : entry ≡ get_or files i entry)
    (before : ChecksFirst facts files i with_payload algs old mid summed info)
    (read : is_to_read with_payload entry.path ≡ true) where
  pub opens_at : OpensAtMost mid new entry.path → OpensFirstToRead with_payload files old new
  opens_at (inl none) = opens_so_far with_payload files old new i (none ∙ before.opened)
  opens_at (inr once) =
      opens_so_far with_payload files old new (i + 1)
      (opened_more facts files i entry with_payload algs old mid new summed info lt is before read once)

  -- where it stands among those that are read
  abbrev before_it : List (List ℕ)
  before_it = paths_of (to_read with_payload (take i files))

  abbrev after_it : List (List ℕ)
  after_it = paths_of (to_read with_payload (drop (i + 1) files))

  its_entry : to_read with_payload files
      ≡ to_read with_payload (take i files) ++ entry ∷ to_read with_payload (drop (i + 1) files)
  its_entry =
      parted with_payload files old new (i + 1)
      ∙ ap (λ xs. xs ++ to_read with_payload (drop (i + 1) files))
      (next facts files i entry with_payload algs old mid new summed info lt is before read)
      ∙ append_assoc (to_read with_payload (take i files)) (entry ∷ []) (to_read with_payload (drop (i + 1) files))

  its_place : paths_of (to_read with_payload files) ≡ before_it ++ entry.path ∷ after_it
  its_place =
      ap paths_of its_entry
      ∙ map-append (λ (e : FileEntry). e.path) (to_read with_payload (take i files))
      (entry ∷ to_read with_payload (drop (i + 1) files))

  its_own : Contains (to_read with_payload files) entry
  its_own = passed (λ (e : FileEntry). is_to_read with_payload e.path) files entry read (i, lt, sym is)

  -- a stop at it is one of the whole
  stops_at : (e : Unchecked) → StopsChecking (entry ∷ []) mid new e
      → StopsChecking (to_read with_payload files) old new e
  stops_at (Faulty fault) h = tt
  stops_at (Stopped stop) h =
      stop_later (to_read with_payload files) (to_read with_payload (take i files))
      (to_read with_payload (drop (i + 1) files)) entry old mid new its_entry before.keeps before.no_failure
      before.opened stop h

  -- the first digest that differs in it is the first of all
  module _ (fault : Fault) (one : IsFaultyFile facts (entry ∷ []) mid (Faulty fault)) (honest : IsTrue old.honest)
      (of : IsFactsOf old.bag facts) (deep : facts.options.depth ≢ Declaration)
      (up : IsStrictlySortedBy text_cmp (paths_of (to_read with_payload files))) where
    here : IsFirst (IsDifferenceIn old.bag (entry ∷ [])) fault
    here =
        subst (λ bag. IsFirst (IsDifferenceIn bag (entry ∷ [])) fault) before.keeps.bag
        (one (before.keeps.honest ∙ honest) (subst (λ bag. IsFactsOf bag facts) (sym before.keeps.bag) of) deep
        (one_ascends entry.path))

    path_is : fault.path ≡ entry.path
    path_is = only_path entry.path fault.path here.member.1

    -- those before it are right
    none_before : (f : Fault) → IsOfValidity old.bag f → Contains before_it f.path → ⊥
    none_before f differs c =
        let checked = before.checked in
        let m =
        contains_mapped (λ (x : File). x.0) checked.files f.path
        (subst (λ (xs : List (List ℕ)). Contains xs f.path)
        (ap paths_of (sym checked.listed) ∙ map-map (λ (e : FileEntry). e.path) entry_of_file checked.files) c) in
        let right = All-contains (IsRight facts) checked.files m.0 checked.right m.1 in
        let there = All-contains (λ (x : File). file old.bag x.0 ≡ Some x.1) checked.files m.0 (checked.honest honest) m.1 in
        contains_nothing f
        (subst (λ (xs : List Fault). Contains xs f) right.right
        (((right.given.faults old.bag of deep m.0.1 there).members f).1 (differs, sym m.2)))

    -- and those after it come later
    less_behind : (f : Fault) → IsOfValidity old.bag f → Contains after_it f.path → fault_cmp fault f ≡ Less
    less_behind f differs c =
        less_by_path fault f
        (validity_of_stage_seven old.bag fault here.member.0 ∙ sym (validity_of_stage_seven old.bag f differs))
        (subst (λ p. text_cmp p f.path ≡ Less) (sym path_is)
        (behind_less before_it entry.path after_it f.path (subst (IsStrictlySortedBy text_cmp) its_place up) c))

    by_place : (f : Fault) → IsOfValidity old.bag f → fault_cmp f fault ≡ Less
        → Contains before_it f.path ⊎ Contains (entry.path ∷ after_it) f.path → ⊥
    by_place f differs less (inl c) = none_before f differs c
    by_place f differs less (inr c) = elim (contains_cases entry.path after_it f.path c) [
      | inl same ↦ here.none_less f (differs, subst (Contains (entry.path ∷ [])) same (contains_first entry.path [])) less
      | inr later ↦ not_both fault_cmp_total f fault less (less_behind f differs later)
    ]

    first_of_files : IsFirst (IsDifferenceIn old.bag (to_read with_payload files)) fault
    first_of_files = record {
      member = (
        here.member.0,
        subst (Contains (paths_of (to_read with_payload files))) (sym path_is)
            (mapped_contains (λ (e : FileEntry). e.path) (to_read with_payload files) entry its_own),
      );
      none_less = λ f is less. by_place f is.0 less
          (contains_either before_it (entry.path ∷ after_it) f.path
          (subst (λ (xs : List (List ℕ)). Contains xs f.path) its_place is.1));
    }

  faulty_at : (e : Unchecked) → IsFaultyFile facts (entry ∷ []) mid e
      → IsFaultyFile facts (to_read with_payload files) old e
  faulty_at (Stopped stop) h = tt
  faulty_at (Faulty fault) h = λ honest of deep up. first_of_files fault h honest of deep up

  pub left_at : (e : Unchecked) → AreLeftUnchecked facts (entry ∷ []) mid new e
      → AreLeftUnchecked facts (to_read with_payload files) old new e
  left_at e h = record {
    faulty = faulty_at e h.faulty;
    seventh = h.seventh;
    stopped = stops_at e h.stopped;
  }

-- ---- a digest that differs is a fault of the seventh stage

differing_stage : (kind : Kind) → stage (differing_code kind) ≡ 7
differing_stage kind = grind arith

seventh_of : (path content : List ℕ) (expected : List Expected) (fault : Fault) (rest : List Fault)
    → faults_of_bytes path content expected ≡ fault ∷ rest → stage fault.code ≡ 7
seventh_of path content [] fault rest e = cc
seventh_of path content (one ∷ expected) fault rest e =
    grind (arith, differing_stage (kind_of path), seventh_of path content expected fault rest)

seventh_of_bytes : (old new : TreeState) (entry : FileEntry) (expected : List Expected) (e : Unchecked)
    → IsUnchecked old new entry expected e → IsOfSeventh e
seventh_of_bytes old new entry expected (Stopped stop) h = tt
seventh_of_bytes old new entry expected (Faulty fault) (content, rest, read, same) =
    seventh_of entry.path content expected fault rest same

seventh_for_memory : (e : Unchecked) → IsNoMemory e → IsOfSeventh e
seventh_for_memory (Stopped stop) h = tt
seventh_for_memory (Faulty fault) h = absurd h

-- ---- a file, or some of them, that weren't checked to their end

-- one file
pub left_of_one : (facts : Facts) (entry : FileEntry) (expected : List Expected) (old new : TreeState) (e : Unchecked)
    → IsGivenFor facts entry.path expected → IsLeftUnchecked entry expected old new e
    → AreLeftUnchecked facts (entry ∷ []) old new e
left_of_one facts entry expected old new e given h = record {
  faulty = faulty_file facts old new entry expected e given h.differs;
  seventh = seventh_of_bytes old new entry expected e h.differs;
  stopped = h.stopped;
}

-- memory ran out
pub left_out_of_memory : (facts : Facts) (files : List FileEntry) (old new : TreeState) (e : Unchecked)
    → IsNoMemory e → NothingFailed old new → AreLeftUnchecked facts files old new e
left_out_of_memory facts files old new e memory calm = record {
  faulty = faulty_for_memory facts old new files e memory;
  seventh = seventh_for_memory e memory;
  stopped = stops_for_memory files old new e memory calm;
}
