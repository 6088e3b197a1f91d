-- Summing files one after another.
use Rattle.bag_make.proofs.Common.{◌≡◌, ◌<◌, ◌≤◌, ◌+◌, ◌++◌, ◌∷◌, inl, inr, ℕ, List, [], length, take, get_or}
use Rattle.bag_make.proofs.Common.{Some, sym, ap, ◌∙◌, subst, arith, append_assoc, append-nil, drop}
use Rattle.bag_make.proofs.Common.{map-append, take_all, take-map, All-nil, All-cons, All-append, under, Alg, file}
use Rattle.bag_make.proofs.Common.{NothingFailed, TreeState, Keeps, OpensAtMost, FileEntry, Stop, paths_of}
use Rattle.bag_make.proofs.Common.{take_one_more, keeps_itself, keeps_on, File, data_folder, new_payload, AreSummed}
use Rattle.bag_make.proofs.Common.{IsSummedEntry, AreSummedFiles, SumsFiles, OpensFirstOf, entry_of_file, StopsAmong, SummedFile}
use Rattle.std.proofs.lemmas.List.{take-append-drop}
use Rattle.bag_tags.proofs.SummedTexts.{summed_more}
use Rattle.bag_tree.proofs.Calm.{nothing_asked, nothing_then}
use Rattle.bag_facts.proofs.StoppingAmong.{stop_later}

abbrev moved : File → File
moved e = (under data_folder e.0, e.1)

-- the first of the listed files were summed
pub record SumsFirst (files : List FileEntry) (count : ℕ) (algs : List Alg) (old new : TreeState)
    (sums : List SummedFile) : Type 0 where
  pub keeps : Keeps old new
  pub so_far : SumsFiles (take count files) algs old new sums

pub sums_none : (files : List FileEntry) (algs : List Alg) (old : TreeState) → SumsFirst files 0 algs old old []
sums_none files algs old = grind (arith, keeps_itself, nothing_asked, append-nil)

module _ (files : List FileEntry) (i : ℕ) (entry : FileEntry) (algs : List Alg) (old mid new : TreeState)
    (summed : List SummedFile)
    (lt : i < length files) (is : entry ≡ get_or files i entry) (before : SumsFirst files i algs old mid summed) where
  next : take (i + 1) files ≡ take i files ++ entry ∷ []
  next = take_one_more files i entry lt is

  added : (one : SummedFile) → IsSummedEntry mid entry algs one
      → AreSummedFiles old (take (i + 1) files) algs (summed ++ one ∷ [])
  added one e =
      let so_far = before.so_far.are in
      let last : File = (entry.path, e.content) in record {
        files = so_far.files ++ last ∷ [];
        listed =
            map-append entry_of_file so_far.files (last ∷ [])
            ∙ (λ j. so_far.listed j ++ record { path = entry.path; size = e.size j } ∷ []) ∙ sym next;
        are = subst (λ xs. AreSummed algs xs (summed ++ one ∷ [])) (sym (map-append moved so_far.files (last ∷ [])))
            (summed_more algs (new_payload so_far.files) summed (moved last) one so_far.are (e.path, e.sums));
        honest = λ h. All-append (λ (x : File). file old.bag x.0 ≡ Some x.1) so_far.files (last ∷ []) (so_far.honest h)
            (All-cons (λ (x : File). file old.bag x.0 ≡ Some x.1) last []
            (ap (λ bag. file bag entry.path) (sym before.keeps.bag) ∙ e.honest (before.keeps.honest ∙ h))
            (All-nil (λ (x : File). file old.bag x.0 ≡ Some x.1)));
      }

  opened_more : new.openings ≡ mid.openings ++ entry.path ∷ []
      → new.openings ≡ old.openings ++ paths_of (take (i + 1) files)
  opened_more once = grind (arith, append_assoc, next, map-append)

  -- one more was summed
  pub sums_one_more : (after : List SummedFile) (one : SummedFile) → after ≡ summed ++ one ∷ [] → Keeps mid new
      → NothingFailed mid new
      → new.openings ≡ mid.openings ++ entry.path ∷ [] → IsSummedEntry mid entry algs one
      → SumsFirst files (i + 1) algs old new after
  sums_one_more after one e k no_failure once s = grind (arith, keeps_on, nothing_then, opened_more, added)

  first_paths : (count : ℕ) → paths_of (take count files) ≡ take count (paths_of files)
  first_paths count = sym (take-map (λ (e : FileEntry). e.path) count files)

  -- it stopped at a file
  pub opens_first : OpensAtMost mid new entry.path → OpensFirstOf (paths_of files) old new
  opens_first (inl none) = grind (arith, first_paths)
  opens_first (inr once) = grind (arith, opened_more, first_paths)

  all_files : files ≡ take i files ++ entry ∷ drop (i + 1) files
  all_files =
      sym (take-append-drop (i + 1) files) ∙ ap (λ xs. xs ++ drop (i + 1) files) next
      ∙ append_assoc (take i files) (entry ∷ []) (drop (i + 1) files)

  pub stops_at : (stop : Stop) → StopsAmong (entry ∷ []) mid new stop → StopsAmong files old new stop
  stops_at =
      stop_later files (take i files) (drop (i + 1) files) entry old mid new all_files before.keeps before.so_far.no_failure
      before.so_far.opened

-- all were gone through
module _ (files : List FileEntry) (count : ℕ) (algs : List Alg) (old new : TreeState) (summed : List SummedFile)
    (le : length files ≤ count) (all : SumsFirst files count algs old new summed) where
  pub sums_all : SumsFiles files algs old new summed
  sums_all = subst (λ xs. SumsFiles xs algs old new summed) (take_all count files le) all.so_far

  pub opens_all_first : OpensFirstOf (paths_of files) old new
  opens_all_first = (
    length (paths_of files),
    sums_all.opened
        ∙ ap (λ xs. old.openings ++ xs) (sym (take_all (length (paths_of files)) (paths_of files) (omega arith))),
  )
