-- The stop of a file that was refused, and when out of memory.
use Rattle.bag_facts.proofs.Common.{arith, ◌≡◌, ◌≢◌, ◌∙◌, inl, inr, ℕ, List, [], length, None, Some, true, false}
use Rattle.bag_facts.proofs.Common.{IsTrue, sym, ap, subst, and_parts, option_map, is_path, in_base, HasFile}
use Rattle.bag_facts.proofs.Common.{MayReportMemory, NothingFailed, TreeState, CameFromFile, IsEntryOf, MayRefuseWhole}
use Rattle.bag_facts.proofs.Common.{Refused, FileEntry, Stop, TreeFault, NotFound, Changed, NoneOpen, Memory}
use Rattle.bag_facts.proofs.Common.{memory_refused, IsOutOfMemory, IsRefusalOf, MayRefuseFacts, MayStopReading}
use Rattle.bag_facts.proofs.Common.{StopsReading, IsWanted, Options}

-- what may refuse a listed file of an honest tree
pub refused_file : (old new : TreeState) (entry : FileEntry) (cause : TreeFault)
    → (IsTrue old.honest → IsEntryOf old.bag entry) → MayRefuseWhole old new entry cause
    → MayRefuseFacts old new cause
refused_file old new entry Changed is (size, other) = λ honest. (other honest).1 (is honest)
refused_file old new entry NotFound is (absent, came) = λ honest.
    let clash : None ≡ Some entry.size = sym (ap (option_map length) (absent honest)) ∙ is honest in cc
refused_file old new entry NoneOpen is (closed, came) = absurd closed
refused_file old new entry Memory is h = tt
refused_file old new entry other is h = h.0

pub came_from : (old new : TreeState) (entry : FileEntry) (cause : TreeFault) → MayRefuseWhole old new entry cause
    → CameFromFile new cause
came_from old new entry Changed (size, other) = (entry.size, size)
came_from old new entry Memory h = tt
came_from old new entry other h = h.1

-- out of memory was the tree's own
pub told_memory : (old new : TreeState) (cause : TreeFault) → (cause ≢ Changed → new.last ≡ Refused cause)
    → cause ≡ Memory → MayReportMemory old new
told_memory old new cause answered is =
    memory_refused old new cause (answered (λ changed. let clash : Memory ≡ Changed = sym is ∙ changed in cc)) is

pub path_some : (path : List ℕ) → is_path path ≡ true → path ≢ []
path_some path is none = let clash : false ≡ true = sym (ap is_path none) ∙ is in cc

-- the path of a tag file isn't empty
pub wanted_some : (options : Options) (path : List ℕ) → IsWanted options path → path ≢ []
wanted_some options path (name, at, wants) =
    path_some path (subst (λ p. is_path p ≡ true) at (and_parts _ _ (in_base name)).0)

pub has_entry : (old : TreeState) (entry : FileEntry) → (IsTrue old.honest → IsEntryOf old.bag entry)
    → IsTrue old.honest → HasFile old.bag entry.path
has_entry old entry is honest = grind arith

-- out of memory stops reading files
pub stop_of_memory : (options : Options) (old new : TreeState) (stop : Stop) → IsOutOfMemory stop
    → NothingFailed old new → StopsReading options old new stop
stop_of_memory options old new stop m no_failure =
    record {
      cause = rw m.0 tt;
      answered = rw m.0 tt;
      path = inl m;
      memory = λ _. m.1;
      out_of_memory = λ _. inr no_failure;
    }

-- and reading the facts
pub facts_stop_of_memory : (options : Options) (old new : TreeState) (stop : Stop) → IsOutOfMemory stop
    → NothingFailed old new → MayStopReading options old new stop
facts_stop_of_memory options old new stop m no_failure =
    record {
      cause = rw m.0 tt;
      answered = inl m;
      path = inl m;
      memory = λ _. m.1;
      out_of_memory = λ _. inr no_failure;
    }

-- the refusal of a wanted file stops reading files
pub stop_of_refusal : (options : Options) (entry : FileEntry) (old new : TreeState) (cause : TreeFault) (stop : Stop)
    → IsWanted options entry.path
    → MayRefuseWhole old new entry cause → (cause ≡ Memory → MayReportMemory old new)
    → IsRefusalOf cause entry.path stop → (IsTrue old.honest → IsEntryOf old.bag entry)
    → StopsReading options old new stop
stop_of_refusal options entry old new cause stop w refused out_of_memory (inl (not, same, at)) is =
    grind (arith, refused_file, came_from, has_entry)
stop_of_refusal options entry old new cause stop w refused out_of_memory (inr (memory, m)) is = grind arith
