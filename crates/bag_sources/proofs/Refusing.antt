-- Filling stopped at a file that was refused, or when out of memory.
use Rattle.bag_sources.proofs.Common.{arith, ◌≡◌, ◌≢◌, ◌∷◌, inl, ℕ, List, IsTrue, MayReportMemory, TreeState, IsEntryOf}
use Rattle.bag_sources.proofs.Common.{MayRefuseWhole, FileEntry, Stop, TreeFault, Changed, IsOutOfMemory, IsRefusalOf}
use Rattle.bag_sources.proofs.Common.{came_from, has_entry, refused_file, told_memory, MayStopAnyway, MayStopFilling}
use Rattle.bag_tree.specs.declared.answer.Answer.TheVariants.{Refused}

module _ {todo : List (List ℕ)} {old new : TreeState} (stop : Stop) (m : IsOutOfMemory stop)
    (tells : MayReportMemory old new) where
  pub filling_of_memory : MayStopFilling todo old new stop
  filling_of_memory =
      record { cause = rw m.0 tt; answered = rw m.0 tt; path = inl m; memory = λ _. m.1; out_of_memory = λ _. tells }

  pub anyway_of_memory : MayStopAnyway todo old new stop
  anyway_of_memory =
      record { cause = rw m.0 tt; answered = rw m.0 tt; path = inl m; memory = λ _. m.1; out_of_memory = λ _. tells }

module _ (entry : FileEntry) (rest : List (List ℕ)) {old new : TreeState} (cause : TreeFault) (stop : Stop)
    (refused : MayRefuseWhole old new entry cause) (answered : cause ≢ Changed → new.last ≡ Refused cause) where
  pub filling_of_refusal : IsRefusalOf cause entry.path stop → (IsTrue old.honest → IsEntryOf old.bag entry)
      → MayStopFilling (entry.path ∷ rest) old new stop
  filling_of_refusal said is = grind (arith, refused_file, came_from, has_entry, filling_of_memory, told_memory)

  pub anyway_of_refusal : IsRefusalOf cause entry.path stop → MayStopAnyway (entry.path ∷ rest) old new stop
  anyway_of_refusal said = grind (arith, came_from, anyway_of_memory, told_memory)
