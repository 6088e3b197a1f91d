-- What the whole program does, and which folders it looks into meanwhile.
use Rattle.std.specs.Prelude.{ℕ, ◌≡◌, true, List, Result, Ok, Err}
use Rattle.bag_tree.specs.Out.{OutState}
use Rattle.bag_program.specs.Visits.{Event}
use Rattle.bag_arguments.specs.Plan.{IsNotRefused, IsPlanned, usage_status}
use Rattle.bag_arguments.specs.Words.{clap_takes}
use Rattle.bag_arguments.specs.declared.plan.Plan.{Plan}
use Rattle.bag_arguments.specs.declared.usage.Usage.{Usage}
use Rattle.bag_program.specs.Deeds.{Archived, Below, IsNothing, ReadableFiles, Reported}
use Rattle.bag_program.specs.InTurn.{Deed}
use Rattle.bag_cli.specs.Performed.{IsPerformed}

-- a plan was performed; where the words are refused, nothing is written
abbrev pub IsPlanPerformed : Below → Archived → Reported → ReadableFiles → Result Plan Usage → Deed
IsPlanPerformed below archived reported file (Err usage) before after visits n =
    IsNothing (usage_status usage) before after visits n
IsPlanPerformed below archived reported file (Ok plan) before after visits n =
    IsPerformed below archived reported file plan before after visits n

-- What the words ask for was done, on disks that hold this below each base folder, where tar files
-- and reports are these and files have these bytes: a plan of them was performed, or they were
-- refused for a reason that they have. Words that clap takes are none that the program doesn't
-- take.
pub record IsProgram (below : Below) (archived : Archived) (reported : Reported)
    (file : ReadableFiles) (words : List (List ℕ)) (before after : OutState) (visits : List Event)
    (n : ℕ) : Type 0 where
  pub planned : Result Plan Usage
  pub is_planned : IsPlanned words planned
  pub taken : clap_takes words ≡ true → IsNotRefused planned
  pub done : IsPlanPerformed below archived reported file planned before after visits n
