-- What checks of the bags in honest tar files report.
use Rattle.std.specs.Prelude.{ℕ, ◌≡◌, ◌⊎◌, IsTrue, List, [], ◌∷◌, Option, None}
use Rattle.std.specs.declared.result.Result.TheVariants.{Err}
use Rattle.std.specs.Io.KnownBytes.{Appends}
use Rattle.bag_tar.specs.Tar.{IsTarOf}
use Rattle.bag_tar.specs.Walk.{contents_of}
use Rattle.bag_archive.specs.declared.tar_fault.TarFault.{TarFault}
use Rattle.bag_archive.specs.declared.tar_fault.TarFault.TheVariants.{Device, Memory}
use Rattle.bag_tree.specs.Bag.{Bag}
use Rattle.bag_tree.specs.Out.{OutState}
use Rattle.bag_arguments.specs.declared.plan.Plan.{Plan}
use Rattle.bag_cli.specs.Checked.{profile_of}
use Rattle.bag_cli.specs.Reported.{GivesReport}
use Rattle.bag_cli.specs.TarChecked.{AreTarChecksOf, IsLastTarCheck}
use Rattle.bag_program.specs.Deeds.{Archived}
use Rattle.bag_cli.specs.TarLine.{no_tree_line}
use Rattle.bag_program.specs.Visits.{Event}
use Rattle.bag_cli.specs.declared.profile_file.SummedProfile.{SummedProfile}

-- the law: over an honest tar file that holds a bag, the check of that one, and not of a part of
-- it, gives the report of the bag, as that of a folder does
abbrev pub HonestTarsAreReported : Type 0
HonestTarsAreReported =
    (plan : Plan) (profile : Option SummedProfile) (archived : Archived) (name : List ℕ) (bag : Bag)
    (before after : OutState) (visits : List Event) (n : ℕ) → IsTrue (archived name).honest
    → IsTarOf (archived name).bytes bag → plan.part ≡ None
    → AreTarChecksOf plan profile archived (name ∷ []) before after visits n
    → GivesReport plan (profile_of profile) bag name before after n

-- this cause was said, or that the device or memory refused
abbrev pub IsSaidFor : TarFault → TarFault → Type 0
IsSaidFor cause said = (said ≡ cause) ⊎ ((said ≡ Device) ⊎ (said ≡ Memory))

-- the line for a tar file was taken that makes no tree for this cause
abbrev pub IsToldFor : TarFault → List ℕ → OutState → OutState → Type 0
IsToldFor cause name before after =
    (said : TarFault) × (member : List ℕ) × IsSaidFor cause said
    × Appends before.taken after.taken (no_tree_line name member said)

-- The law: a tar file whose bytes hold no one bag is never found to be good, nor to have faults.
-- The output took the line for its cause, or else that check was the last.
abbrev pub NoBagIsUnread : Type 0
NoBagIsUnread =
    (plan : Plan) (profile : Option SummedProfile) (archived : Archived) (name : List ℕ)
    (cause : TarFault) (before after : OutState) (visits : List Event) (n : ℕ)
    → IsTrue (archived name).honest → contents_of (archived name).bytes ≡ Err cause
    → AreTarChecksOf plan profile archived (name ∷ []) before after visits n
    → (n ≡ 3) × (IsToldFor cause name before after
    ⊎ IsLastTarCheck plan profile (archived name) name before after visits)
