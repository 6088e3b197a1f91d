-- What the program does by a plan, and which folders it looks into and which files it reads
-- meanwhile.
use Rattle.std.specs.Prelude.{ℕ, ◌≡◌, ◌⊎◌, Bool, List, [], ◌∷◌, if◌then◌else◌}
use Rattle.std.specs.Prelude.{Option, Some, None, Result, Ok, Err}
use Rattle.std.specs.Io.KnownBytes.{Appends}
use Rattle.bag_tree.specs.Out.{OutState}
use Rattle.bag_program.specs.Visits.{Event, Read}
use Rattle.bag_store.specs.FileTree.{tree_state}
use Rattle.bag_profile.specs.Profile.{Profile}
use Rattle.bag_cli.specs.ProfileFile.{IsAnswer, IsReadAs}
use Rattle.bag_cli.specs.ProfileRefusal.{refusal_status}
use Rattle.bag_cli.specs.UncheckedKeys.{unchecked_lines}
use Rattle.bag_cli.specs.declared.profile_refusal.ProfileRefusal.{ProfileRefusal}
use Rattle.bag_program.specs.declared.read_fault.ReadFault.{ReadFault}
use Rattle.bag_arguments.specs.declared.plan.Action.{Action}
use Rattle.bag_arguments.specs.declared.plan.Action.TheVariants.{Sample, Help, Check, Make}
use Rattle.bag_arguments.specs.declared.plan.Action.TheVariants.{CheckTars, Join}
use Rattle.bag_arguments.specs.declared.plan.Plan.{Plan}
use Rattle.bag_cli.specs.Checked.{AreChecksOf, IsSampleChecked}
use Rattle.bag_cli.specs.CheckedAs.{in_form}
use Rattle.bag_program.specs.Deeds.{Archived, Below, IsCutOff, IsNothing, IsSaid, ReadableFiles}
use Rattle.bag_program.specs.Deeds.{Reported}
use Rattle.bag_program.specs.InTurn.{Deed}
use Rattle.bag_cli.specs.Joined.{AreJoined}
use Rattle.bag_cli.specs.Makings.{AreMakingsOf}
use Rattle.bag_cli.specs.TarChecked.{AreTarChecksOf}
use Rattle.bag_cli.specs.declared.profile_file.SummedProfile.{SummedProfile}

-- the folders of a plan were checked, on disks that hold this below each base folder
abbrev pub AreChecked : Below → Plan → Option SummedProfile → Deed
AreChecked below plan profile before after visits n =
    AreChecksOf plan profile (λ name. tree_state (below name) 0) plan.directories
    before after visits n

-- the tar files of a plan were checked, where at each path there is this one: their bags are
-- serialized
abbrev pub AreTarsChecked : Archived → Plan → Option SummedProfile → Deed
AreTarsChecked archived plan profile before after visits n =
    AreTarChecksOf plan (in_form CheckTars profile) archived plan.directories before after visits n

-- what is checked by a profile, or without one
abbrev pub Checks : Type 1
Checks = Option SummedProfile → Deed

-- the lines that come before the checks by a profile
abbrev pub lines_before : Bool → Profile → List ℕ
lines_before quiet profile = if quiet then [] else unchecked_lines profile.unchecked

-- its unchecked keys were written, and then the folders were checked by it; or the output refused
-- these lines
abbrev pub AreCheckedBy : Checks → Plan → SummedProfile → Deed
AreCheckedBy checked plan read before after visits n =
    IsCutOff (lines_before plan.quiet read.profile) before after visits n
    ⊎ ((mid : OutState) × Appends before.taken mid.taken (lines_before plan.quiet read.profile)
    × checked (Some read) mid after visits n)

-- the folders were checked by the profile that was read; where none was, nothing is written
abbrev pub IsCheckedFor : Checks → Plan → Result SummedProfile ProfileRefusal → Deed
IsCheckedFor checked plan (Ok read) before after visits n =
    AreCheckedBy checked plan read before after visits n
IsCheckedFor checked plan (Err refusal) before after visits n =
    IsNothing (refusal_status refusal) before after visits n

-- the folders were checked, by the profile of a file where there is a path of one, which was read
-- by one call, before them
abbrev pub IsChecked : Checks → ReadableFiles → Plan → Option (List ℕ) → Deed
IsChecked checked file plan None before after visits n =
    checked None before after visits n
IsChecked checked file plan (Some path) before after visits n =
    (answer : Result (List ℕ) ReadFault) × (read : Result SummedProfile ProfileRefusal)
    × (own : List Event) × (visits ≡ Read path answer ∷ own)
    × IsAnswer (file path) answer × IsReadAs answer read
    × IsCheckedFor checked plan read before after own n

-- the folders of a plan were made bags, on disks that hold this below each base folder
abbrev pub AreMade : Below → Plan → Deed
AreMade below plan before after visits n =
    AreMakingsOf plan (λ name. tree_state (below name) 0) plan.directories before after visits n

-- this was done for a plan, on disks that hold this below each base folder, where tar files and
-- reports are these and files have these bytes
abbrev pub IsDoneBy : Action → Below → Archived → Reported → ReadableFiles → Plan → Deed
IsDoneBy Sample below archived reported file plan before after visits n =
    IsSampleChecked plan before after n × (visits ≡ [])
IsDoneBy (Help text) below archived reported file plan before after visits n =
    IsSaid text before after visits n
IsDoneBy Check below archived reported file plan before after visits n =
    IsChecked (AreChecked below plan) file plan plan.profile before after visits n
IsDoneBy CheckTars below archived reported file plan before after visits n =
    IsChecked (AreTarsChecked archived plan) file plan plan.profile before after visits n
IsDoneBy Join below archived reported file plan before after visits n =
    AreJoined reported plan.directories before after visits n
IsDoneBy Make below archived reported file plan before after visits n =
    AreMade below plan before after visits n

-- what a plan says was done, on disks that hold this below each base folder, where tar files and
-- reports are these and files have these bytes
abbrev pub IsPerformed : Below → Archived → Reported → ReadableFiles → Plan → Deed
IsPerformed below archived reported file plan before after visits n =
    IsDoneBy plan.action below archived reported file plan before after visits n
