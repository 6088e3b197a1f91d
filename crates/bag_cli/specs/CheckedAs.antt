-- What is checked of the words of a plan: the bags in folders, or those in tar files.
use Rattle.std.specs.Prelude.{ℕ, List, Option, Some, None, Result}
use Rattle.bag_disk.specs.Disk.{DiskState}
use Rattle.bag_store.specs.FileTree.{tree_state}
use Rattle.bag_tree.specs.Out.{OutState}
use Rattle.bag_profile.specs.declared.form.Form.TheVariants.{Archive}
use Rattle.bag_arguments.specs.declared.plan.Action.{Action}
use Rattle.bag_arguments.specs.declared.plan.Action.TheVariants.{CheckTars}
use Rattle.bag_arguments.specs.declared.plan.Plan.{Plan}
use Rattle.bag_cli.specs.Checked.{IsLastCheck, IsWholeCheck}
use Rattle.bag_program.specs.InTurn.{AreInTurn, Deed, IsTurn, Last, Whole}
use Rattle.bag_cli.specs.TarChecked.{IsLastTarCheck, IsWholeTarCheck}
use Rattle.bag_program.specs.Deeds.{Archived}
use Rattle.bag_program.specs.Visits.{Event}
use Rattle.bag_cli.specs.declared.profile_file.SummedProfile.{SummedProfile}

-- a profile as it is compared with the bags of a plan: those in tar files are serialized
abbrev pub in_form : Action → Option SummedProfile → Option SummedProfile
in_form CheckTars None = None
in_form CheckTars (Some read) =
    Some (record read { profile = record read.profile { form = Archive } })
in_form action profile = profile

-- a whole check of the bag of a name, by what the plan does with it
abbrev pub IsWholeAs : Action → (List ℕ → DiskState) → Archived → Plan
    → Option SummedProfile → Whole
IsWholeAs CheckTars below archived plan profile name =
    IsWholeTarCheck plan profile (archived name) name
IsWholeAs action below archived plan profile name =
    IsWholeCheck plan profile (tree_state (below name) 0) name

-- one that is the last
abbrev pub IsLastAs : Action → (List ℕ → DiskState) → Archived → Plan
    → Option SummedProfile → Last
IsLastAs CheckTars below archived plan profile name =
    IsLastTarCheck plan profile (archived name) name
IsLastAs action below archived plan profile name =
    IsLastCheck plan profile (tree_state (below name) 0) name

-- the bag of a name was checked, and has a status; or that was the last check
abbrev pub ChecksAs : {E : Type 0} → Action → (List ℕ → DiskState) → Archived → Plan
    → Option SummedProfile → List ℕ → OutState → OutState → List Event → Result ℕ E → Type 0
ChecksAs action below archived plan profile =
    IsTurn (IsLastAs action below archived plan profile)
    (IsWholeAs action below archived plan profile)

-- the bags of a plan's names were checked, one after the other
abbrev pub AreCheckedAs : Action → (List ℕ → DiskState) → Archived → Plan
    → Option SummedProfile → Deed
AreCheckedAs action below archived plan profile before after visits n =
    AreInTurn (IsLastAs action below archived plan profile)
    (IsWholeAs action below archived plan profile) plan.directories before after visits n

-- the same, by a profile that was read
abbrev pub AreCheckedInForm : Action → (List ℕ → DiskState) → Archived → Plan
    → Option SummedProfile → Deed
AreCheckedInForm action below archived plan profile =
    AreCheckedAs action below archived plan (in_form action profile)
