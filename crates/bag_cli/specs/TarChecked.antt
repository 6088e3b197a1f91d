-- What checks of the bags in tar files write, and the exit status after them.
use Rattle.std.specs.Prelude.{ℕ, ◌≡◌, ◌⊎◌, IsTrue, List, [], ◌∷◌, Option, None, unwrap_or}
use Rattle.std.specs.Prelude.{Result, Ok, Err, MatchResult}
use Rattle.bag_archive.specs.Archive.{ArchiveState, SameArchive}
use Rattle.bag_tar.specs.MemberName.{IsNameAt}
use Rattle.bag_tar.specs.Tar.{IsTarOf}
use Rattle.bag_tar.specs.TarTree.{IsNew}
use Rattle.bag_tar.specs.Walk.{MayStop, StopsAt}
use Rattle.bag_archive.specs.declared.tar_fault.TarFault.{TarFault}
use Rattle.bag_archive.specs.declared.tar_fault.TarFault.TheVariants.{Device, Memory}
use Rattle.bag_archive.specs.declared.tar_fault.TarStop.{TarStop}
use Rattle.bag_tree.specs.Out.{OutState}
use Rattle.bag_tree.specs.Tree.{TreeState}
use Rattle.bag_tree.specs.declared.out.Refused.{Refused}
use Rattle.bag_arguments.specs.declared.plan.Plan.{Plan}
use Rattle.bag_cli.specs.Checked.{IsLastCheck, IsWholeCheck}
use Rattle.bag_program.specs.Deeds.{Archived}
use Rattle.bag_program.specs.FolderDeeds.{IsNotGiven, Reports}
use Rattle.bag_program.specs.InTurn.{AreInTurn, Deed}
use Rattle.bag_cli.specs.TarLine.{no_tree_line}
use Rattle.bag_program.specs.Visits.{Event, Opened, Shut}
use Rattle.bag_cli.specs.declared.profile_file.SummedProfile.{SummedProfile}

-- the tree of an archive: where that is honest, its bag is the one that the bytes hold
pub record IsTreeOf (archive : ArchiveState) (tree : TreeState) : Type 0 where
  pub bag : IsTrue archive.honest → IsTarOf archive.bytes tree.bag
  pub honest : tree.honest ≡ archive.honest
  pub new : IsNew tree
  pub no_failure : tree.failures ≡ archive.failures

-- an archive made no tree: its device failed, or memory ran out, or its bytes hold no bag
pub record MakesNoTree (archive new : ArchiveState) (stop : TarStop) : Type 0 where
  pub same : SameArchive archive new
  pub cause : MayStop stop.cause archive new
  pub at : IsTrue archive.honest → StopsAt archive.bytes stop

-- the line that says so was taken, and the status is 3; or the output refused, and took a proper
-- prefix
abbrev pub TellsNoTree : List ℕ → List ℕ → TarFault
    → OutState → OutState → Result ℕ Refused → Type 0
TellsNoTree name member cause = Reports (no_tree_line name member cause) 3

-- the name of the member at a place of an archive that is read again; or that was refused
abbrev pub IsReadAgain : ArchiveState → ArchiveState → ℕ → Option (List ℕ) → Type 0
IsReadAgain old new at member =
    ((cause : TarFault) × MayStop cause old new × (member ≡ None))
    ⊎ (IsTrue old.honest → IsNameAt old.bytes at member)

-- the member at which an archive stops, none where its device or memory refused
abbrev pub IsMemberAt : TarFault → ArchiveState → ArchiveState → ℕ → Option (List ℕ) → Type 0
IsMemberAt Device old new at member = member ≡ None
IsMemberAt Memory old new at member = member ≡ None
IsMemberAt cause old new at member = IsReadAgain old new at member

-- an archive that made no tree was left, and that was reported
pub record TellsUnopened (archive : ArchiveState) (stop : TarStop) (name : List ℕ)
    (before after : OutState) (visits : List Event) (told : Result ℕ Refused) : Type 0 where
  pub new : ArchiveState
  pub member : Option (List ℕ)
  pub same : SameArchive archive new
  pub is_member : IsMemberAt stop.cause archive new stop.at member
  pub visit : visits ≡ Shut new ∷ []
  pub tells : TellsNoTree name (unwrap_or member []) stop.cause before after told

-- the archive made no tree, and that was reported
pub record IsNoTreeReported (archive : ArchiveState) (name : List ℕ) (before after : OutState)
    (visits : List Event) (told : Result ℕ Refused) : Type 0 where
  pub stop : TarStop
  pub new : ArchiveState
  pub no_tree : MakesNoTree archive new stop
  pub tells : TellsUnopened new stop name before after visits told

-- the tar file was given, and its tree was checked so; or it made none, and that was reported so
abbrev pub IsOpened : ArchiveState → List ℕ → List Event
    → (TreeState → List Event → Type 0) → (List Event → Type 0) → Type 0
IsOpened archive name visits Checks Reports =
    (own : List Event) × (visits ≡ Opened name ∷ own)
    × (((tree : TreeState) × IsTreeOf archive tree × Checks tree own) ⊎ Reports own)

-- a check whose whole report, or the line for no tree, was written, and its status
abbrev pub IsWholeTarCheck : Plan → Option SummedProfile → ArchiveState → List ℕ → Deed
IsWholeTarCheck plan profile archive name before after visits n =
    IsOpened archive name visits
    (λ tree own. IsWholeCheck plan profile tree name before after own n)
    (λ own. IsNoTreeReported archive name before after own (Ok n))

-- a check that is the last: the output refused, or memory ran out for the tar file, which was asked
-- for
abbrev pub IsLastTarCheck : Plan → Option SummedProfile → ArchiveState → List ℕ
    → OutState → OutState → List Event → Type 0
IsLastTarCheck plan profile archive name before after visits =
    IsNotGiven name before after visits
    ⊎ IsOpened archive name visits
    (λ tree own. IsLastCheck plan profile tree name before after own)
    (λ own. (refused : Refused) × IsNoTreeReported archive name before after own (Err refused))

-- the checks of the bags in the tar files of these names, one after the other
abbrev pub AreTarChecksOf : Plan → Option SummedProfile → Archived → List (List ℕ) → Deed
AreTarChecksOf plan profile archived names before after visits n =
    AreInTurn (λ name. IsLastTarCheck plan profile (archived name) name)
    (λ name. IsWholeTarCheck plan profile (archived name) name)
    names before after visits n

-- the tar file's bag was checked, or it makes no tree, and that has a status; or that was the last
-- check
abbrev pub ChecksTar : {E : Type 0} → Plan → Option SummedProfile → ArchiveState → List ℕ
    → OutState → OutState → List Event → Result ℕ E → Type 0
ChecksTar plan profile archive name before after visits answer = MatchResult answer
    (λ n. IsWholeTarCheck plan profile archive name before after visits n)
    (λ _. IsLastTarCheck plan profile archive name before after visits)
