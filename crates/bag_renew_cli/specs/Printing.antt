-- Writing the new manifest of a bag without a fault.
use Rattle.std.specs.Prelude.{ℕ, ◌≡◌, ◌⊎◌, ◌∷◌, List, [], IsTrue, Result, MatchResult}
use Rattle.std.specs.Prelude.{flat_map}
use Rattle.bag_text.specs.declared.alg.Alg.{Alg}
use Rattle.bag_facts.specs.Facts.{rules_in}
use Rattle.bag_stages.specs.Payload.{payload}
use Rattle.bag_tree.specs.Out.{OutState}
use Rattle.bag_tree.specs.Tree.{Keeps, TreeState}
use Rattle.bag_tree.specs.declared.out.Refused.{Refused}
use Rattle.bag_report.specs.Valid.{HasNoFault}
use Rattle.bag_program.specs.FolderDeeds.{Reports}
use Rattle.bag_checked.specs.NewManifests.{AreOfSameBytes, IsRefusedFor}
use Rattle.bag_checked.specs.InTurn.{OpensAllInTurn, OpensBeforeFiles}
use Rattle.bag_tags.specs.Summed.{File, manifest_by}
use Rattle.bag_checked.specs.Stops.{MayStopUnchecked}
use Rattle.bag_checked.specs.declared.checked.Unchecked.{Unchecked}
use Rattle.bag_checked.specs.declared.checked.Unchecked.TheVariants.{Faulty, Stopped}

abbrev pub text_of : File → List ℕ
text_of one = one.1

-- 1 for a fault, and else 3
abbrev pub is_status_of : Unchecked → ℕ → Type 0
is_status_of (Faulty fault) status = status ≡ 1
is_status_of (Stopped stop) status = status ≡ 3

-- The bag has no fault, and the output took its manifest of this algorithm, written by its rules, or
-- refused it.
pub record IsPrinted (alg : Alg) (old new : TreeState) (before after : OutState)
    (reported : Result ℕ Refused) : Type 0 where
  pub made : List File
  pub same_bytes : AreOfSameBytes (alg ∷ []) old new made
  pub valid : IsTrue old.honest → HasNoFault old.bag
  pub text : IsTrue old.honest
      → flat_map text_of made ≡ manifest_by (rules_in old.bag) alg (payload old.bag)
  pub reports : Reports (flat_map text_of made) 0 before after reported

-- The bag was refused, and nothing was written.
pub record IsNotPrinted (old new : TreeState) (before after : OutState)
    (reported : Result ℕ Refused) : Type 0 where
  pub unchecked : Unchecked
  pub stopped : MayStopUnchecked old new unchecked
  pub refused : IsTrue old.honest → IsRefusedFor old.bag unchecked
  pub opens_before : OpensBeforeFiles old new unchecked
  pub unwritten : after ≡ before
  pub reports : MatchResult reported (is_status_of unchecked) (λ _. ⊥)

-- The bag stays as it is, files are opened in turn, each payload file once at most, and its new
-- manifest is written where it has no fault.
pub record IsPrinting (alg : Alg) (old new : TreeState) (before after : OutState)
    (reported : Result ℕ Refused) : Type 0 where
  pub keeps : Keeps old new
  pub opens : OpensAllInTurn old new
  pub printed : IsPrinted alg old new before after reported
      ⊎ IsNotPrinted old new before after reported
