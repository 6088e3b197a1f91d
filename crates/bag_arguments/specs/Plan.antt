-- The plan of the words.
use Rattle.std.specs.Prelude.{ℕ, ◌≡◌, ◌≢◌, ◌⊎◌, ⊤, false, List, [], ◌∷◌, codes, if◌then◌else◌}
use Rattle.std.specs.Prelude.{Option, Some, None, Result, Ok, Err, option_map, is_some}
use Rattle.clap.specs.Words.{Kinds, Row, Text}
use Rattle.clap.specs.declared.error.kind.ErrorKind.TheVariants.{DisplayHelp}
use Rattle.bag_faults.specs.LineOf.{IsLineOf}
use Rattle.bag_faults.specs.declared.fault.Fault.{Fault}
use Rattle.bag_faults.specs.declared.options.Depth.{Depth}
use Rattle.bag_faults.specs.declared.options.Depth.TheVariants.{Declaration, Full}
use Rattle.bag_arguments.specs.Given.{action, depth, IsLimit}
use Rattle.bag_words.specs.Rows.{directories, is_given, value}
use Rattle.bag_arguments.specs.Given.{named_algs, or_default, info}
use Rattle.bag_arguments.specs.Given.{out_of_place, has_two_depths, has_after_several}
use Rattle.bag_arguments.specs.Given.{has_join_with_other}
use Rattle.bag_arguments.specs.Given.{part_given, part_of}
use Rattle.bag_arguments.specs.Words.{refusals, matches_of_words}
use Rattle.bag_arguments.specs.declared.plan.Action.{Action}
use Rattle.bag_arguments.specs.declared.plan.Action.TheVariants.{Sample, Help}
use Rattle.bag_arguments.specs.declared.plan.Plan.{Plan}
use Rattle.bag_arguments.specs.declared.usage.Usage.{Usage}
use Rattle.bag_arguments.specs.declared.usage.Usage.TheVariants.{Refused, Memory}
use Rattle.bag_arguments.specs.declared.usage.Usage.TheVariants.{NeedsValidate, TwoDepths}
use Rattle.bag_arguments.specs.declared.usage.Usage.TheVariants.{JoinWithOther}
use Rattle.bag_arguments.specs.declared.usage.Usage.TheVariants.{AfterSeveral, AfterNotALine}
use Rattle.bag_arguments.specs.declared.usage.Usage.TheVariants.{PartOfDepth, NotAPart}

-- a cursor is given by its line
abbrev pub IsCursor : Option Text → Option Fault → Type 0
IsCursor None after = after ≡ None
IsCursor (Some line) None = ⊥
IsCursor (Some line) (Some fault) = IsLineOf line fault

-- a text is given, and is the line of no fault
abbrev pub IsNoCursor : Option Text → Type 0
IsNoCursor None = ⊥
IsNoCursor (Some line) = (fault : Fault) → ¬ (IsLineOf line fault)

-- the cursor that a text gives, or why there is none
abbrev pub GivesCursor : Option Text → Result (Option Fault) Usage → Type 0
GivesCursor text (Ok after) = IsCursor text after
GivesCursor text (Err usage) =
    (usage ≡ Memory) ⊎ ((usage ≡ AfterNotALine) × IsNoCursor text)

-- the first thing that is wrong with what is given, but for the cursor's text
abbrev pub misuse : List Row → Option Usage
misuse rows =
    if is_some (out_of_place rows) then option_map NeedsValidate (out_of_place rows)
    else (if has_join_with_other rows then Some JoinWithOther
    else (if has_two_depths rows then Some TwoDepths
    else (if has_after_several rows then Some AfterSeveral
    else None)))

-- what is wrong with the part that is given, at this depth
abbrev pub part_misuse_at : Depth → Option Text → Option Usage
part_misuse_at depth None = None
part_misuse_at Full (Some text) = if is_some (part_of text) then None else Some NotAPart
part_misuse_at depth (Some text) = Some PartOfDepth

abbrev pub part_misuse : List Row → Option Usage
part_misuse rows = part_misuse_at (depth rows) (value rows (codes "part"))

-- the part alone is wrong in what is given
pub record IsPartMisused (rows : List Row) (usage : Usage) : Type 0 where
  pub no_other : misuse rows ≡ None
  pub after : Option Fault
  pub cursor : IsCursor (value rows (codes "after")) after
  pub misuse_is : part_misuse rows ≡ Some usage

-- what is asked for
pub record IsPlanOf (rows : List Row) (plan : Plan) : Type 0 where
  pub action_is : plan.action ≡ action rows
  pub directories_are : plan.directories ≡ directories rows
  pub depth_is : plan.options.depth ≡ depth rows
  pub clashes_are : plan.options.clashes ≡ is_given rows (codes "clashes")
  pub profile_is : plan.profile ≡ value rows (codes "profile")
  pub after_is : IsCursor (value rows (codes "after")) plan.after
  pub limit_is : IsLimit (value rows (codes "max-faults")) plan.limit
  pub part_is : plan.part ≡ part_given rows
  pub quiet_is : plan.quiet ≡ is_given rows (codes "quiet")
  pub algs_are : plan.algs ≡ or_default (named_algs rows)
  pub info_is : plan.info ≡ info rows

-- the plan of what is given, or the first thing that is wrong with it
abbrev pub Plans : List Row → Result Plan Usage → Type 0
Plans rows (Ok plan) = (misuse rows ≡ None) × (part_misuse rows ≡ None) × IsPlanOf rows plan
Plans rows (Err Memory) = ⊤
Plans rows (Err (Refused text)) = ⊥
Plans rows (Err AfterNotALine) = (misuse rows ≡ None) × IsNoCursor (value rows (codes "after"))
Plans rows (Err PartOfDepth) = IsPartMisused rows PartOfDepth
Plans rows (Err NotAPart) = IsPartMisused rows NotAPart
Plans rows (Err usage) = misuse rows ≡ Some usage

-- a plan that does nothing with folders
abbrev pub plan_without_words : Action → Plan
plan_without_words action = record {
  action = action;
  directories = [];
  options = record { depth = Declaration; clashes = false };
  profile = None;
  after = None;
  limit = None;
  part = None;
  quiet = false;
  algs = [];
  info = [];
}

-- the answer to what clap makes of the words: where it gives no matches, its help or its refusal
abbrev pub Answers : Kinds → List Row → Result Plan Usage → Type 0
Answers [] rows result = Plans rows result
Answers (kind ∷ more) rows (Ok plan) =
    (kind ≡ DisplayHelp) × (text : Text) × (plan ≡ plan_without_words (Help text))
Answers (kind ∷ more) rows (Err Memory) = ⊤
Answers (kind ∷ more) rows (Err (Refused text)) = kind ≢ DisplayHelp
Answers (kind ∷ more) rows (Err usage) = ⊥

-- no words ask for the sample
abbrev pub IsPlanned : List Text → Result Plan Usage → Type 0
IsPlanned [] result = result ≡ Ok (plan_without_words Sample)
IsPlanned (word ∷ rest) result =
    let words = word ∷ rest in Answers (refusals words) (matches_of_words words) result

-- the words aren't refused as words that the program doesn't take
abbrev pub IsNotRefused : Result Plan Usage → Type 0
IsNotRefused (Err (Refused text)) = ⊥
IsNotRefused result = ⊤

-- the exit status of refused words
abbrev pub usage_status : Usage → ℕ
usage_status (Refused text) = 2
usage_status (NeedsValidate option) = 2
usage_status JoinWithOther = 2
usage_status TwoDepths = 2
usage_status AfterSeveral = 2
usage_status AfterNotALine = 2
usage_status PartOfDepth = 2
usage_status NotAPart = 2
usage_status Memory = 3
