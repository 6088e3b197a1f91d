-- The plan of a renewal's words.
use Rattle.std.specs.Prelude.{ℕ, ◌≡◌, ◌≢◌, ◌⊎◌, ⊤, Bool, false, not, List, [], ◌∷◌, codes, if◌then◌else◌}
use Rattle.std.specs.Prelude.{Option, Some, None, Result, Ok, Err, is_some}
use Rattle.std.specs.Option.{option_or}
use Rattle.clap.specs.Words.{Kinds, Row, Text}
use Rattle.clap.specs.declared.error.kind.ErrorKind.TheVariants.{DisplayHelp}
use Rattle.bag_text.specs.declared.alg.Alg.{Alg}
use Rattle.bag_words.specs.Rows.{directories, is_given, values}
use Rattle.bag_renew_cli.specs.Given.{algs_given, are_elements, elements}
use Rattle.bag_renew_cli.specs.Given.{has_others, has_several, is_dry, printed, prints}
use Rattle.bag_renew_cli.specs.Options.{element_name, list_name}
use Rattle.bag_renew_cli.specs.Words.{refusals, matches_of_words}
use Rattle.bag_renew_cli.specs.declared.plan.RenewAction.{RenewAction}
use Rattle.bag_renew_cli.specs.declared.plan.RenewAction.TheVariants.{Help, Bags}
use Rattle.bag_renew_cli.specs.declared.plan.BagAction.{BagAction}
use Rattle.bag_renew_cli.specs.declared.plan.BagAction.TheVariants.{Renew, DryRun, Print}
use Rattle.bag_renewed.specs.Asked.{nothing}
use Rattle.bag_renewed.specs.declared.renewal.Renewal.{Renewal}
use Rattle.bag_renew_cli.specs.declared.plan.RenewPlan.{RenewPlan}
use Rattle.bag_renew_cli.specs.declared.request_option.ElementOption.{ElementOption}
use Rattle.bag_renew_cli.specs.declared.request_option.ElementOption.TheVariants as element
use Rattle.bag_renew_cli.specs.declared.request_option.ListOption.{ListOption}
use Rattle.bag_renew_cli.specs.declared.request_option.ListOption.TheVariants as list
use Rattle.bag_renew_cli.specs.declared.usage.RenewUsage.{RenewUsage}
use Rattle.bag_renew_cli.specs.declared.usage.RenewUsage.TheVariants.{Refused, Memory}
use Rattle.bag_renew_cli.specs.declared.usage.RenewUsage.TheVariants.{NotAlgorithms, NotAnElement}
use Rattle.bag_renew_cli.specs.declared.usage.RenewUsage.TheVariants.{NotAnAlgorithm}
use Rattle.bag_renew_cli.specs.declared.usage.RenewUsage.TheVariants.{PrintWithOthers, PrintSeveral}

-- what is wrong where a manifest is printed
abbrev pub print_misuse : List Row → Option RenewUsage
print_misuse rows =
    if not (prints rows) then None
    else (if has_others rows then Some PrintWithOthers
    else (if has_several rows then Some PrintSeveral
    else (if is_some (printed rows) then None
    else Some NotAnAlgorithm)))

-- what is wrong with the elements of an option
abbrev pub element_misuse : List Row → ElementOption → Option RenewUsage
element_misuse rows option =
    if are_elements rows (element_name option) then None else Some (NotAnElement option)

-- what is wrong with the algorithms of an option
abbrev pub list_misuse : List Row → ListOption → Option RenewUsage
list_misuse rows option =
    if is_some (algs_given rows (list_name option)) then None else Some (NotAlgorithms option)

abbrev pub elements_misuse : List Row → Option RenewUsage
elements_misuse rows = option_or (element_misuse rows element.Set) (element_misuse rows element.Append)

abbrev pub lists_misuse : List Row → Option RenewUsage
lists_misuse rows = option_or (list_misuse rows list.Add) (list_misuse rows list.Drop)

-- the first thing that is wrong with what is given
abbrev pub misuse : List Row → Option RenewUsage
misuse rows = option_or (option_or (print_misuse rows) (elements_misuse rows)) (lists_misuse rows)

-- what is done with each bag
abbrev pub action_of : Option Alg → Bool → BagAction
action_of (Some alg) is_dry = Print alg
action_of None is_dry = if is_dry then DryRun else Renew

-- what is asked of a bag
pub record IsRenewalOf (rows : List Row) (renewal : Renewal) : Type 0 where
  pub added_is : algs_given rows (codes "add") ≡ Some renewal.added
  pub dropped_is : algs_given rows (codes "drop") ≡ Some renewal.dropped
  pub unchecked_is : renewal.unchecked ≡ is_given rows (codes "unchecked")
  pub set_is : renewal.elements.set ≡ elements rows (codes "set")
  pub append_is : renewal.elements.appended ≡ elements rows (codes "append")
  pub unset_is : renewal.elements.unset ≡ values rows (codes "unset")
  pub version_is : renewal.to_1_0 ≡ is_given rows (codes "to-1.0")

-- what is asked for
pub record IsPlanOf (rows : List Row) (plan : RenewPlan) : Type 0 where
  pub action_is : plan.action ≡ Bags (action_of (printed rows) (is_dry rows))
  pub directories_are : plan.directories ≡ directories rows
  pub renewal_is : IsRenewalOf rows plan.renewal
  pub quiet_is : plan.quiet ≡ is_given rows (codes "quiet")

-- the algorithms that an option lists, or why there are none
abbrev pub GivesAlgs : List Row → ListOption → Result (List Alg) RenewUsage → Type 0
GivesAlgs rows option (Ok set) = algs_given rows (list_name option) ≡ Some set
GivesAlgs rows option (Err usage) = list_misuse rows option ≡ Some usage

-- what is asked of a bag, or why nothing is
abbrev pub GivesRenewal : List Row → Result Renewal RenewUsage → Type 0
GivesRenewal rows (Ok renewal) = (lists_misuse rows ≡ None) × IsRenewalOf rows renewal
GivesRenewal rows (Err usage) = (usage ≡ Memory) ⊎ (lists_misuse rows ≡ Some usage)

-- the plan of what is given, or the first thing that is wrong with it
abbrev pub Plans : List Row → Result RenewPlan RenewUsage → Type 0
Plans rows (Ok plan) = (misuse rows ≡ None) × IsPlanOf rows plan
Plans rows (Err usage) = (usage ≡ Memory) ⊎ (misuse rows ≡ Some usage)

-- a plan that does nothing with bags
abbrev pub plan_without_words : RenewAction → RenewPlan
plan_without_words action = record {
  action = action;
  directories = [];
  renewal = nothing;
  quiet = false;
}

-- the answer to what clap makes of the words: where it gives no matches, its help or its refusal
abbrev pub Answers : Kinds → List Row → Result RenewPlan RenewUsage → Type 0
Answers [] rows result = Plans rows result
Answers (kind ∷ more) rows (Ok plan) =
    (kind ≡ DisplayHelp) × (text : Text) × (plan ≡ plan_without_words (Help text))
Answers (kind ∷ more) rows (Err Memory) = ⊤
Answers (kind ∷ more) rows (Err (Refused text)) = kind ≢ DisplayHelp
Answers (kind ∷ more) rows (Err usage) = ⊥

abbrev pub IsPlanned : List Text → Result RenewPlan RenewUsage → Type 0
IsPlanned words result = Answers (refusals words) (matches_of_words words) result

-- the words aren't refused as words that the program doesn't take
abbrev pub IsNotRefused : Result RenewPlan RenewUsage → Type 0
IsNotRefused (Err (Refused text)) = ⊥
IsNotRefused result = ⊤

-- the exit status of refused words
abbrev pub usage_status : RenewUsage → ℕ
usage_status (Refused text) = 2
usage_status (NotAlgorithms option) = 2
usage_status (NotAnElement option) = 2
usage_status NotAnAlgorithm = 2
usage_status PrintWithOthers = 2
usage_status PrintSeveral = 2
usage_status Memory = 3
