-- How the answers of the parts make the answer of the whole.
use Rattle.bag_renew_cli.proofs.Common.{arith, ◌≡◌, ◌≢◌, inl, inr, refl, not, Bool, List}
use Rattle.bag_renew_cli.proofs.Common.{Option, Some, None, Result, Err, is_some, option_or, if◌then◌else◌}
use Rattle.bag_renew_cli.proofs.Common.{Ok, Row, Text, command, clap_on_literals, clap_takes, fault_of, matches_of}
use Rattle.bag_renew_cli.proofs.Common.{rows_in, subst, takes, true, refusals, matches_of_words}
use Rattle.clap.specs.Words.{Kinds}
use Rattle.clap.specs.declared.parser.matches.ArgMatches.{ArgMatches}
use Rattle.bag_words.specs.Taken.{IsPlain, IsTaken}
use Rattle.bag_words.specs.declared.taking.Declined.{Declined}
use Rattle.bag_words.specs.declared.taking.Declined.TheVariants as declined
use Rattle.bag_renew_cli.specs.Given.{has_others, has_several, printed, prints}
use Rattle.bag_renew_cli.specs.declared.plan.RenewAction.TheVariants.{Help}
use Rattle.bag_renew_cli.specs.Plan.{Answers, IsNotRefused, IsPlanned, Plans, misuse, plan_without_words, print_misuse}
use Rattle.bag_renew_cli.specs.Plan.{elements_misuse, lists_misuse, element_misuse, list_misuse}
use Rattle.bag_renew_cli.specs.declared.plan.RenewPlan.{RenewPlan}
use Rattle.bag_renew_cli.specs.declared.request_option.ElementOption.{ElementOption}
use Rattle.bag_renew_cli.specs.declared.request_option.ElementOption.TheVariants as element
use Rattle.bag_renew_cli.specs.declared.request_option.ListOption.{ListOption}
use Rattle.bag_renew_cli.specs.declared.request_option.ListOption.TheVariants as list
use Rattle.bag_renew_cli.specs.declared.usage.RenewUsage.{RenewUsage}
use Rattle.bag_renew_cli.specs.declared.usage.RenewUsage.TheVariants.{Refused, Memory, PrintWithOthers, PrintSeveral}
use Rattle.bag_renew_cli.specs.declared.usage.RenewUsage.TheVariants.{NotAnAlgorithm}

-- the command's words are refused for one reason at most
pub plain : IsPlain command
unfolding command clap_on_literals
plain = record { simple = refl; free = refl; alone = refl; leaf = refl }

either_is : (a b : Option RenewUsage) (usage : RenewUsage) → a ≢ Some usage → b ≢ Some usage
    → option_or a b ≢ Some usage
either_is a b usage first second e = grind arith

module _ (text : Text) where
  print_other : (prints others several known : Bool)
      → (if not prints then None
      else (if others then Some PrintWithOthers
      else (if several then Some PrintSeveral else (if known then None else Some NotAnAlgorithm))))
      ≢ Some (Refused text)
  print_other prints others several known e = grind arith

  element_other : (rows : List Row) (option : ElementOption) → element_misuse rows option ≢ Some (Refused text)
  element_other rows option e = grind arith

  list_other : (rows : List Row) (option : ListOption) → list_misuse rows option ≢ Some (Refused text)
  list_other rows option e = grind arith

  misuse_other : (rows : List Row) → misuse rows ≢ Some (Refused text)
  misuse_other rows =
      either_is _ (lists_misuse rows) _
      (either_is (print_misuse rows) (elements_misuse rows) _
      (print_other (prints rows) (has_others rows) (has_several rows) (is_some (printed rows)))
      (either_is _ _ _ (element_other rows element.Set) (element_other rows element.Append)))
      (either_is _ _ _ (list_other rows list.Add) (list_other rows list.Drop))

-- where something is given, no word is one that the program doesn't take
pub plans_not_refused : (rows : List Row) (result : Result RenewPlan RenewUsage) → Plans rows result
    → IsNotRefused result
plans_not_refused rows (Err (Refused text)) (inl e) = cc
plans_not_refused rows (Err (Refused text)) (inr e) = absurd (misuse_other text rows e)
plans_not_refused rows result plans = tt

-- the words are taken
pub taken_answered : (words : List Text) (m : ArgMatches) (result : Result RenewPlan RenewUsage)
    → IsTaken (fault_of command words) (matches_of command words) (Ok m) → Plans (rows_in m) result
    → IsPlanned words result
unfolding refusals matches_of_words
taken_answered words m result taken plans = rw taken.0 (subst (λ rows. Plans rows result) taken.1 plans)

-- the answer where they aren't
abbrev pub declined_as : Declined → Result RenewPlan RenewUsage
declined_as (declined.Help text) = Ok (plan_without_words (Help text))
declined_as (declined.Refused text) = Err (Refused text)
declined_as declined.Memory = Err Memory

declined_by : (kinds : Kinds) (rows : List Row) (why : Declined) → IsTaken kinds rows (Err why)
    → Answers kinds rows (declined_as why)
declined_by kinds rows why taken = grind arith

pub declined_answered : (words : List Text) (why : Declined)
    → IsTaken (fault_of command words) (matches_of command words) (Err why) → IsPlanned words (declined_as why)
unfolding refusals matches_of_words
declined_answered words why taken = declined_by _ _ why taken

-- clap refuses no words that it takes, but for memory
pub not_refused : (words : List Text) (text : Text) → (takes command words ≡ true → declined.Refused text ≡ declined.Memory)
    → clap_takes words ≡ true → ⊥
unfolding clap_takes
not_refused words text memory taken = let e = memory taken in cc
