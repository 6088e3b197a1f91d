-- How the answers of the parts make the answer of the whole.
use Rattle.bag_arguments.proofs.Common.{arith, ◌≡◌, ◌≢◌, ◌⊎◌, ◌∙◌, inl, inr, ap, subst, sym, codes, Bool, List, []}
use Rattle.bag_arguments.proofs.Common.{Option, Some, None, Result, Err, is_some}
use Rattle.bag_arguments.proofs.Common.{Ok, ◌∷◌, option_map, if◌then◌else◌, Kinds, Row, Text, refl, true, fault_of}
use Rattle.bag_arguments.proofs.Common.{matches_of, takes, command, clap_on_literals}
use Rattle.bag_arguments.proofs.Common.{has_after_several, has_join_with_other, has_two_depths, out_of_place}
use Rattle.bag_arguments.proofs.Common.{clap_takes, refusals, matches_of_words}
use Rattle.clap.specs.declared.parser.matches.ArgMatches.{ArgMatches}
use Rattle.bag_arguments.specs.Given.{depth}
use Rattle.bag_words.specs.Rows.{value}
use Rattle.bag_words.specs.Rows.{rows_in}
use Rattle.bag_words.specs.Taken.{IsPlain, IsTaken}
use Rattle.bag_arguments.specs.declared.plan.Action.TheVariants.{Help}
use Rattle.bag_words.specs.declared.taking.Declined.{Declined}
use Rattle.bag_words.specs.declared.taking.Declined.TheVariants as declined
use Rattle.bag_faults.specs.declared.fault.Fault.{Fault}
use Rattle.bag_faults.specs.declared.options.Depth.{Depth}
use Rattle.bag_arguments.specs.Plan.{Answers, IsCursor, IsNotRefused, IsPlanned, Plans, misuse, part_misuse}
use Rattle.bag_arguments.specs.Plan.{part_misuse_at, plan_without_words}
use Rattle.bag_arguments.specs.declared.check_option.CheckOption.{CheckOption}
use Rattle.bag_arguments.specs.declared.plan.Plan.{Plan}
use Rattle.bag_arguments.specs.declared.usage.Usage.{Usage}
use Rattle.bag_arguments.specs.declared.usage.Usage.TheVariants.{Refused, NeedsValidate, TwoDepths, AfterSeveral}
use Rattle.bag_arguments.specs.declared.usage.Usage.TheVariants.{AfterNotALine, JoinWithOther, Memory, NotAPart}
use Rattle.bag_arguments.specs.declared.usage.Usage.TheVariants.{PartOfDepth}

not_other : (usage : Usage) (o : Option CheckOption) (a b c : Bool) → ((x : CheckOption) → NeedsValidate x ≢ usage)
    → JoinWithOther ≢ usage → TwoDepths ≢ usage → AfterSeveral ≢ usage
    → (if is_some o then option_map NeedsValidate o else (if a then Some JoinWithOther
    else (if b then Some TwoDepths else (if c then Some AfterSeveral else None)))) ≡ Some usage → ⊥
not_other usage o a b c validate join depths several e = grind arith

-- what is wrong with what is given is the answer
pub misuse_answered : (rows : List Row) (usage : Usage) → misuse rows ≡ Some usage → Plans rows (Err usage)
misuse_answered rows (Refused text) e =
    absurd (not_other (Refused text) (out_of_place rows) (has_join_with_other rows) (has_two_depths rows)
    (has_after_several rows) (λ x e. cc) (λ e. cc) (λ e. cc) (λ e. cc) e)
misuse_answered rows AfterNotALine e =
    absurd (not_other AfterNotALine (out_of_place rows) (has_join_with_other rows) (has_two_depths rows)
    (has_after_several rows) (λ x e. cc) (λ e. cc) (λ e. cc) (λ e. cc) e)
misuse_answered rows PartOfDepth e =
    absurd (not_other PartOfDepth (out_of_place rows) (has_join_with_other rows) (has_two_depths rows)
    (has_after_several rows) (λ x e. cc) (λ e. cc) (λ e. cc) (λ e. cc) e)
misuse_answered rows NotAPart e =
    absurd (not_other NotAPart (out_of_place rows) (has_join_with_other rows) (has_two_depths rows)
    (has_after_several rows) (λ x e. cc) (λ e. cc) (λ e. cc) (λ e. cc) e)
misuse_answered rows Memory e = tt
misuse_answered rows usage e = e

-- a part is wrong in one of two ways
wrong_part : (depth : Depth) (text : Option Text) (usage : Usage) → part_misuse_at depth text ≡ Some usage
    → (usage ≡ PartOfDepth) ⊎ (usage ≡ NotAPart)
wrong_part depth text usage e = grind arith

module _ (rows : List Row) (usage : Usage) (after : Option Fault) (no_other : misuse rows ≡ None)
    (cursor : IsCursor (value rows (codes "after")) after) (wrong : part_misuse rows ≡ Some usage) where
  as_wrong : (usage ≡ PartOfDepth) ⊎ (usage ≡ NotAPart) → Plans rows (Err usage)
  as_wrong (inl is) = subst (λ u. Plans rows (Err u)) (sym is) (record {
    no_other = no_other;
    after = after;
    cursor = cursor;
    misuse_is = wrong ∙ ap Some is;
  })
  as_wrong (inr is) = subst (λ u. Plans rows (Err u)) (sym is) (record {
    no_other = no_other;
    after = after;
    cursor = cursor;
    misuse_is = wrong ∙ ap Some is;
  })

  -- what is wrong with the part alone is the answer
  pub part_answered : Plans rows (Err usage)
  part_answered = as_wrong (wrong_part (depth rows) (value rows (codes "part")) usage wrong)

-- the command's words are refused for one reason at most
pub plain : IsPlain command
unfolding command clap_on_literals
plain = record { simple = refl; free = refl; alone = refl; leaf = refl }

-- the words are taken
pub taken_answered : (words : List Text) → words ≢ [] → (m : ArgMatches) (result : Result Plan Usage)
    → IsTaken (fault_of command words) (matches_of command words) (Ok m) → Plans (rows_in m) result
    → IsPlanned words result
unfolding refusals matches_of_words
taken_answered [] some m result taken plans = absurd (some refl)
taken_answered (word ∷ rest) some m result taken plans =
    rw taken.0 (subst (λ rows. Plans rows result) taken.1 plans)

-- the answer where they aren't
abbrev pub declined_as : Declined → Result Plan Usage
declined_as (declined.Help text) = Ok (plan_without_words (Help text))
declined_as (declined.Refused text) = Err (Refused text)
declined_as declined.Memory = Err Memory

declined_by : (kinds : Kinds) (rows : List Row) (why : Declined) → IsTaken kinds rows (Err why)
    → Answers kinds rows (declined_as why)
declined_by kinds rows why taken = grind arith

pub declined_answered : (words : List Text) → words ≢ [] → (why : Declined)
    → IsTaken (fault_of command words) (matches_of command words) (Err why) → IsPlanned words (declined_as why)
unfolding refusals matches_of_words
declined_answered [] some why taken = absurd (some refl)
declined_answered (word ∷ rest) some why taken = declined_by _ _ why taken

-- clap refuses no words that it takes, but for memory
pub not_refused : (words : List Text) (text : Text) → (takes command words ≡ true → declined.Refused text ≡ declined.Memory)
    → clap_takes words ≡ true → ⊥
unfolding clap_takes
not_refused words text memory taken = let e = memory taken in cc

-- where something is given, no word is one that the program doesn't take
pub plans_not_refused : (rows : List Row) (result : Result Plan Usage) → Plans rows result → IsNotRefused result
plans_not_refused rows result plans = grind arith
