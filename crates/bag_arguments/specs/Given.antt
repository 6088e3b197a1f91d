-- What is given on the command line, by the matches of the words.
use Rattle.std.specs.Prelude.{ℕ, ◌≡◌, ◌≤◌, Bool, false, true, ◌&&◌, ◌||◌, List, [], ◌∷◌}
use Rattle.std.specs.Prelude.{Option, Some, None}
use Rattle.std.specs.Prelude.{option_map, is_some, if◌then◌else◌, codes}
use Rattle.std.specs.Prelude.{◌==◌, suc, filter, filter_map, find, length, nat_lt}
use Rattle.std.specs.List.{after_first, before_first, list_any}
use Rattle.std.specs.Str.{byte}
use Rattle.std.specs.Str.Parse.{digits_value, without_leading_plus}
use Rattle.clap.specs.Words.{Row, Text}
use Rattle.bag_words.specs.Rows.{directories, is_given, value}
use Rattle.bag_text.specs.Text.{trim}
use Rattle.bag_text.specs.Alg.{algs, name}
use Rattle.bag_text.specs.declared.alg.Alg.{Alg}
use Rattle.bag_text.specs.declared.alg.Alg.TheVariants.{Sha256, Sha512}
use Rattle.bag_read.specs.LineParts.{number_of}
use Rattle.bag_faults.specs.Part.{Part, part_at}
use Rattle.bag_faults.specs.declared.options.Depth.{Depth}
use Rattle.bag_faults.specs.declared.options.Depth.TheVariants.{Declaration, Fast, Complete, Full}
use Rattle.bag_arguments.specs.Labels.{all_labels, label_name, label_option}
use Rattle.bag_arguments.specs.declared.label.Label.{Label}
use Rattle.bag_arguments.specs.declared.plan.Action.{Action}
use Rattle.bag_arguments.specs.declared.plan.Action.TheVariants.{Check, CheckTars, Join, Make}
use Rattle.bag_arguments.specs.declared.check_option.CheckOption.{CheckOption}
use Rattle.bag_arguments.specs.declared.check_option.CheckOption.TheVariants as check

abbrev pub validates : List Row → Bool
validates rows = is_given rows (codes "validate")

-- ---- the options that need --validate

-- in the order in which they are looked at
abbrev pub check_options : List CheckOption
check_options =
    check.DeclarationOnly ∷ check.Fast ∷ check.CompletenessOnly
    ∷ check.Profile ∷ check.After ∷ check.MaxFaults ∷ check.Clashes ∷ check.Part
    ∷ check.Tar ∷ check.Join ∷ []

-- the name of its argument
abbrev pub check_id : CheckOption → Text
check_id check.DeclarationOnly = codes "declaration-only"
check_id check.Fast = codes "fast"
check_id check.CompletenessOnly = codes "completeness-only"
check_id check.Profile = codes "profile"
check_id check.After = codes "after"
check_id check.MaxFaults = codes "max-faults"
check_id check.Clashes = codes "clashes"
check_id check.Part = codes "part"
check_id check.Tar = codes "tar"
check_id check.Join = codes "join"

abbrev pub has_check_option : List Row → CheckOption → Bool
has_check_option rows check.Profile = is_some (value rows (codes "profile"))
has_check_option rows check.After = is_some (value rows (codes "after"))
has_check_option rows check.MaxFaults = is_some (value rows (codes "max-faults"))
has_check_option rows check.Part = is_some (value rows (codes "part"))
has_check_option rows option = is_given rows (check_id option)

-- the first that stands without --validate
abbrev pub out_of_place : List Row → Option CheckOption
out_of_place rows = if validates rows then None else find (has_check_option rows) check_options

-- another one than --join
abbrev pub is_other : CheckOption → Bool
is_other check.Join = false
is_other option = true

-- one of these is given that is another one
abbrev pub has_other : List Row → List CheckOption → Bool
has_other rows options =
    list_any (λ option. is_other option && has_check_option rows option) options

-- reports are to be joined, and another one is given, or that it is to be quiet
abbrev pub has_join_with_other : List Row → Bool
has_join_with_other rows =
    is_given rows (codes "join") && (is_given rows (codes "quiet") || has_other rows check_options)

-- ---- depths

abbrev pub has_two_depths : List Row → Bool
has_two_depths rows =
    (is_given rows (codes "declaration-only") && is_given rows (codes "fast"))
    || ((is_given rows (codes "declaration-only") && is_given rows (codes "completeness-only"))
    || (is_given rows (codes "fast") && is_given rows (codes "completeness-only")))

abbrev pub depth : List Row → Depth
depth rows =
    if is_given rows (codes "declaration-only") then Declaration
    else (if is_given rows (codes "fast") then Fast
    else (if is_given rows (codes "completeness-only") then Complete
    else Full))

-- ---- what is done

-- bags are made; or reports of parts are joined, or bags in tar files checked, or those in folders
abbrev pub action : List Row → Action
action rows =
    if validates rows then (if is_given rows (codes "join") then Join
    else (if is_given rows (codes "tar") then CheckTars else Check)) else Make

-- ---- the cursor and the limit

abbrev pub has_after_several : List Row → Bool
has_after_several rows =
    is_some (value rows (codes "after")) && nat_lt 1 (length (directories rows))

-- the limit of a text is its number, 1 or more
abbrev pub IsLimit : Option Text → Option ℕ → Type 0
IsLimit None limit = limit ≡ None
IsLimit (Some text) None = ⊥
IsLimit (Some text) (Some n) = (1 ≤ n) × (n ≡ digits_value 10 (without_leading_plus text))

-- ---- the part

abbrev pub is_slash : ℕ → Bool
is_slash c = c == byte "/"

-- the part of these numbers, of which the first counts from 1
abbrev pub part_at_number : Option ℕ → Option ℕ → Option Part
part_at_number (Some (suc number)) (Some of) = part_at number of
part_at_number number of = None

-- `K/N`, each of them ASCII digits: the part K of N
abbrev pub part_of : Text → Option Part
part_of text =
    part_at_number (number_of (before_first is_slash text)) (number_of (after_first is_slash text))

-- the part that is given
abbrev pub part_of_value : Option Text → Option Part
part_of_value None = None
part_of_value (Some text) = part_of text

abbrev pub part_given : List Row → Option Part
part_given rows = part_of_value (value rows (codes "part"))

-- ---- making

-- no algorithm means sha256 and sha512
abbrev pub or_default : List Alg → List Alg
or_default [] = Sha256 ∷ Sha512 ∷ []
or_default (alg ∷ rest) = alg ∷ rest

abbrev pub named_algs : List Row → List Alg
named_algs rows = filter (λ alg. is_given rows (name alg)) algs

-- the element of a label, its value without the blanks at both ends
abbrev pub element : List Row → Label → Option (Text × Text)
element rows label =
    option_map (λ text. (label_name label, trim text)) (value rows (label_option label))

abbrev pub info : List Row → List (Text × Text)
info rows = filter_map (element rows) all_labels
