-- What is checked of what is given.
use Rattle.std.specs.Prelude.{◌≡◌, ◌<◌, ◌≤◌, ◌^◌, List, ◌++◌, Some, codes}
use Rattle.std.specs.Str.Parse.{IsNumeral, digits_value, without_leading_plus}
use Rattle.clap.specs.Words.{Row, Text}
use Rattle.bag_arguments.specs.declared.check_option.CheckOption.{CheckOption}
use Rattle.bag_words.specs.Rows.{value}
use Rattle.bag_arguments.specs.Given.{check_id}

-- a number from 1 to the greatest of 64 bits, in decimal
abbrev pub IsLimitText : Text → Type 0
IsLimitText text =
    IsNumeral 10 (without_leading_plus text)
    × (digits_value 10 (without_leading_plus text) < 2 ^ 64)
    × (1 ≤ digits_value 10 (without_leading_plus text))

-- a limit that is given is such a number
abbrev pub HasLimit : List Row → Type 0
HasLimit rows = (text : Text) → value rows (codes "max-faults") ≡ Some text → IsLimitText text

-- as it is written
abbrev pub check_name : CheckOption → Text
check_name option = codes "--" ++ check_id option
