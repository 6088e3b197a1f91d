-- What the program says where the words are refused.
use Rattle.std.specs.Prelude.{ℕ, ◌++◌, List, codes}
use Rattle.bag_arguments.specs.GivenRows.{check_name}
use Rattle.bag_arguments.specs.declared.usage.Usage.{Usage}
use Rattle.bag_arguments.specs.declared.usage.Usage.TheVariants.{Refused, NeedsValidate, TwoDepths}
use Rattle.bag_arguments.specs.declared.usage.Usage.TheVariants.{JoinWithOther}
use Rattle.bag_arguments.specs.declared.usage.Usage.TheVariants.{AfterSeveral, AfterNotALine}
use Rattle.bag_arguments.specs.declared.usage.Usage.TheVariants.{PartOfDepth, NotAPart, Memory}
use Rattle.bag_program.specs.Saying.{with_line_end}

-- the line with its end, of clap some lines
abbrev pub usage_line : Usage → List ℕ
usage_line (Refused text) = with_line_end text
usage_line (NeedsValidate option) =
    codes "bagit: " ++ (check_name option ++ codes " needs --validate\n")
usage_line JoinWithOther =
    codes "bagit: --join takes neither --quiet nor another option of a check\n"
usage_line TwoDepths =
    codes "bagit: more than one of --declaration-only, --fast, --completeness-only\n"
usage_line AfterSeveral = codes "bagit: --after takes one directory\n"
usage_line AfterNotALine = codes "bagit: --after is not a fault line\n"
usage_line PartOfDepth =
    codes "bagit: --part takes none of --declaration-only, --fast, --completeness-only\n"
usage_line NotAPart = codes "bagit: --part is not K/N, with 1 <= K <= N <= 65536\n"
usage_line Memory = codes "bagit: out of memory\n"
