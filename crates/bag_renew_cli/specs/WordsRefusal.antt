-- What the program says where the words of a renewal are refused.
use Rattle.std.specs.Prelude.{ℕ, ◌++◌, List, codes}
use Rattle.bag_program.specs.Saying.{with_line_end}
use Rattle.bag_renew_cli.specs.Options.{element_name, list_name, written}
use Rattle.bag_renew_cli.specs.declared.usage.RenewUsage.{RenewUsage}
use Rattle.bag_renew_cli.specs.declared.usage.RenewUsage.TheVariants.{Refused, Memory}
use Rattle.bag_renew_cli.specs.declared.usage.RenewUsage.TheVariants.{NotAlgorithms, NotAnElement}
use Rattle.bag_renew_cli.specs.declared.usage.RenewUsage.TheVariants.{NotAnAlgorithm}
use Rattle.bag_renew_cli.specs.declared.usage.RenewUsage.TheVariants.{PrintWithOthers, PrintSeveral}

-- the line with its end, of clap some lines
abbrev pub usage_line : RenewUsage → List ℕ
usage_line (Refused text) = with_line_end text
usage_line PrintWithOthers = codes "bagit-renew: --print takes no other option but --quiet\n"
usage_line PrintSeveral = codes "bagit-renew: --print takes one directory\n"
usage_line NotAnAlgorithm = codes "bagit-renew: --print takes an algorithm, as sha512\n"
usage_line (NotAnElement option) =
    codes "bagit-renew: " ++ (written (element_name option) ++ codes " takes LABEL=VALUE\n")
usage_line (NotAlgorithms option) =
    codes "bagit-renew: "
    ++ (written (list_name option) ++ codes " takes algorithms, as sha256,sha512\n")
usage_line Memory = codes "bagit-renew: out of memory\n"
