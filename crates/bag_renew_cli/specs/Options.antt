-- The options of which a refusal speaks.
use Rattle.std.specs.Prelude.{◌++◌, codes}
use Rattle.clap.specs.Words.{Text}
use Rattle.bag_renew_cli.specs.declared.request_option.ListOption.{ListOption}
use Rattle.bag_renew_cli.specs.declared.request_option.ListOption.TheVariants as list
use Rattle.bag_renew_cli.specs.declared.request_option.ElementOption.{ElementOption}
use Rattle.bag_renew_cli.specs.declared.request_option.ElementOption.TheVariants as element

-- the name of its argument
abbrev pub list_name : ListOption → Text
list_name list.Add = codes "add"
list_name list.Drop = codes "drop"

abbrev pub element_name : ElementOption → Text
element_name element.Set = codes "set"
element_name element.Append = codes "append"

-- an option as it is written
abbrev pub written : Text → Text
written name = codes "--" ++ name
