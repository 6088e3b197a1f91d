-- What is read of a bag.
use Rattle.std.specs.Prelude.{◌≡◌, option_and_then}
use Rattle.bag_text.specs.Rules.{rules_of}
use Rattle.bag_text.specs.declared.rules.Rules.{Rules}
use Rattle.bag_text.specs.declared.rules.Rules.TheVariants.{V10}
use Rattle.bag_read.specs.Declaration.{declared_version}
use Rattle.bag_read.specs.ManifestName.{tag_path}
use Rattle.bag_read.specs.declared.tag_name.TagName.TheVariants.{Declaration}
use Rattle.bag_tree.specs.Bag.{Bag, file}

-- the rules by which a bag is judged: those of the version that its declaration declares, and those
-- of 1.0 where it declares none
unfoldable pub rules_in : Bag → Rules
rules_in bag = rules_of (option_and_then declared_version (file bag (tag_path Declaration)))

-- those of 1.0
abbrev pub IsByV10 : Bag → Type 0
IsByV10 bag = rules_in bag ≡ V10
