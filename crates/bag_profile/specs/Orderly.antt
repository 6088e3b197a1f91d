-- In which order the lists of a profile stand.
use Rattle.std.specs.Prelude.{List}
use Rattle.bag_profile.specs.declared.label.LabelRule.{LabelRule}
use Rattle.std.specs.List.{AllByRecursion}
use Rattle.bag_profile.specs.TextSet.{IsAscending}
use Rattle.std.specs.Option.{ForSome}
use Rattle.bag_profile.specs.declared.name_lists.NameRules.{NameRules}
use Rattle.bag_profile.specs.declared.name_lists.NameLists.{NameLists}
use Rattle.bag_profile.specs.Label.{labels}
use Rattle.bag_profile.specs.Profile.{Profile, names}

-- the lists that are there ascend
abbrev pub IsAscendingPair : NameRules → Type 0
IsAscendingPair rules = ForSome rules.required IsAscending × ForSome rules.allowed IsAscending

abbrev pub NamesAscend : NameLists → Type 0
NamesAscend lists =
    IsAscendingPair lists.manifests × IsAscendingPair lists.tag_manifests
    × IsAscendingPair lists.tag_files

-- the labels ascend, and so do the values of each
abbrev pub AreLabelsOrderly : List LabelRule → Type 0
AreLabelsOrderly rules =
    IsAscending (labels rules) × AllByRecursion (λ rule. IsAscending rule.values) rules

-- all lists ascend
abbrev pub IsOrderly : Profile → Type 0
IsOrderly profile =
    AreLabelsOrderly profile.labels × NamesAscend profile.names
    × ForSome profile.terms.versions IsAscending × IsAscending profile.unchecked
