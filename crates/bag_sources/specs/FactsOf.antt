-- What is said of each bag of which facts were read.
use Rattle.std.specs.Prelude.{◌≡◌, Option}
use Rattle.bag_tree.specs.Bag.{Bag}
use Rattle.bag_facts.specs.FactsOfBag.{IsFactsOf}
use Rattle.bag_facts.specs.declared.facts.Facts.{Facts}
use Rattle.bag_faults.specs.declared.options.Depth.TheVariants.{Full}
use Rattle.bag_profile.specs.Profile.{Profile}
use Rattle.bag_report.specs.Report.{Check, check_with}

-- so it is for each bag of which these are the facts
abbrev pub ForBagOf : Facts → (Bag → Type 0) → Type 0
ForBagOf facts Holds = (bag : Bag) → IsFactsOf bag facts → Holds bag

-- where they were read at depth Full
abbrev pub ForBagAtFull : Facts → (Bag → Type 0) → Type 0
ForBagAtFull facts Holds = ForBagOf facts (λ bag. facts.options.depth ≡ Full → Holds bag)

-- for the check of that bag, by a profile or without one, with the options with which they were
-- read
abbrev pub ForCheckOf : Facts → Option Profile → (Check → Type 0) → Type 0
ForCheckOf facts profile Holds =
    ForBagOf facts (λ bag. Holds (check_with bag profile facts.options))
