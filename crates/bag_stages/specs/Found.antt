-- What a search of the facts of a bag finds.
use Rattle.std.specs.Prelude.{◌≡◌, List}
use Rattle.bag_text.specs.Bytes.{Path}
use Rattle.bag_text.specs.Order.{IsListOf}
use Rattle.bag_tree.specs.Bag.{Bag}
use Rattle.bag_read.specs.declared.fetch.FetchEntry.{FetchEntry}
use Rattle.bag_faults.specs.FaultOrder.{fault_cmp}
use Rattle.bag_facts.specs.FactsOfBag.{IfBagRead}
use Rattle.bag_facts.specs.declared.facts.Facts.{Facts}
use Rattle.bag_faults.specs.declared.fault.Fault.{Fault}
use Rattle.bag_stages.specs.CompletenessFaults.{HasEachOnce}
use Rattle.bag_stages.specs.FetchFaults.{AreFetched}
use Rattle.bag_stages.specs.FetchStage.{fetch_txt}

-- exactly the faults of the bag of which this holds, in their order; the facts were read beyond the
-- declaration
abbrev pub AreFaultsOf : Facts → (Bag → Fault → Type 0) → List Fault → Type 0
AreFaultsOf facts IsSo faults = IfBagRead facts (λ bag. IsListOf fault_cmp (IsSo bag) faults)

-- exactly these faults, each once and in any order
abbrev pub AreEachOnceOf : Facts → (Bag → Fault → Type 0) → List Fault → Type 0
AreEachOnceOf facts IsSo faults = IfBagRead facts (λ bag. HasEachOnce (IsSo bag) faults)

-- exactly these faults of the files to fetch, of which the list is at the path
abbrev pub AreFetchFaultsOf :
    Facts → Path → List FetchEntry → (Bag → Fault → Type 0) → List Fault → Type 0
AreFetchFaultsOf facts path entries IsSo faults = IfBagRead facts (λ bag.
    path ≡ fetch_txt → AreFetched bag entries → IsListOf fault_cmp (IsSo bag) faults)
