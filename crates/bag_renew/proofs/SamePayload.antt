-- Each bag on the way has the payload of the first.
use Rattle.bag_renew.proofs.Common.{◌≡◌, ◌∷◌, ℕ, true, List, [], take, sym, ap, ◌∙◌, is_payload_path, Bag, IsBag}
use Rattle.bag_renew.proofs.Common.{file, payload, after, changes, IsOutOfTheWay, Renewal, AllByRecursion, FileChange}
use Rattle.bag_changes.specs.Laws.{ChangesKeepPayloadList}
use Rattle.bag_renew.proofs.ChangedNames.{are_of_files}
use Rattle.bag_renew.proofs.ManyChanges.{not_named_all}
use Rattle.bag_renew.proofs.OneChange.{AreOfFiles, at_changes, first_are, itself_level, name_of}
use Rattle.bag_renew.proofs.PayloadFiles.{payload_alike}
use Rattle.bag_changes.proofs.Staying.{no_payload_name}

others : (bag : Bag) (cs : List FileChange) (q : List ℕ) → is_payload_path q ≡ true → AreOfFiles bag cs
    → AllByRecursion (λ c. (q ≡ name_of c → ⊥)) cs
others bag [] q is are = tt
others bag (c ∷ cs) q is are = (
  λ same. no_payload_name (name_of c) are.0.0 (ap is_payload_path (sym same) ∙ is),
  others bag cs q is are.1,
)

module _ (bag : Bag) (renewal : Renewal) (k : ℕ) (is : IsBag bag) (way : IsOutOfTheWay bag) where
  abbrev now : Bag
  now = after bag renewal k

  abbrev first_changes : List FileChange
  first_changes = take k (changes bag renewal)

  first_of_files : AreOfFiles bag first_changes
  first_of_files = first_are bag k (changes bag renewal) (are_of_files bag renewal way)

  same_file : (q : List ℕ) → is_payload_path q ≡ true → file now q ≡ file bag q
  same_file q of_it =
      at_changes bag first_changes bag first_of_files (itself_level bag is) q
      ∙ not_named_all first_changes q (file bag q) (others bag first_changes q of_it first_of_files)

  pub same_payload : payload now ≡ payload bag
  same_payload = payload_alike now bag same_file

pub payload_list_stays : ChangesKeepPayloadList
payload_list_stays bag renewal k is way = same_payload bag renewal k is way
