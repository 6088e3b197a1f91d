-- How a tree answers what its disk refuses.
use Rattle.bag_store.proofs.Common.{◌≡◌, ℕ, ◌<◌, IsTrue, arith, MayRefuseChange, MayRefuse, most_entries, DiskState}
use Rattle.bag_store.proofs.Common.{IsDisk, MeetsSpecial, MeetsUnnamed, IsDue, IsDueInListing, IsDueInMove, entry_count}
use Rattle.bag_store.proofs.Common.{failures_after, special_not_plain, unnamed_not_plain, Refusal, ReportsDisk}
use Rattle.bag_store.proofs.Common.{count_after, fault_answering}
use Rattle.bag_store.specs.FileTree.{tree_state}
use Rattle.bag_tree.specs.declared.tree_fault.TreeFault.{TreeFault}

module _ (old new : DiskState) (own own_then : ℕ) (r : Refusal) (answer : TreeFault) where
  -- what answers a refusal that is due
  pub answered_so : (absent closed : Type 0) → new.failures ≡ failures_after r old.failures
      → own_then ≡ count_after r own → answer ≡ fault_answering r
      → IsDue (MeetsSpecial old) ⊥ (IsTrue old.honest → absent) ⊥ r
      → MayRefuse absent closed (tree_state old own) (tree_state new own_then) answer
  answered_so absent closed counts more is due = grind (arith, due, special_not_plain)

  -- what answers a listing's
  pub listing_answered_so : (contradiction : Type 0) → IsDisk old.nodes → new.failures ≡ failures_after r old.failures
      → own_then ≡ count_after r own → answer ≡ fault_answering r
      → IsDueInListing (MeetsSpecial old) (MeetsUnnamed old) (IsTrue old.honest → most_entries < entry_count old.nodes)
      contradiction r
      → MayRefuse ⊥ ⊥ (tree_state old own) (tree_state new own_then) answer
  listing_answered_so contradiction disk counts more is due = grind (arith, due, special_not_plain, unnamed_not_plain)

  -- what answers a move's
  pub move_answered_so : (absent taken gone folder : Type 0) → new.failures ≡ failures_after r old.failures
      → own_then ≡ count_after r own → answer ≡ fault_answering r
      → (gone → IsTrue old.honest → absent) → IsDueInMove (MeetsSpecial old) gone (IsTrue old.honest → taken) folder r
      → MayRefuseChange absent taken (tree_state old own) (tree_state new own_then) answer
  move_answered_so absent taken gone folder counts more is none due = grind (arith, due, special_not_plain)

module _ (old new : DiskState) (r : Refusal) (answer : TreeFault) where
  -- what the answer to a refusal tells of the disk
  pub tells_due : (gone many : Type 0) → answer ≡ fault_answering r → new.failures ≡ failures_after r old.failures
      → IsDue (MeetsSpecial old) ⊥ gone many r → ReportsDisk ⊥ old new answer
  tells_due gone many is counts due = grind (arith, due)

  pub tells_listing : (contradiction many : Type 0) → answer ≡ fault_answering r
      → new.failures ≡ failures_after r old.failures
      → IsDueInListing (MeetsSpecial old) (MeetsUnnamed old) many contradiction r
      → ReportsDisk contradiction old new answer
  tells_listing contradiction many is counts due = grind (arith, due)

  pub tells_move : (gone there folder : Type 0) → answer ≡ fault_answering r
      → new.failures ≡ failures_after r old.failures → IsDueInMove (MeetsSpecial old) gone there folder r
      → ReportsDisk folder old new answer
  tells_move gone there folder is counts due = grind (arith, due)
