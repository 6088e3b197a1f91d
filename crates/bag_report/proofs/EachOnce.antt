-- The faults of a set, put in their order, each once.
use Rattle.bag_report.proofs.Conforming.{List, refl, Contains, dedup, IsPermutation, IsSorted, eq_by_cmp}
use Rattle.bag_report.proofs.Conforming.{Contains-dedup, Contains-from_dedup, IsStrictlySortedBy-dedup}
use Rattle.bag_report.proofs.Conforming.{IsPermutation-sym, Contains-permutation, IsListOf, Fault, AreAll}
use Rattle.std.proofs.lemmas.Cmp.{eq_by_cmp_equiv}
use Rattle.bag_faults.specs.FaultOrder.{fault_cmp}
use Rattle.bag_faults.proofs.Ordered.{fault_cmp_total, equal_faults_are_one}

module _ (Member : Fault → Type 0) (faults sorted : List Fault) (all : AreAll Member faults)
    (perm : IsPermutation faults sorted) where
  is_member : (f : Fault) → Contains (dedup (eq_by_cmp fault_cmp) sorted) f → Member f
  is_member f c =
      (all f).0 (Contains-permutation sorted faults f (IsPermutation-sym faults sorted perm)
      (Contains-from_dedup (eq_by_cmp fault_cmp) sorted f c))

  has_member : (f : Fault) → Member f → Contains (dedup (eq_by_cmp fault_cmp) sorted) f
  has_member f m =
      Contains-dedup (eq_by_cmp_equiv fault_cmp_total) (λ x y e. (equal_faults_are_one x y).0 e) sorted f
      (Contains-permutation faults sorted f perm ((all f).1 m))

  pub sorted_listed : IsSorted fault_cmp sorted → IsListOf fault_cmp Member (dedup (eq_by_cmp fault_cmp) sorted)
  sorted_listed in_order = record {
    ascending = IsStrictlySortedBy-dedup fault_cmp_total (λ x y. refl) sorted in_order;
    members = λ f. (is_member f, has_member f);
  }
