-- The faults of one code that name a path, of those items of a set of which something holds.
use Rattle.bag_report.proofs.Conforming.{◌≡◌, ℕ, List, [], None, Code, of_path, Fault, At, made_of, HasList, Decided}
use Rattle.bag_report.proofs.Conforming.{one_where, same_set, for_each}
use Rattle.bag_report.proofs.FaultSets.{code_at, whole_at}

-- one fault for each
pub each_listed : {I : Type 0} (fault_of : I → Fault) (Q Holds : I → Type 0) → ((i : I) → Decided (Holds i)) → HasList Q
    → HasList (λ f. (i : I) × Q i × (f ≡ fault_of i) × Holds i)
each_listed fault_of Q Holds decided items =
    same_set _ _ (λ f h. (h.0, h.1, h.2.1, h.2.0)) (λ f h. (h.0, h.1, (h.3, h.2)))
    (for_each (λ i f. Holds i × (f ≡ fault_of i)) (λ i. one_where (fault_of i) (Holds i) (decided i)) Q items)

module _ {I : Type 0} (code : Code) (path : I → List ℕ) (Q D : I → Type 0) where
  abbrev IsFault : Fault → Type 0
  IsFault f = (f.code ≡ code) × ((i : I) × At f (path i) None 0 [] × Q i × D i)

  pub to_fault : (f : Fault) → (i : I) × Q i × (f ≡ of_path code (path i) None []) × D i → IsFault f
  to_fault f h = (code_at f code (path h.0) h.2, (h.0, whole_at f code (path h.0) h.2, h.1, h.3))

  pub from_fault : (f : Fault) → IsFault f → (i : I) × Q i × (f ≡ of_path code (path i) None []) × D i
  from_fault f h = (h.1.0, h.1.2, made_of f code (path h.1.0) None 0 [] h.0 h.1.1, h.1.3)

  pub items_listed : ((i : I) → Decided (D i)) → HasList Q → HasList IsFault
  items_listed decided items =
      same_set _ IsFault to_fault from_fault (each_listed (λ i. of_path code (path i) None []) Q D decided items)
