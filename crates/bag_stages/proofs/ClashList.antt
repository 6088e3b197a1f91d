-- Every bag has a list of the faults of its names.
use Rattle.bag_stages.proofs.Common.{arith, ◌≡◌, ◌≢◌, inl, inr, ℕ, List, true, refl, Ordering, Less, is_payload_path}
use Rattle.bag_stages.proofs.Common.{text_cmp, Alg, Payload, Bag, HasFile, Fault, HasList, named_in, Names, name_clash}
use Rattle.bag_stages.proofs.Common.{IsClashAmong, IsClashFault, nfc_of, AreAlike, IsPayloadFile, IsPayloadName}
use Rattle.bag_stages.proofs.BagLists.{files_listed, over_algs, same_or_not, other_or_not}
use Rattle.bag_stages.proofs.HasLists.{Decided, both_decided, either, for_each, none_decided, one_where, same_set}
use Rattle.bag_stages.proofs.HasLists.{true_or_not, those}
use Rattle.bag_stages.proofs.ClashFaults.{clash_is_fault, fault_is_clash}

module _ (bag : Bag) where
  pub payload_files_listed : HasList (IsPayloadFile bag)
  payload_files_listed =
      those (HasFile bag) (λ path. is_payload_path path ≡ true) (files_listed bag) (λ path.
      true_or_not (is_payload_path path))

  pub payload_names_listed : HasList (IsPayloadName bag)
  payload_names_listed =
      either (IsPayloadFile bag) (λ path. (alg : Alg) × Names bag Payload alg path) payload_files_listed
      (over_algs (λ alg path. Names bag Payload alg path) (λ alg. (named_in bag Payload alg, λ path. (λ c. c, λ h. h))))

is_less : (o : Ordering) → Decided (o ≡ Less)
is_less Less = inl refl
is_less o = inr (λ e. cc)

-- the names of a set that a list has
module _ (IsName : List ℕ → Type 0) (names : HasList IsName) where
  abbrev IsLower : List ℕ → List ℕ → List ℕ → List ℕ → Type 0
  IsLower text least other o = (AreAlike text other × (text_cmp other least ≡ Less)) × (o ≡ other)

  -- names of the class below this one
  lower_listed : (text least : List ℕ) → HasList (λ o. (other : List ℕ) × IsName other × IsLower text least other o)
  lower_listed text least =
      for_each (IsLower text least)
      (λ other. one_where other _
      (both_decided _ _ (same_or_not (nfc_of text) (nfc_of other)) (is_less (text_cmp other least)))) IsName names

  -- it is of the class, and none is below it
  abbrev IsLowest : List ℕ → List ℕ → Type 0
  IsLowest text least =
      AreAlike text least × ((o : List ℕ) → ¬ ((other : List ℕ) × IsName other × IsLower text least other o))

  is_lowest : (text least : List ℕ) → Decided (IsLowest text least)
  is_lowest text least =
      both_decided _ _ (same_or_not (nfc_of text) (nfc_of least)) (none_decided _ (lower_listed text least))

  abbrev IsClash : List ℕ → List ℕ → Fault → Type 0
  IsClash name least f = (IsLowest name least × (least ≢ name)) × (f ≡ name_clash name least)

  abbrev IsClashFor : List ℕ → Fault → Type 0
  IsClashFor name f = (least : List ℕ) × IsName least × IsClash name least f

  abbrev IsSome : Fault → Type 0
  IsSome f = (name : List ℕ) × IsName name × IsClashFor name f

  some_listed : HasList IsSome
  some_listed =
      for_each IsClashFor
      (λ name. for_each (IsClash name)
      (λ least. one_where (name_clash name least) _ (both_decided _ _ (is_lowest name least) (other_or_not least name)))
      IsName names) IsName names

  to_clash : (f : Fault) → IsSome f → IsClashAmong IsName f
  to_clash f (name, is, (least, there, (((alike, none), other), made))) = (
    name,
    (
      least,
      made,
      (is, record { name = there; alike = alike; lowest = λ o n a less. none o (o, n, ((a, less), refl)) }, other),
    ),
  )

  from_clash : (f : Fault) → IsClashAmong IsName f → IsSome f
  from_clash f (name, (least, made, (is, h, other))) = grind arith

  pub clashes_listed : HasList (IsClashAmong IsName)
  clashes_listed = same_set IsSome (IsClashAmong IsName) to_clash from_clash some_listed

pub clash_faults_are_listed : (bag : Bag) → HasList (IsClashFault bag)
clash_faults_are_listed bag =
    same_set (IsClashAmong (IsPayloadName bag)) (IsClashFault bag) (clash_is_fault bag) (fault_is_clash bag)
    (clashes_listed (IsPayloadName bag) (payload_names_listed bag))
