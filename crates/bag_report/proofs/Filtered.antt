-- The members of a list that pass a test.
use Rattle.bag_report.proofs.Common.{◌≡◌, Bool, true, List, filter, Ordering, IsListOf, kept, passed}
use Rattle.std.proofs.lemmas.List.Kept.{IsStrictlySortedBy-filter}

pub filtered_list : {A : Type 0} (cmp : A → A → Ordering) (Member : A → Type 0) (p : A → Bool) (xs : List A)
    → IsListOf cmp Member xs → IsListOf cmp (λ x. Member x × (p x ≡ true)) (filter p xs)
filtered_list cmp Member p xs list = record {
  ascending = IsStrictlySortedBy-filter cmp p xs list.ascending;
  members = λ x. (
    (λ c. let both = kept p xs x c in ((list.members x).0 both.1, both.0)),
    (λ h. passed p xs x h.1 ((list.members x).1 h.0)),
  );
}
