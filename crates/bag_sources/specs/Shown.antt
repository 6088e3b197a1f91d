-- The first of a list.
use Rattle.std.proofs.Common.{◌≡◌, ◌++◌, ◌∷◌, List, [], None, Some, refl, ap}
use Rattle.bag_faults.specs.declared.fault.Fault.{Fault}
use Rattle.bag_sources.specs.Source.{rest_of}
use Rattle.bag_sources.specs.Filling.{first_of}

pub first_shown : (fs gs : List Fault) (f : Fault)
    → first_of fs ≡ Some f → first_of (fs ++ gs) ≡ Some f
first_shown [] gs f e = let none : None ≡ Some f = e in cc
first_shown (x ∷ fs) gs f e = e

pub front_is : {A : Type 0} (xs : List A) (x : A) → first_of xs ≡ Some x → xs ≡ x ∷ rest_of xs
front_is [] x e = let none : None ≡ Some x = e in cc
front_is (y ∷ xs) x e = let same : y ≡ x = cc in ap (λ z. z ∷ xs) same

pub none_is : {A : Type 0} (xs : List A) → first_of xs ≡ None → xs ≡ []
none_is [] e = refl
none_is (y ∷ xs) e = cc
