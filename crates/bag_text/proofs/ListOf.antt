-- Ascending lists of sets: of nothing, of one, of two sets of which one lies below the other, and that there is one.
use Rattle.bag_text.proofs.Common.{List, None, Option, Some, [], ap, arith, get_or, inl, inr, refl, subst, suc, sym}
use Rattle.bag_text.proofs.Common.{zero, ◌++◌, ◌∙◌, ◌∷◌, ◌≡◌, ◌⊎◌, All-contains, All-from_recursion, Contains-get_or}
use Rattle.bag_text.proofs.Common.{recursion_from_All, AllByRecursion, option_to_list, Contains}
pub use Rattle.std.proofs.lemmas.List.Elements.{Contains-append_cases as contains_either}
pub use Rattle.std.proofs.lemmas.List.Elements.{Contains-append_left as contains_front}
pub use Rattle.std.proofs.lemmas.List.Elements.{Contains-append_right as contains_back}
use Rattle.std.specs.List.Sorted.{IsStrictlySortedBy}
use Rattle.std.specs.Cmp.{IsTotalOrder}
use Rattle.std.specs.declared.cmp.Ordering.{Ordering}
use Rattle.std.specs.declared.cmp.Ordering.TheVariants.{Less, Greater}
use Rattle.std.specs.Ordering.{ordering_reverse}
use Rattle.bag_text.specs.Order.{IsListOf}
use Rattle.bag_text.specs.Only.{IsOnly}

-- a member of a list is its first or stands after it
pub contains_cases : {A : Type 0} (x : A) (xs : List A) (y : A) → Contains (x ∷ xs) y → (x ≡ y) ⊎ Contains xs y
contains_cases x xs y (zero, h, e) = inl e
contains_cases x xs y (suc k, h, e) = inr (k, omega arith, e)

pub contains_first : {A : Type 0} (x : A) (xs : List A) → Contains (x ∷ xs) x
contains_first x xs = (0, omega arith, refl)

pub contains_behind : {A : Type 0} (x : A) (xs : List A) (y : A) → Contains xs y → Contains (x ∷ xs) y
contains_behind x xs y (k, h, e) = (suc k, omega arith, e)

pub contains_nothing : {A : Type 0} (y : A) → Contains {X = A} [] y → ⊥
contains_nothing y (k, h, e) = absurd (omega arith)

-- what holds of each member holds along the list, and the other way round
pub each_from_members : {A : Type 0} (P : A → Type 0) (xs : List A) → ((x : A) → Contains xs x → P x)
    → AllByRecursion P xs
each_from_members P xs h = recursion_from_All P xs (λ k d l. h (get_or xs k d) (Contains-get_or xs k d l))

pub member_has : {A : Type 0} (P : A → Type 0) (xs : List A) (x : A) → AllByRecursion P xs → Contains xs x → P x
member_has P xs x a c = All-contains P xs x (All-from_recursion P xs a) c

-- a set whose members are the values of an option
pub only_from_some : {A : Type 0} (Member : A → Type 0) (o : Option A) → ((x : A) → o ≡ Some x → Member x)
    → ((x : A) → Member x → o ≡ Some x) → IsOnly Member o
only_from_some Member None to from = λ x m. let clash : None ≡ Some x = from x m in cc
only_from_some Member (Some x) to from = (to x refl, λ y m. let e : Some x ≡ Some y = from y m in cc)

module _ {A : Type 0} (cmp : A → A → Ordering) where
  -- two ascending lists, one below the other, are one
  pub ascending_joined : (xs ys : List A) → IsStrictlySortedBy cmp xs → IsStrictlySortedBy cmp ys
      → ((x y : A) → Contains xs x → Contains ys y → cmp x y ≡ Less) → IsStrictlySortedBy cmp (xs ++ ys)
  unfolding IsStrictlySortedBy
  ascending_joined [] ys p q less = q
  ascending_joined (x ∷ xs) ys p q less = (
    each_from_members _ (xs ++ ys)
        (λ y c. elim (contains_either xs ys y c)
        [ inl a ↦ member_has _ xs y p.0 a | inr b ↦ less x y (contains_first x xs) b ]),
    ascending_joined xs ys p.1 q (λ y z c d. less y z (contains_behind x xs y c) d),
  )

  -- the list of no members
  pub nothing_listed : (Member : A → Type 0) → ((x : A) → ¬ (Member x)) → IsListOf cmp Member []
  unfolding IsStrictlySortedBy
  nothing_listed Member none =
      record { ascending = tt; members = λ x. (λ c. absurd (contains_nothing x c), λ m. absurd (none x m)) }

  -- the list of one member
  pub one_listed : (Member : A → Type 0) (x : A) → Member x → ((y : A) → Member y → y ≡ x)
      → IsListOf cmp Member (x ∷ [])
  unfolding IsStrictlySortedBy
  one_listed Member x is only = grind (arith, contains_cases, contains_nothing, contains_first)

  -- the list of a set of one member at most
  pub only_listed : (Member : A → Type 0) (o : Option A) → IsOnly Member o → IsListOf cmp Member (option_to_list o)
  only_listed Member None only = nothing_listed Member only
  only_listed Member (Some x) only = one_listed Member x only.0 only.1

  -- the list of two sets, of which one lies below the other
  pub joined : (P Q : A → Type 0) (xs ys : List A) → IsListOf cmp P xs → IsListOf cmp Q ys
      → ((x y : A) → P x → Q y → cmp x y ≡ Less) → IsListOf cmp (λ x. P x ⊎ Q x) (xs ++ ys)
  joined P Q xs ys p q less = record {
    ascending =
        ascending_joined xs ys p.ascending q.ascending (λ x y c d. less x y ((p.members x).0 c) ((q.members y).0 d));
    members =
        λ x. (
          λ c. grind (arith, contains_either xs ys x c, p.members x, q.members x),
          λ m.
              grind (arith, contains_front xs ys x, contains_back xs ys x, p.members x, q.members x),
        );
  }

  -- one more member, if there is one, above all others
  pub one_more : (P Q : A → Type 0) (xs : List A) (o : Option A) → IsListOf cmp P xs → IsOnly Q o
      → ((x y : A) → P x → Q y → cmp x y ≡ Less) → IsListOf cmp (λ x. P x ⊎ Q x) (xs ++ option_to_list o)
  one_more P Q xs o p q less = joined P Q xs (option_to_list o) p (only_listed Q o q) less

  -- the same members in other words
  pub same_members : (P Q : A → Type 0) (xs : List A) → ((x : A) → P x → Q x) → ((x : A) → Q x → P x)
      → IsListOf cmp P xs → IsListOf cmp Q xs
  same_members P Q xs to from p =
      record {
        ascending = p.ascending;
        members = λ x.
            (λ c. to x ((p.members x).0 c), λ q. (p.members x).1 (from x q));
      }

  module _ (total : IsTotalOrder cmp) where
    never_both : (x y : A) → cmp x y ≡ Less → cmp y x ≡ Less → ⊥
    never_both x y p q = let e : Less ≡ Greater = sym p ∙ total.antisymm x y ∙ ap ordering_reverse q in cc

    never_itself : (x y : A) → x ≡ y → cmp x y ≡ Less → ⊥
    never_itself x y e p = let self : cmp x x ≡ Less = subst (λ z. cmp x z ≡ Less) (sym e) p in never_both x x self self

    same_first : (x y : A) (xs ys : List A) → IsStrictlySortedBy cmp (x ∷ xs) → IsStrictlySortedBy cmp (y ∷ ys)
        → Contains (y ∷ ys) x → Contains (x ∷ xs) y → x ≡ y
    unfolding IsStrictlySortedBy
    same_first x y xs ys p q c d =
        grind (
          arith,
          contains_cases y ys x c,
          contains_cases x xs y d,
          never_both x y,
          member_has _ xs y p.0,
          member_has _ ys x q.0,
        )

    -- a member after the first of one list stands after the same first of the other
    behind_too : (x y : A) (xs ys : List A) → x ≡ y → AllByRecursion (λ z. cmp x z ≡ Less) xs
        → ((z : A) → Contains (x ∷ xs) z → Contains (y ∷ ys) z) → (z : A) → Contains xs z → Contains ys z
    behind_too x y xs ys e less to z c =
        grind (
          arith,
          contains_cases y ys z (to z (contains_behind x xs z c)),
          member_has _ xs z less c,
          contains_behind,
          never_itself,
        )

    -- two ascending lists with the same members are one
    pub same_lists : (xs ys : List A) → IsStrictlySortedBy cmp xs → IsStrictlySortedBy cmp ys
        → ((z : A) → Contains xs z → Contains ys z) → ((z : A) → Contains ys z → Contains xs z) → xs ≡ ys
    unfolding IsStrictlySortedBy
    same_lists [] [] p q to from = refl
    same_lists [] (y ∷ ys) p q to from = absurd (contains_nothing y (from y (contains_first y ys)))
    same_lists (x ∷ xs) [] p q to from = absurd (contains_nothing x (to x (contains_first x xs)))
    same_lists (x ∷ xs) (y ∷ ys) p q to from =
        let e : x ≡ y = same_first x y xs ys p q (to x (contains_first x xs)) (from y (contains_first y ys)) in
        let rest : xs ≡ ys =
        same_lists xs ys p.1 q.1 (behind_too x y xs ys e p.0 to) (behind_too y x ys xs (sym e) q.0 from) in
        λ i. e i ∷ rest i

    -- there is one list of a set
    pub one_list : (Member : A → Type 0) (xs ys : List A) → IsListOf cmp Member xs → IsListOf cmp Member ys → xs ≡ ys
    one_list Member xs ys p q =
        same_lists xs ys p.ascending q.ascending (λ z c. (q.members z).1 ((p.members z).0 c)) (λ z c.
        (p.members z).1 ((q.members z).0 c))
