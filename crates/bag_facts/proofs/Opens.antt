-- The files that were opened.
use Rattle.bag_facts.proofs.Common.{◌≡◌, ◌++◌, ◌∷◌, ℕ, List, [], sym, ap, ◌∙◌, subst, append-nil, AllByRecursion}
use Rattle.bag_facts.proofs.Common.{All-nil, All-cons, text_cmp, each_from_members, member_has, contains_front}
use Rattle.bag_facts.proofs.Common.{TreeState, FileEntry, IsWanted, AreWanted, OpensAll, OpensFirst, OpensWanted}
use Rattle.bag_facts.proofs.Common.{Options, All, IsStrictlySortedBy}

pub all_along : {A : Type 0} (P : A → Type 0) (xs : List A) → AllByRecursion P xs → All P xs
all_along P [] h = All-nil P
all_along P (x ∷ xs) h = All-cons P x xs h.0 (all_along P xs h.1)

pub front_ascends : (xs ys : List (List ℕ)) → IsStrictlySortedBy text_cmp (xs ++ ys) → IsStrictlySortedBy text_cmp xs
unfolding IsStrictlySortedBy
front_ascends [] ys s = tt
front_ascends (x ∷ xs) ys s =
    (each_from_members _ xs (λ y c. member_has _ (xs ++ ys) y s.0 (contains_front xs ys y c)), front_ascends xs ys s.1)

pub opens_none : (options : Options) (old new : TreeState) → new.openings ≡ old.openings → OpensWanted options old new
unfolding IsStrictlySortedBy
opens_none options old new e = ([], e ∙ sym (append-nil old.openings), tt, All-nil (IsWanted options))

-- the first of the wanted files are wanted files in path order
pub opens_wanted : (options : Options) (files : List FileEntry) (old new : TreeState) → OpensFirst options files old new
    → OpensWanted options old new
opens_wanted options files old new o = (
  o.0,
  o.3,
  front_ascends o.0 o.1 o.2.ascending,
  all_along (IsWanted options) o.0
      (each_from_members (IsWanted options) o.0 (λ path c. ((o.2.members path).0 (contains_front o.0 o.1 path c)).0)),
)

-- and so are all of them
pub opens_all_first : (options : Options) (files : List FileEntry) (old new : TreeState)
    → OpensAll options files old new → OpensFirst options files old new
opens_all_first options files old new o = (o.0, [], subst (AreWanted options files) (sym (append-nil o.0)) o.1, o.2)

-- a listing opens nothing
pub opens_later : (options : Options) (files : List FileEntry) (old mid new : TreeState) → mid.openings ≡ old.openings
    → OpensFirst options files mid new → OpensFirst options files old new
opens_later options files old mid new e o = (o.0, o.1, o.2, o.3 ∙ ap (λ before. before ++ o.0) e)

pub opens_all_later : (options : Options) (files : List FileEntry) (old mid new : TreeState) (paths : List (List ℕ))
    → mid.openings ≡ old.openings → AreWanted options files paths
    → new.openings ≡ mid.openings ++ paths → OpensAll options files old new
opens_all_later options files old mid new paths e are o = (paths, are, o ∙ ap (λ before. before ++ paths) e)

-- with all that were wanted no other is opened
pub opened_wanted : (options : Options) (files : List FileEntry) (old mid new : TreeState) (paths : List (List ℕ))
    → mid.openings ≡ old.openings → AreWanted options files paths
    → new.openings ≡ mid.openings ++ paths → OpensWanted options old new
opened_wanted options files old mid new paths e are o =
    opens_wanted options files old new
    (opens_all_first options files old new (opens_all_later options files old mid new paths e are o))
