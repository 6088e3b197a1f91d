-- What many changes of single files leave at a path.
use Rattle.bag_renew.proofs.Common.{◌≡◌, ◌≢◌, ◌++◌, ◌∷◌, ◌⊎◌, inl, inr, ℕ, Bool, true, false, cond, List, [], map}
use Rattle.bag_renew.proofs.Common.{Option, None, Some, is_some, refl, sym, ap, ◌∙◌, subst, Contains, All-contains}
use Rattle.bag_renew.proofs.Common.{All-from_recursion, AllByRecursion, false_from_ne_true, false≢true}
use Rattle.bag_renew.proofs.Common.{contains_behind, contains_cases, contains_first, contains_nothing, eq_by_cmp}
use Rattle.bag_renew.proofs.Common.{text_cmp, one_text, text_itself, FileChange, Put, Remove}
use Rattle.bag_renew.proofs.OneChange.{name_of, with_change, with_changes}

pub all_both : {A : Type 0} (P : A → Type 0) (xs ys : List A) → AllByRecursion P xs → AllByRecursion P ys
    → AllByRecursion P (xs ++ ys)
all_both P [] ys a b = b
all_both P (x ∷ xs) ys a b = (a.0, all_both P xs ys a.1 b)

all_mapped : {A B : Type 0} (P : B → Type 0) (f : A → B) → ((x : A) → P (f x)) → (xs : List A)
    → AllByRecursion P (map f xs)
all_mapped P f each [] = tt
all_mapped P f each (x ∷ xs) = (each x, all_mapped P f each xs)

-- where no change is of this path
pub not_named : (cs : List FileChange) (q : List ℕ) (o : Option (List ℕ))
    → ((c : FileChange) → Contains cs c → q ≢ name_of c) → with_changes cs q o ≡ o
not_named [] q o none = refl
not_named (c ∷ cs) q o none =
    ap (with_changes cs q) (one c (none c (contains_first c cs)))
    ∙ not_named cs q o (λ d has. none d (contains_behind c cs d has))
  where
    one : (c : FileChange) → q ≢ name_of c → with_change c q o ≡ o
    one (Put name bytes) differ =
        ap (λ t. cond t (Some bytes) o) (false_from_ne_true _ (λ same. differ (one_text q name same)))
    one (Remove name) differ =
        ap (λ t. cond t None o) (false_from_ne_true _ (λ same. differ (one_text q name same)))

-- the same, where that is known of each
pub not_named_all : (cs : List FileChange) (q : List ℕ) (o : Option (List ℕ)) → AllByRecursion (λ c. q ≢ name_of c) cs
    → with_changes cs q o ≡ o
not_named_all cs q o all =
    not_named cs q o (λ c has. All-contains (λ c. q ≢ name_of c) cs c (All-from_recursion (λ c. q ≢ name_of c) cs all) has)

-- what stands there was put, or stood there, and no change is of this path
pub came_from : (cs : List FileChange) (q c : List ℕ) (o : Option (List ℕ)) → with_changes cs q o ≡ Some c
    → Contains cs (Put q c) ⊎ ((o ≡ Some c) × ((d : FileChange) → Contains cs d → q ≢ name_of d))
came_from [] q c o at = inr (at, λ d has. absurd (contains_nothing d has))
came_from (d ∷ cs) q c o at = elim (came_from cs q c (with_change d q o) at) [
  | inl later ↦ inl (contains_behind d cs (Put q c) later)
  | inr here ↦ one d refl here.0 here.1
]
  where
    none_of : (e : FileChange) → q ≢ name_of e → ((f : FileChange) → Contains cs f → q ≢ name_of f)
        → (f : FileChange) → Contains (e ∷ cs) f → q ≢ name_of f
    none_of e first rest f has = elim (contains_cases e cs f has) [
      | inl same ↦ λ at. first (at ∙ ap name_of (sym same))
      | inr more ↦ rest f more
    ]

    by_put : (name bytes : List ℕ) → d ≡ Put name bytes → (t : Bool) → eq_by_cmp text_cmp q name ≡ t
        → cond t (Some bytes) o ≡ Some c → ((f : FileChange) → Contains cs f → q ≢ name_of f)
        → Contains (d ∷ cs) (Put q c) ⊎ ((o ≡ Some c) × ((f : FileChange) → Contains (d ∷ cs) f → q ≢ name_of f))
    by_put name bytes is true same at rest =
        let content : bytes ≡ c = cc in
        let whole : d ≡ Put q c = is ∙ (λ i. Put (sym (one_text q name same) i) (content i)) in
        inl (subst (λ e. Contains (d ∷ cs) e) whole (contains_first d cs))
    by_put name bytes is false differ at rest =
        inr (
          at,
          none_of d (λ same. false≢true (sym differ ∙ ap (λ p. eq_by_cmp text_cmp p name)
              (same ∙ ap name_of is) ∙ text_itself name)) rest,
        )

    by_remove : (name : List ℕ) → d ≡ Remove name → (t : Bool) → eq_by_cmp text_cmp q name ≡ t
        → cond t None o ≡ Some c → ((f : FileChange) → Contains cs f → q ≢ name_of f)
        → Contains (d ∷ cs) (Put q c) ⊎ ((o ≡ Some c) × ((f : FileChange) → Contains (d ∷ cs) f → q ≢ name_of f))
    by_remove name is true same at rest = absurd (false≢true (ap is_some at))
    by_remove name is false differ at rest =
        inr (
          at,
          none_of d (λ same. false≢true (sym differ ∙ ap (λ p. eq_by_cmp text_cmp p name)
              (same ∙ ap name_of is) ∙ text_itself name)) rest,
        )

    one : (e : FileChange) → d ≡ e → with_change d q o ≡ Some c → ((f : FileChange) → Contains cs f → q ≢ name_of f)
        → Contains (d ∷ cs) (Put q c) ⊎ ((o ≡ Some c) × ((f : FileChange) → Contains (d ∷ cs) f → q ≢ name_of f))
    one (Put name bytes) is at rest =
        by_put name bytes is (eq_by_cmp text_cmp q name) refl (sym (ap (λ e. with_change e q o) is) ∙ at) rest
    one (Remove name) is at rest =
        by_remove name is (eq_by_cmp text_cmp q name) refl (sym (ap (λ e. with_change e q o) is) ∙ at) rest

-- what is put stands there, where no other bytes are put there, and nothing is removed
pub put_stays : (cs : List FileChange) (q c : List ℕ) (o : Option (List ℕ)) → Contains cs (Put q c) ⊎ (o ≡ Some c)
    → ((d : List ℕ) → Contains cs (Put q d) → d ≡ c) → (Contains cs (Remove q) → ⊥)
    → with_changes cs q o ≡ Some c
put_stays [] q c o (inl has) one none = absurd (contains_nothing (Put q c) has)
put_stays [] q c o (inr at) one none = at
put_stays (d ∷ cs) q c o has one none =
    put_stays cs q c (with_change d q o) (next d refl has) (λ e more. one e (contains_behind d cs (Put q e) more))
    (λ more. none (contains_behind d cs (Remove q) more))
  where
    here_put : (name bytes : List ℕ) → d ≡ Put name bytes → (t : Bool) → eq_by_cmp text_cmp q name ≡ t
        → Contains cs (Put q c) ⊎ (d ≡ Put q c) ⊎ (o ≡ Some c)
        → Contains cs (Put q c) ⊎ (cond t (Some bytes) o ≡ Some c)
    here_put name bytes is true same has =
        inr (ap Some (one bytes (subst (λ e. Contains (d ∷ cs) e)
        (is ∙ ap (λ p. Put p bytes) (sym (one_text q name same))) (contains_first d cs))))
    here_put name bytes is false differ (inl later) = inl later
    here_put name bytes is false differ (inr (inr at)) = inr at
    here_put name bytes is false differ (inr (inl itself)) =
        absurd (false≢true (sym differ ∙ ap (λ p. eq_by_cmp text_cmp q p) (ap name_of (sym is ∙ itself))
        ∙ text_itself q))

    here_remove : (name : List ℕ) → d ≡ Remove name → (t : Bool) → eq_by_cmp text_cmp q name ≡ t
        → Contains cs (Put q c) ⊎ (d ≡ Put q c) ⊎ (o ≡ Some c)
        → Contains cs (Put q c) ⊎ (cond t None o ≡ Some c)
    here_remove name is true same has =
        absurd (none (subst (λ e. Contains (d ∷ cs) e) (is ∙ ap Remove (sym (one_text q name same)))
        (contains_first d cs)))
    here_remove name is false differ (inl later) = inl later
    here_remove name is false differ (inr (inr at)) = inr at
    here_remove name is false differ (inr (inl itself)) =
        let clash : Remove name ≡ Put q c = sym is ∙ itself in cc

    parts : Contains (d ∷ cs) (Put q c) ⊎ (o ≡ Some c) → Contains cs (Put q c) ⊎ (d ≡ Put q c) ⊎ (o ≡ Some c)
    parts (inr at) = inr (inr at)
    parts (inl has) = elim (contains_cases d cs (Put q c) has) [ inl same ↦ inr (inl same) | inr more ↦ inl more ]

    next : (e : FileChange) → d ≡ e → Contains (d ∷ cs) (Put q c) ⊎ (o ≡ Some c)
        → Contains cs (Put q c) ⊎ (with_change d q o ≡ Some c)
    next (Put name bytes) is has =
        subst (λ e. Contains cs (Put q c) ⊎ (with_change e q o ≡ Some c)) (sym is)
        (here_put name bytes is (eq_by_cmp text_cmp q name) refl (parts has))
    next (Remove name) is has =
        subst (λ e. Contains cs (Put q c) ⊎ (with_change e q o ≡ Some c)) (sym is)
        (here_remove name is (eq_by_cmp text_cmp q name) refl (parts has))
