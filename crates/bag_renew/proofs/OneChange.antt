-- What changes of single files leave at each path.
use Rattle.bag_renew.proofs.Common.{◌≡◌, ◌≢◌, ◌&&◌, ◌∷◌, ℕ, zero, suc, inl, inr, Bool, true, false, not, cond, List}
use Rattle.bag_renew.proofs.Common.{[], Option, None, Some, is_some, refl, ap, sym, ◌∙◌, take, fold}
use Rattle.bag_renew.proofs.Common.{false_from_ne_true, false≢true, nat_list_cmp_total, get-insert, get-retain_keys}
use Rattle.bag_renew.proofs.Common.{contains-remove, same_set, AllByRecursion, eq_by_cmp, is_base_name}
use Rattle.bag_renew.proofs.Common.{under, text_cmp, base_not_under, exact_texts, one_text}
use Rattle.bag_renew.proofs.Common.{text_itself, within_cases, Bag, IsBag, file, has_folder}
use Rattle.bag_renew.proofs.Common.{◌⊎◌, after_changes, changed, is_within, FileChange, Put, Remove}
use Rattle.std.specs.FinSet as set
use Rattle.bag_tree.proofs.Within.{itself_within}
use Rattle.bag_tree.specs.Cut.{lose}

-- the name of the file that is changed
abbrev pub name_of : FileChange → List ℕ
name_of (Put name bytes) = name
name_of (Remove name) = name

-- what stands at a path after a change, where this stood
abbrev pub with_change : FileChange → List ℕ → Option (List ℕ) → Option (List ℕ)
with_change (Put name bytes) q o = cond (eq_by_cmp text_cmp q name) (Some bytes) o
with_change (Remove name) q o = cond (eq_by_cmp text_cmp q name) None o

abbrev pub with_changes : List FileChange → List ℕ → Option (List ℕ) → Option (List ℕ)
with_changes changes q o = fold (λ o change. with_change change q o) o changes

-- a name in the base folder that no folder has
abbrev pub IsFileName : Bag → List ℕ → Type 0
IsFileName bag name = (is_base_name name ≡ true) × (has_folder bag name ≡ false)

abbrev pub AreOfFiles : Bag → List FileChange → Type 0
AreOfFiles bag changes = AllByRecursion (λ change. IsFileName bag (name_of change)) changes

-- no file stands below such a name, and the folders are those of the bag
pub record IsLevel (bag b : Bag) : Type 0 where
  pub below : (name rest content : List ℕ) → IsFileName bag name → file b (under name rest) ≡ Some content → ⊥
  pub folders : b.folders ≡ bag.folders

at_lost : (name q : List ℕ) (d : Bag) → file (lose name d) q ≡ cond (not (is_within name q)) (file d q) None
unfolding lose
at_lost name q d =
    get-retain_keys d.files (λ p. not (is_within name p)) q (λ x same.
    ap (λ p. not (is_within name p)) (sym (exact_texts q x same)))

not_equal : (p q : List ℕ) → p ≢ q → eq_by_cmp text_cmp p q ≡ false
not_equal p q differ = false_from_ne_true _ (λ same. differ (one_text p q same))

module _ (bag : Bag) where
  pub itself_level : IsBag bag → IsLevel bag bag
  itself_level is = record {
    below = λ name rest content is_name at.
        false≢true (sym is_name.1 ∙ is.parents name rest is_name.0 (ap is_some at));
    folders = refl;
  }

  -- one change
  pub at_change : (change : FileChange) (b : Bag) → IsFileName bag (name_of change) → IsLevel bag b → (q : List ℕ)
      → file (changed change b) q ≡ with_change change q (file b q)
  at_change (Put name bytes) b is level q = get-insert nat_list_cmp_total b.files name bytes q
  at_change (Remove name) b is level q = at_lost name q b ∙ by_place (is_within name q) refl
    where
      none_below : (rest : List ℕ) (o : Option (List ℕ)) → file b (under name rest) ≡ o → file b (under name rest) ≡ None
      none_below rest None at = at
      none_below rest (Some c) at = absurd (level.below name rest c is at)

      by_place : (w : Bool) → is_within name q ≡ w
          → cond (not w) (file b q) None ≡ cond (eq_by_cmp text_cmp q name) None (file b q)
      by_place false out =
          sym (ap (λ t. cond t None (file b q))
          (not_equal q name (λ same. false≢true (sym out ∙ ap (is_within name) same ∙ itself_within name))))
      by_place true within = elim (within_cases name q within) [
        | inl itself ↦
            sym (ap (λ t. cond t None (file b q)) (ap (λ p. eq_by_cmp text_cmp p name) itself ∙ text_itself name))
        | inr below ↦
            sym (ap (λ t. cond t None (file b q))
            (not_equal q name (λ same. base_not_under name name below.0 is.0 (sym same ∙ below.1)))
            ∙ ap (file b) below.1 ∙ none_below below.0 (file b (under name below.0)) refl)
      ]

  no_member : (q n : List ℕ) (b : Bag) → has_folder b n ≡ false → (t : Bool) → eq_by_cmp text_cmp q n ≡ t
      → (not t && has_folder b q) ≡ has_folder b q
  no_member q n b absent true same = sym (ap (has_folder b) (one_text q n same) ∙ absent)
  no_member q n b absent false differ = refl

  same_folders : (change : FileChange) (b : Bag) → IsFileName bag (name_of change) → b.folders ≡ bag.folders
      → (changed change b).folders ≡ b.folders
  unfolding lose
  same_folders (Put name bytes) b is folders = refl
  same_folders (Remove name) b is folders =
      let absent : has_folder b name ≡ false = ap (λ s. set.contains s name) folders ∙ is.1 in
      same_set nat_list_cmp_total exact_texts (set.remove b.folders name) b.folders (λ q.
      contains-remove nat_list_cmp_total b.folders name q
      ∙ no_member q name b absent (eq_by_cmp text_cmp q name) refl)

  still_none : (change : FileChange) (q : List ℕ) (o : Option (List ℕ)) → (c : List ℕ) → with_change change q o ≡ Some c
      → (o ≡ Some c) ⊎ (q ≡ name_of change)
  still_none (Put name bytes) q o c at = by_test (eq_by_cmp text_cmp q name) refl at
    where
      by_test : (t : Bool) → eq_by_cmp text_cmp q name ≡ t → cond t (Some bytes) o ≡ Some c
          → (o ≡ Some c) ⊎ (q ≡ name)
      by_test true same at = inr (one_text q name same)
      by_test false differ at = inl at
  still_none (Remove name) q o c at = by_test (eq_by_cmp text_cmp q name) refl at
    where
      by_test : (t : Bool) → eq_by_cmp text_cmp q name ≡ t → cond t None o ≡ Some c → (o ≡ Some c) ⊎ (q ≡ name)
      by_test true same at = inr (one_text q name same)
      by_test false differ at = inl at

  pub level_on : (change : FileChange) (b : Bag) → IsFileName bag (name_of change) → IsLevel bag b
      → IsLevel bag (changed change b)
  level_on change b is level = record {
    below = λ name rest content is_name at.
        elim (still_none change (under name rest) (file b (under name rest)) content
        (sym (at_change change b is level (under name rest)) ∙ at)) [
          | inl old ↦ level.below name rest content is_name old
          | inr same ↦ base_not_under (name_of change) name rest is.0 (sym same)
        ];
    folders = same_folders change b is level.folders ∙ level.folders;
  }

  -- and all
  pub at_changes : (changes : List FileChange) (b : Bag) → AreOfFiles bag changes → IsLevel bag b → (q : List ℕ)
      → file (after_changes changes b) q ≡ with_changes changes q (file b q)
  at_changes [] b are level q = refl
  at_changes (change ∷ changes) b are level q =
      at_changes changes (changed change b) are.1 (level_on change b are.0 level) q
      ∙ ap (with_changes changes q) (at_change change b are.0 level q)

  pub all_level : (changes : List FileChange) (b : Bag) → AreOfFiles bag changes → IsLevel bag b
      → IsLevel bag (after_changes changes b)
  all_level [] b are level = level
  all_level (change ∷ changes) b are level =
      all_level changes (changed change b) are.1 (level_on change b are.0 level)

  pub first_are : (k : ℕ) (changes : List FileChange) → AreOfFiles bag changes → AreOfFiles bag (take k changes)
  first_are zero changes are = tt
  first_are (suc k) [] are = tt
  first_are (suc k) (change ∷ changes) are = (are.0, first_are k changes are.1)

  -- a file below a folder stays
  pub stays_below : (changes : List FileChange) (folder rest : List ℕ) (o : Option (List ℕ)) → AreOfFiles bag changes
      → with_changes changes (under folder rest) o ≡ o
  stays_below [] folder rest o are = refl
  stays_below (change ∷ changes) folder rest o are =
      ap (with_changes changes (under folder rest)) (one change are.0) ∙ stays_below changes folder rest o are.1
    where
      one : (change : FileChange) → IsFileName bag (name_of change) → with_change change (under folder rest) o ≡ o
      one (Put name bytes) is =
          ap (λ t. cond t (Some bytes) o)
          (not_equal (under folder rest) name (λ same. base_not_under name folder rest is.0 (sym same)))
      one (Remove name) is =
          ap (λ t. cond t None o)
          (not_equal (under folder rest) name (λ same. base_not_under name folder rest is.0 (sym same)))
