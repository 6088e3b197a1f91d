-- Each change of a renewal can be made after those before it.
use Rattle.bag_renew.proofs.Common.{◌≡◌, ◌≢◌, ◌++◌, ◌∷◌, inl, inr, ℕ, Bool, true, false, cond, List, [], Option}
use Rattle.bag_renew.proofs.Common.{None, Some, is_some, refl, sym, ap, ◌∙◌, false_from_ne_true, false≢true}
use Rattle.bag_renew.proofs.Common.{AllByRecursion, eq_by_cmp, text_cmp, one_text, text_itself}
use Rattle.bag_renew.proofs.Common.{is_base_name, tag_path, TagName, Manifest, Tag, Alg, Bag, IsBag, file}
use Rattle.bag_renew.proofs.Common.{has_file, in_base, after_changes, changed}
use Rattle.bag_renew.proofs.Common.{FileChange, Put, Remove, begun_file, changes, clearing, opening, algs_where}
use Rattle.bag_renew.proofs.Common.{has_tag_manifest, IsOutOfTheWay, Renewal, removals_of}
use Rattle.std.specs.FinSet as set
use Rattle.bag_tree.specs.FileChanges.{CanChange, CanChangeAll, IsFree, IsNoFolder}
use Rattle.bag_changes.specs.Laws.{ChangesCanBeMade}
use Rattle.bag_renew.proofs.ChangedNames.{back, of_back, of_clearing, of_removes}
use Rattle.bag_facts.proofs.Found.{none_there}
use Rattle.bag_renew.proofs.ManyChanges.{not_named_all}
use Rattle.bag_renew.proofs.OneChange.{AreOfFiles, IsFileName, IsLevel, all_level, at_change, at_changes}
use Rattle.bag_renew.proofs.OneChange.{itself_level, level_on, name_of, with_change, with_changes}
use Rattle.bag_changes.proofs.Staying.{IsWritten, no_begun}
use Rattle.bag_changes.proofs.ReservedNames.{begun_is_reserved, is_reserved}

can_append : (xs ys : List FileChange) (b : Bag) → CanChangeAll begun_file xs b
    → CanChangeAll begun_file ys (after_changes xs b) → CanChangeAll begun_file (xs ++ ys) b
can_append [] ys b first later = later
can_append (x ∷ xs) ys b first later = (first.0, can_append xs ys (changed x b) first.1 later)

-- removals can always be made
abbrev IsRemoval : FileChange → Type 0
IsRemoval (Put name bytes) = ⊥
IsRemoval (Remove name) = is_base_name name ≡ true

can_remove : (cs : List FileChange) (b : Bag) → AllByRecursion IsRemoval cs → CanChangeAll begun_file cs b
can_remove [] b all = tt
can_remove (Put name bytes ∷ cs) b all = absurd all.0
can_remove (Remove name ∷ cs) b all = (all.0, can_remove cs (changed (Remove name) b) all.1)

module _ (bag : Bag) (way : IsOutOfTheWay bag) where
  no_folder : (b : Bag) (name : List ℕ) → IsLevel bag b → IsFileName bag name → IsNoFolder b name
  no_folder b name level is = record {
    absent = ap (λ s. set.contains s name) level.folders ∙ is.1;
    below = λ rest content at. level.below name rest content is at;
  }

  is_free : (b : Bag) → IsLevel bag b → file b begun_file ≡ None → IsFree b begun_file
  is_free b level none = record {
    no_folder = ap (λ s. set.contains s begun_file) level.folders ∙ way begun_file begun_is_reserved;
    no_file = none_there b begun_file (λ q c at within. elim within [
      | inl itself ↦ false≢true (sym (ap is_some none) ∙ ap (λ p. is_some (file b p)) (sym itself) ∙ ap is_some at)
      | inr below ↦ level.below begun_file below.0 c (refl, way begun_file begun_is_reserved)
          (ap (file b) (sym below.1) ∙ at)
    ]);
  }

  still_none : (change : FileChange) → begun_file ≢ name_of change → with_change change begun_file None ≡ None
  still_none (Put name bytes) other =
      ap (λ t. cond t (Some bytes) None) (false_from_ne_true _ (λ same. other (one_text begun_file name same)))
  still_none (Remove name) other = both (eq_by_cmp text_cmp begun_file name)
    where
      both : (t : Bool) → cond {A = Option (List ℕ)} t None None ≡ None
      both true = refl
      both false = refl

  one_can : (change : FileChange) (b : Bag) → IsFileName bag (name_of change) → begun_file ≢ name_of change
      → IsLevel bag b → file b begun_file ≡ None → CanChange begun_file change b
  one_can (Put name bytes) b is other level none = (is.0, other, is_free b level none, no_folder b name level is)
  one_can (Remove name) b is other level none = is.0

  -- once nothing has the name of the begun file
  can_rest : (cs : List FileChange) (b : Bag) → AreOfFiles bag cs
      → AllByRecursion (λ c. begun_file ≢ name_of c) cs → IsLevel bag b → file b begun_file ≡ None
      → CanChangeAll begun_file cs b
  can_rest [] b are others level none = tt
  can_rest (c ∷ cs) b are others level none = (
    one_can c b are.0 others.0 level none,
    can_rest cs (changed c b) are.1 others.1 (level_on bag c b are.0 level)
        (at_change bag c b are.0 level begun_file ∙ ap (with_change c begun_file) none ∙ still_none c others.0),
  )

module _ (bag : Bag) (renewal : Renewal) (is : IsBag bag) (way : IsOutOfTheWay bag) where
  file_name : (tag : TagName) → IsWritten tag → IsFileName bag (tag_path tag)
  file_name tag written = (in_base tag, way (tag_path tag) (is_reserved tag written))

  opening_are : AreOfFiles bag (opening bag renewal)
  opening_are = of_removes bag renewal (IsFileName bag) file_name Tag (algs_where (has_tag_manifest bag))

  clearing_are : AreOfFiles bag (clearing bag renewal)
  clearing_are =
      of_clearing bag renewal (IsFileName bag) file_name (refl, way begun_file begun_is_reserved)
      (has_file bag begun_file)

  back_others : AllByRecursion (λ c. begun_file ≢ name_of c) (back bag renewal)
  back_others = of_back bag renewal (λ n. begun_file ≢ n) (λ tag written. no_begun tag)

  opening_others : AllByRecursion (λ c. begun_file ≢ name_of c) (opening bag renewal)
  opening_others =
      of_removes bag renewal (λ n. begun_file ≢ n) (λ tag written. no_begun tag) Tag
      (algs_where (has_tag_manifest bag))

  removals : (some : List Alg) → AllByRecursion IsRemoval (removals_of Tag some)
  removals [] = tt
  removals (alg ∷ some) = (in_base (Manifest Tag alg), removals some)

  cleared : (b : Bool) → AllByRecursion IsRemoval (cond b (Remove begun_file ∷ []) [])
  cleared true = (refl, tt)
  cleared false = tt

  abbrev opened : Bag
  opened = after_changes (opening bag renewal) bag

  abbrev ready : Bag
  ready = after_changes (clearing bag renewal) opened

  opened_level : IsLevel bag opened
  opened_level = all_level bag (opening bag renewal) bag opening_are (itself_level bag is)

  ready_level : IsLevel bag ready
  ready_level = all_level bag (clearing bag renewal) opened clearing_are opened_level

  -- nothing has the name of the begun file then
  none_begun : file ready begun_file ≡ None
  none_begun =
      at_changes bag (clearing bag renewal) opened clearing_are opened_level begun_file
      ∙ ap (with_changes (clearing bag renewal) begun_file)
      (at_changes bag (opening bag renewal) bag opening_are (itself_level bag is) begun_file
      ∙ not_named_all (opening bag renewal) begun_file (file bag begun_file) opening_others)
      ∙ by_test (has_file bag begun_file) (file bag begun_file) refl
    where
      by_test : (b : Bool) (o : Option (List ℕ)) → is_some o ≡ b
          → with_changes (cond b (Remove begun_file ∷ []) []) begun_file o ≡ None
      by_test true o there = ap (λ t. cond t None o) (text_itself begun_file)
      by_test false None there = refl
      by_test false (Some c) there = absurd (false≢true (sym there))

  pub can_change : CanChangeAll begun_file (changes bag renewal) bag
  can_change =
      can_append (opening bag renewal) (clearing bag renewal ++ back bag renewal) bag
      (can_remove (opening bag renewal) bag (removals (algs_where (has_tag_manifest bag))))
      (can_append (clearing bag renewal) (back bag renewal) opened
      (can_remove (clearing bag renewal) opened (cleared (has_file bag begun_file)))
      (can_rest bag way (back bag renewal) ready (of_back bag renewal (IsFileName bag) file_name) back_others
      ready_level none_begun))

pub changes_can_be_made : ChangesCanBeMade
changes_can_be_made bag renewal is way = can_change bag renewal is way
