-- What stands in a made bag, path by path.
use Rattle.bag_make.proofs.Common.{arith, ◌≡◌, ◌≢◌, ◌⊎◌, inl, inr, ℕ, Bool, true, false, not, ◌&&◌, ◌||◌, List, map}
use Rattle.bag_make.proofs.Common.{bytes_eq, Some, is_some, sym, ap, subst, ◌∙◌, Contains, nat_list_cmp_total}
use Rattle.bag_make.proofs.Common.{contains-insert, contains-retain, list_any, eq_by_cmp, and_parts, and_from}
use Rattle.bag_make.proofs.Common.{both_ways, false_from_ne_true, not-true, or_cases, or_left, or_right}
use Rattle.bag_make.proofs.Common.{bytes_eq-Decides, first_component, text_cmp, Alg, Bag, HasFile, file, files_of}
use Rattle.bag_make.proofs.Common.{has_folder, one_text, text_itself, exact_texts, contains_mapped, mapped_contains}
use Rattle.bag_make.proofs.Common.{NewElement, IsMoved, IsNew, MadeHasTheseFiles, MadeHasTheseFolders, File}
use Rattle.bag_make.proofs.Common.{data_folder}
use Rattle.std.specs.FinSet as set
use Rattle.std.specs.Cmp.Lexicographic.{nat_list_eq_equiv}
use Rattle.std.proofs.lemmas.Map.Views.{Contains-from_any, list_any-from_Contains}
use Rattle.bag_make.specs.Made.{made}
use Rattle.bag_facts.proofs.Found.{content_of, held_at, listed}
use Rattle.bag_make.proofs.Held.{held_is, payload_there, tag_there}

module _ (bag : Bag) (algs : List Alg) (info : List NewElement) (path content : List ℕ) where
  from_file : file (made bag algs info) path ≡ Some content
      → IsMoved bag path content ⊎ IsNew bag algs info path content
  from_file e =
      elim (held_is bag algs info path content e)
      [ inl (old, at, there) ↦ inl (old, at, held_at bag.files old content there) | inr h ↦ inr h ]

  to_file : IsMoved bag path content ⊎ IsNew bag algs info path content → file (made bag algs info) path ≡ Some content
  to_file (inl (old, at, is)) =
      ap (file (made bag algs info)) at ∙ payload_there bag algs info old content (listed bag.files old content is)
  to_file (inr (name, at, is)) = ap (file (made bag algs info)) at ∙ tag_there bag algs info name content is

pub these_files : MadeHasTheseFiles
these_files bag algs info path content = (from_file bag algs info path content, to_file bag algs info path content)

-- the folders that are left
module _ (bag : Bag) where
  abbrev pub firsts : List (List ℕ)
  firsts = map (λ (e : File). first_component e.0) (files_of bag)

  pub first_in : (path : List ℕ) → HasFile bag path → Contains firsts (first_component path)
  first_in path has =
      let c =
      content_of (file bag path) has
      in mapped_contains (λ (e : File). first_component e.0) (files_of bag) (path, c.0)
      (listed bag.files path c.0 c.1)

  pub in_first : (name : List ℕ) → Contains firsts name
      → (path : List ℕ) × HasFile bag path × (first_component path ≡ name)
  in_first name there =
      let e =
      contains_mapped (λ (e : File). first_component e.0) (files_of bag) name there
      in (e.0.0, ap is_some (held_at bag.files e.0.0 e.0.1 e.1), e.2)

  abbrev stays : List ℕ → Bool
  stays q = not (list_any (bytes_eq q) firsts)

  pub left_test : (algs : List Alg) (info : List NewElement) (name : List ℕ)
      → has_folder (made bag algs info) name
      ≡ (eq_by_cmp text_cmp name data_folder || (has_folder bag name && stays name))
  unfolding made
  left_test algs info name =
      contains-insert nat_list_cmp_total (set.retain bag.folders stays) data_folder name
      ∙ ap (λ b. eq_by_cmp text_cmp name data_folder || b)
      (contains-retain bag.folders stays name (λ q same. ap stays (sym (exact_texts name q same))))

  module _ (name : List ℕ) where
    abbrev HoldsNone : Type 0
    HoldsNone = (path : List ℕ) → HasFile bag path → first_component path ≢ name

    none_in : list_any (bytes_eq name) firsts ≡ false → HoldsNone
    none_in none path has same =
        both_ways _ none
        (list_any-from_Contains nat_list_eq_equiv name firsts (subst (Contains firsts) same (first_in path has)))

    is_none : HoldsNone → list_any (bytes_eq name) firsts ≡ false
    is_none none = false_from_ne_true (list_any (bytes_eq name) firsts) (λ some.
        let e =
        in_first name (Contains-from_any (λ x y is. (bytes_eq-Decides x y).0 is) name firsts some)
        in none e.0 e.1 e.2)

    abbrev IsLeft : Type 0
    IsLeft = (name ≡ data_folder) ⊎ ((has_folder bag name ≡ true) × HoldsNone)

    left : (eq_by_cmp text_cmp name data_folder || (has_folder bag name && stays name)) ≡ true → IsLeft
    left e = grind (arith, or_cases, one_text, and_parts, none_in, not-true)

    is_left : IsLeft → (eq_by_cmp text_cmp name data_folder || (has_folder bag name && stays name)) ≡ true
    is_left (inl same) =
        or_left (eq_by_cmp text_cmp name data_folder) _
        (ap (λ q. eq_by_cmp text_cmp q data_folder) same ∙ text_itself data_folder)
    is_left (inr (has, none)) =
        or_right (eq_by_cmp text_cmp name data_folder) _
        (and_from (has_folder bag name) (stays name) has (ap not (is_none none)))

pub these_folders : MadeHasTheseFolders
these_folders bag algs info name = (
  λ has. left bag name (sym (left_test bag algs info name) ∙ has),
  λ h.
      left_test bag algs info name ∙ is_left bag name h,
)
