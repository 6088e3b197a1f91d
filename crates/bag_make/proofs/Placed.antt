-- Where the files of a bag are while it is made.
use Rattle.bag_make.proofs.Common.{arith, ◌≡◌, ◌≢◌, ℕ, inl, inr, Bool, true, false, ◌||◌, cond, List, [], ◌∷◌, Some}
use Rattle.bag_make.proofs.Common.{is_some, bytes_eq, drop, map, append_assoc, ap, sym, ◌∙◌, subst, get-empty}
use Rattle.bag_make.proofs.Common.{AllByRecursion, list_any, false≢true, bytes_eq-Decides, slash, is_base_name}
use Rattle.bag_make.proofs.Common.{first_component, under, text_cmp, any_from, Bag, HasFile, file, files_of}
use Rattle.bag_make.proofs.Common.{first-under, Files, move_in, is_within, renamed, moved, within_cases, itself_within}
use Rattle.bag_make.proofs.Common.{under_within, not_within, goes_itself, goes_under, stays, data_folder, is_in_the_way}
use Rattle.bag_make.proofs.Common.{new_folder, after_steps, MoveIn}
use Rattle.std.specs.FinMap as fin
use Rattle.std.proofs.Math.Bool.{or-false, or_assoc}
use Rattle.bag_facts.proofs.Found.{content_of, held_at, listed}
use Rattle.bag_make.proofs.FirstParts.{first-name, parts}
use Rattle.bag_make.proofs.PutFiles.{from_put, to_put}

-- the files of the bag, each at its place, and no others
pub record IsPlaced (bag : Bag) (place : List ℕ → List ℕ) (files : Files) : Type 0 where
  pub from : (q c : List ℕ) → fin.get files q ≡ Some c → (p : List ℕ) × (q ≡ place p) × (file bag p ≡ Some c)
  pub to : (p c : List ℕ) → file bag p ≡ Some c → fin.get files (place p) ≡ Some c

nothing : (P : Type 0) (q c : List ℕ) → fin.get (fin.empty {R = text_cmp}) q ≡ Some c → P
nothing P q c is = absurd (false≢true (ap is_some (sym (get-empty text_cmp q) ∙ is)))

-- a move brings each file to its next place, where no two have one place
pub moved_placed : (bag : Bag) (place next : List ℕ → List ℕ) (from to : List ℕ) (files : Files)
    → IsPlaced bag place files
    → ((p : List ℕ) → HasFile bag p → renamed from to (place p) ≡ next p)
    → ((p r : List ℕ) → HasFile bag p → HasFile bag r → next p ≡ next r → p ≡ r)
    → IsPlaced bag next (moved from to files)
moved_placed bag place next from to files placed goes apart = record {
  from = λ q c is. elim (from_put (renamed from to) (fin.entries files) fin.empty q c is) [
    | inl put ↦
        let old = placed.from put.0 c (held_at files put.0 c put.2) in
        (old.0, put.1 ∙ ap (renamed from to) old.1 ∙ goes old.0 (ap is_some old.2), old.2)
    | inr none ↦ nothing _ q c none
  ];
  to = λ p c is.
      to_put (renamed from to) (fin.entries files) fin.empty (next p) c
      (inl (place p, sym (goes p (ap is_some is)), listed files (place p) c (placed.to p c is)))
      (λ q d has same.
      let old = placed.from q d (held_at files q d has) in
      let one =
      apart p old.0 (ap is_some is) (ap is_some old.2)
      (same ∙ ap (renamed from to) old.1 ∙ goes old.0 (ap is_some old.2)) in
      let value : Some d ≡ Some c = sym old.2 ∙ ap (file bag) (sym one) ∙ is in
      cc);
}

-- what has its first component moved stands in the folder that is made
abbrev pub placed_by : (List ℕ → Bool) → List ℕ → List ℕ
placed_by done p = cond (done (first_component p)) (under new_folder p) p

-- with one name more
abbrev pub with_name : (List ℕ → Bool) → List ℕ → List ℕ → Bool
with_name done top t = done t || bytes_eq t top

within_first : (top k : List ℕ) → first_component k ≡ top → is_within top k ≡ true
within_first top k first = grind (arith, parts, itself_within, under_within)

-- where a path goes that is moved into the folder
goes_in : (top path : List ℕ) → is_within top path ≡ true
    → renamed top (under new_folder top) path ≡ under new_folder path
goes_in top path within = elim (within_cases top path within) [
  | inl itself ↦ ap (renamed top (under new_folder top)) itself ∙ goes_itself top (under new_folder top)
      ∙ ap (under new_folder) (sym itself)
  | inr below ↦ ap (renamed top (under new_folder top)) below.1 ∙ goes_under top (under new_folder top) below.0
      ∙ append_assoc new_folder (slash ∷ top) (slash ∷ below.0) ∙ ap (under new_folder) (sym below.1)
]

-- a name that may be moved
abbrev pub IsTop : List ℕ → Type 0
IsTop top = (is_base_name top ≡ true) × (top ≢ new_folder)

pub goes_on : (done : List ℕ → Bool) (top p : List ℕ) → IsTop top
    → renamed top (under new_folder top) (placed_by done p) ≡ placed_by (with_name done top) p
goes_on done top p is =
    grind (
      arith,
      first_component,
      renamed,
      under,
      new_folder,
      stays,
      not_within,
      first-under,
      goes_in,
      within_first,
      bytes_eq-Decides,
      false≢true,
      first-name,
    )

module _ (bag : Bag) (free : is_in_the_way bag ≡ false) where
  pub none_within : (r : List ℕ) → HasFile bag r → is_within new_folder r ≡ true → ⊥
  none_within r has within =
      let c = content_of (file bag r) has in
      false≢true (sym free
      ∙ any_from (λ e. is_within new_folder e.0) (files_of bag) (r, c.0) (listed bag.files r c.0 c.1) within)

  pub apart : (done : List ℕ → Bool) (p r : List ℕ) → HasFile bag p → HasFile bag r
      → placed_by done p ≡ placed_by done r → p ≡ r
  apart done p r has_p has_r =
      elim (done (first_component p)) as (λ a. cond a (under new_folder p) p ≡ placed_by done r → p ≡ r) [
        | true ↦ elim (done (first_component r)) as (λ b. under new_folder p ≡ cond b (under new_folder r) r → p ≡ r) [
          | true ↦ λ e. ap (drop 11) e
          | false ↦ λ e. absurd (none_within r has_r (ap (is_within new_folder) (sym e) ∙ under_within new_folder p))
        ]
        | false ↦ elim (done (first_component r)) as (λ b. p ≡ cond b (under new_folder r) r → p ≡ r) [
          | true ↦ λ e. absurd (none_within p has_p (ap (is_within new_folder) e ∙ under_within new_folder r))
          | false ↦ λ e. e
        ]
      ]

  -- all of these names are moved, and what was moved before
  pub moves_placed : (tops : List (List ℕ)) (done : List ℕ → Bool) (b : Bag) → AllByRecursion IsTop tops
      → IsPlaced bag (placed_by done) b.files
      → IsPlaced bag (placed_by (λ t. done t || list_any (bytes_eq t) tops)) (after_steps (map MoveIn tops) b).files
  moves_placed [] done b all placed =
      subst (λ (now : List ℕ → Bool). IsPlaced bag (placed_by now) b.files) (λ i t. sym (or-false (done t)) i) placed
  moves_placed (top ∷ tops) done b all placed =
      let next =
      moved_placed bag (placed_by done) (placed_by (with_name done top)) top (under new_folder top) b.files placed
      (λ p has. goes_on done top p all.0) (apart (with_name done top)) in
      subst (λ (now : List ℕ → Bool). IsPlaced bag (placed_by now)
      (after_steps (map MoveIn tops) (move_in top new_folder b)).files)
      (λ i t. or_assoc (done t) (bytes_eq t top) (list_any (bytes_eq t) tops) i)
      (moves_placed tops (with_name done top) (move_in top new_folder b) all.1 next)

  -- where everything was moved, the files stand under data/ when the folder has that name
  pub all_under_data : (done : List ℕ → Bool) (files : Files) → IsPlaced bag (placed_by done) files
      → ((p : List ℕ) → HasFile bag p → done (first_component p) ≡ true)
      → IsPlaced bag (under data_folder) (moved new_folder data_folder files)
  all_under_data done files placed all = grind (arith, moved_placed, goes_under)
