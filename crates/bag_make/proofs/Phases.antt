-- What each step leaves after it.
use Rattle.bag_make.proofs.Common.{arith, ◌≡◌, ◌≢◌, ◌++◌, ◌∷◌, ◌⊎◌, ◌||◌, ℕ, inl, inr, Bool, true, false, not, cond}
use Rattle.bag_make.proofs.Common.{List, [], Some, None, is_some, get_or, drop, map, refl, ap, sym, ◌∙◌, subst}
use Rattle.bag_make.proofs.Common.{and_from, or_left, or_right, false≢true, false_from_ne_true, append-nil}
use Rattle.bag_make.proofs.Common.{append_assoc, contains-insert, contains-remove, list_any, bytes_eq, bytes_eq-Decides}
use Rattle.bag_make.proofs.Common.{exact_texts, one_text, nat_list_cmp_total, text_itself, slash}
use Rattle.bag_make.proofs.Common.{is_base_name, first_component, first-under, under, Bag, HasFile, file}
use Rattle.bag_make.proofs.Common.{has_folder, create, make_folder, move_in, rename_folder, is_within, not_within}
use Rattle.bag_make.proofs.Common.{under_within, is_synced, is_file_synced, is_durable, AreSyncs, joined}
use Rattle.bag_make.proofs.Common.{AllByRecursion, HasAllFiles, is_in_the_way, new_folder, data_folder, after_steps}
use Rattle.bag_make.proofs.Common.{MoveIn, ◌&&◌, eq_by_cmp, text_cmp, has_file}
use Rattle.std.specs.FinMap.{get-retain_keys}
use Rattle.bag_tree.proofs.Events.{base_there, folder_there, in_base, in_folder_of, same_name, done_make, done_move}
use Rattle.bag_tree.proofs.Events.{done_rename, done_create, synced_front, synced_after, stays_under, held_under}
use Rattle.bag_tree.proofs.Events.{done_write, done_write_is}
use Rattle.bag_tree.proofs.Parents.{base_not_under}
use Rattle.bag_tree.proofs.Runs as run
use Rattle.bag_tree.proofs.Runs.{one_more, weaker, synced}
use Rattle.bag_tree.proofs.Within.{IsWithin}
use Rattle.bag_tree.specs.Cut.{done, hold, is_anew, is_on_way, lose}
use Rattle.bag_tree.specs.Steps.{has_within}
use Rattle.bag_tree.specs.declared.event.DeviceEvent.{DeviceEvent}
use Rattle.bag_tree.specs.declared.event.DeviceEvent.TheVariants.{MakeFolder, Rename, Create, Write, Sync, SyncFolder}
use Rattle.bag_make.proofs.FirstParts.{first-name}
use Rattle.bag_facts.proofs.Found.{none_there}
use Rattle.std.proofs.Math.Bool.{and-false}
use Rattle.bag_make.proofs.Told.{IsKept, gone_on, itself_told, moving_told}
use Rattle.bag_make.proofs.Placed.{IsPlaced, IsTop, placed_by, with_name, moved_placed, goes_on, apart, none_within}

-- what is left after these events has Q, and at each moment the folder was kept
abbrev pub Reaches : Bag → List DeviceEvent → (List DeviceEvent → Bag → Type 0) → Type 0
Reaches bag trail Q = run.Reaches (IsKept bag) bag trail Q

-- each file of the bag stands in the folder
abbrev pub AllIn : List ℕ → Bag → Bag → Type 0
AllIn folder bag d = (p c : List ℕ) → file bag p ≡ Some c → file d (under folder p) ≡ Some c

-- in the one, while there is no folder `data`, or in the other
abbrev pub AllInOne : Bag → Bag → Type 0
AllInOne bag d = (AllIn new_folder bag d × (has_folder d data_folder ≡ false)) ⊎ AllIn data_folder bag d

pub all_whole : (bag d : Bag) → AllInOne bag d → IsKept bag d
all_whole bag d (inl (new, none)) =
    ((λ p c at. inr (inl (new p c at))), λ there. absurd (false≢true (sym none ∙ there)))
all_whole bag d (inr data_) = ((λ p c at. inr (inr (data_ p c at))), λ there. inl data_)

pub placed_whole : (bag d : Bag) (moved : List ℕ → Bool) → IsPlaced bag (placed_by moved) d.files → HasAllFiles bag d
placed_whole bag d moved placed p c at =
    elim (moved (first_component p)) as
    (λ b. file d (cond b (under new_folder p) p) ≡ Some c
    → (file d p ≡ Some c) ⊎ (file d (under new_folder p) ≡ Some c) ⊎ (file d (under data_folder p) ≡ Some c)) [
      | true ↦ λ there. inr (inl there)
      | false ↦ λ there. inl there
    ] (placed.to p c at)

pub itself_whole : (bag : Bag) → IsKept bag bag
itself_whole bag = ((λ p c at. inl at), itself_told bag)

-- what stands under a folder stays when another name is given anew
lost_under : (name folder rest : List ℕ) (d : Bag) → is_base_name name ≡ true → is_base_name folder ≡ true
    → name ≢ folder
    → file (lose name d) (under folder rest) ≡ file d (under folder rest)
unfolding lose
lost_under name folder rest d is folder_is other =
    let outside : is_within name (under folder rest) ≡ false =
    not_within name (under folder rest) (λ within. elim within [
      | inl at ↦ base_not_under name folder rest is (sym at)
      | inr below ↦ other
          (sym (sym (first-under folder rest folder_is) ∙ ap first_component below.1 ∙ first-under name below.0 is))
    ]) in
    get-retain_keys d.files (λ p. not (is_within name p)) (under folder rest) (λ x same.
    ap (λ p. not (is_within name p)) (sym (exact_texts (under folder rest) x same)))
    ∙ ap (λ b. cond (not b) (file d (under folder rest)) None) outside

-- the name of a tag file
abbrev pub IsTagName : List ℕ → Type 0
IsTagName name = (is_base_name name ≡ true) × (name ≢ new_folder) × (name ≢ data_folder)

module _ (bag : Bag) (free : is_in_the_way bag ≡ false) where
  abbrev pub begun : Bag
  begun = make_folder new_folder bag

  -- the folder is made, or is still missing
  abbrev pub IsMade : List DeviceEvent → Bag → Type 0
  IsMade later d = (d ≡ begun) ⊎ ((d ≡ bag) × (is_synced [] later ≡ false))

  begun_placed : IsPlaced bag (placed_by (λ _. false)) begun.files
  begun_placed = record { from = λ q c at. (q, refl, at); to = λ p c at. at }

  made_whole : (later : List DeviceEvent) (d : Bag) → IsMade later d → IsKept bag d
  made_whole later d (inl is) =
      subst (IsKept bag) (sym is)
      ((λ p c at. inl at), moving_told bag begun (λ _. false) begun_placed (λ gone. absurd (false≢true gone)))
  made_whole later d (inr (is, _)) = subst (IsKept bag) (sym is) (itself_whole bag)

  pub make_step : (t : List DeviceEvent) → Reaches bag t (λ later d. d ≡ bag)
      → Reaches bag (t ++ MakeFolder new_folder ∷ []) IsMade
  make_step t so_far = one_more t (λ later d. d ≡ bag) IsMade (MakeFolder new_folder) so_far
      (λ later d is. inl (ap (done (MakeFolder new_folder)) is ∙ done_make new_folder bag refl free))
      (λ later d part is missing same.
      inr (same ∙ is, sym (ap (λ f. is_synced f later) (in_base new_folder refl)) ∙ missing))
      (λ later d left is lost. absurd (false≢true (sym lost.0 ∙ base_there d new_folder refl)))
      made_whole

  -- some names are moved, none of those that are left, and all that were asked for once both folders are synced
  pub record IsMoving (left : List (List ℕ)) (actual : Bag) (later : List DeviceEvent) (d : Bag) : Type 0 where
    pub moved : List ℕ → Bool
    pub placed : IsPlaced bag (placed_by moved) d.files
    pub there : has_folder d new_folder ≡ true
    pub gone : moved data_folder ≡ true → has_folder d data_folder ≡ false
    pub unmoved : (t : List ℕ) → list_any (bytes_eq t) left ≡ true → moved t ≡ false
    pub durable : is_synced [] later ≡ true → is_synced new_folder later ≡ true → d ≡ actual

  pub moving_whole : (left : List (List ℕ)) (actual : Bag) (later : List DeviceEvent) (d : Bag)
      → IsMoving left actual later d → IsKept bag d
  moving_whole left actual later d is =
      (placed_whole bag d is.moved is.placed, moving_told bag d is.moved is.placed is.gone)

  pub begun_there : has_folder begun new_folder ≡ true
  begun_there =
      contains-insert nat_list_cmp_total bag.folders new_folder new_folder ∙ grind (arith, text_itself new_folder)

  begun_moving : (left : List (List ℕ)) (later : List DeviceEvent) → IsMoving left begun later begun
  begun_moving left later = record {
    moved = λ _. false;
    placed = begun_placed;
    there = begun_there;
    gone = λ is. absurd (false≢true is);
    unmoved = λ t has. refl;
    durable = λ _ _. refl;
  }

  only_begun : (es : List DeviceEvent) → is_synced [] es ≡ true → (later : List DeviceEvent) (d : Bag)
      → IsMade (es ++ later) d → d ≡ begun
  only_begun es durable later d (inl is) = is
  only_begun es durable later d (inr (_, missing)) =
      absurd (false≢true (sym missing ∙ synced_front [] es later durable))

  -- the folder is there once its name is durable
  pub made_durable : (t es : List DeviceEvent) → Reaches bag t IsMade → AreSyncs es → is_synced [] es ≡ true
      → Reaches bag (t ++ es) (λ later d. d ≡ begun)
  made_durable t es so_far are durable =
      weaker (t ++ es) (λ later d. IsMade (es ++ later) d) (λ later d. d ≡ begun) (synced es t IsMade so_far are)
      (only_begun es durable)
      (λ later d is. made_whole later d (inl is))

  pub can_move : (left : List (List ℕ)) (t : List DeviceEvent) → Reaches bag t (λ later d. d ≡ begun)
      → Reaches bag t (IsMoving left begun)
  can_move left t so_far =
      weaker t (λ later d. d ≡ begun) (IsMoving left begun) so_far
      (λ later d is. subst (IsMoving left begun later) (sym is) (begun_moving left later)) (moving_whole left begun)

  pub moving_synced : (left : List (List ℕ)) (actual : Bag) (t es : List DeviceEvent)
      → Reaches bag t (IsMoving left actual) → AreSyncs es → Reaches bag (t ++ es) (IsMoving left actual)
  moving_synced left actual t es so_far are =
      weaker (t ++ es) (λ later d. IsMoving left actual (es ++ later) d) (IsMoving left actual)
      (synced es t (IsMoving left actual) so_far are)
      (λ later d is. record {
        moved = is.moved;
        placed = is.placed;
        there = is.there;
        gone = is.gone;
        unmoved = is.unmoved;
        durable = λ base new. is.durable (synced_after [] es later are base) (synced_after new_folder es later are new);
      }) (moving_whole left actual)

  still_there : (top : List ℕ) (d : Bag) → IsTop top → has_folder d new_folder ≡ true
      → has_folder (move_in top new_folder d) new_folder ≡ true
  still_there top d is there =
      grind (arith, contains-remove nat_list_cmp_total d.folders top new_folder, one_text new_folder top, there, is.1)

  -- and stays there through all moves
  pub all_there : (names : List (List ℕ)) (d : Bag) → AllByRecursion IsTop names → has_folder d new_folder ≡ true
      → has_folder (after_steps (map MoveIn names) d) new_folder ≡ true
  all_there [] d are there = there
  all_there (top ∷ names) d are there = all_there names (move_in top new_folder d) are.1 (still_there top d are.0 there)

  -- nothing stands where a name is to be moved that isn't moved
  not_moved_to : (moved : List ℕ → Bool) (top p : List ℕ) → IsTop top → HasFile bag p → moved top ≡ false → (b : Bool)
      → moved (first_component p) ≡ b
      → IsWithin (under new_folder top) (cond b (under new_folder p) p) → ⊥
  not_moved_to moved top p is has unmoved true gone (inl at) =
      let same : p ≡ top = ap (drop 11) at in
      false≢true (sym unmoved ∙ ap moved (sym (ap first_component same ∙ first-name top is.0)) ∙ gone)
  not_moved_to moved top p is has unmoved true gone (inr (rest, below)) =
      let same : p ≡ under top rest = ap (drop 11) below in
      false≢true (sym unmoved ∙ ap moved (sym (ap first_component same ∙ first-under top rest is.0)) ∙ gone)
  not_moved_to moved top p is has unmoved false stayed (inl at) =
      none_within bag free p has (ap (is_within new_folder) at ∙ under_within new_folder top)
  not_moved_to moved top p is has unmoved false stayed (inr (rest, below)) =
      none_within bag free p has
      (ap (is_within new_folder) (below ∙ append_assoc new_folder (slash ∷ top) (slash ∷ rest))
      ∙ under_within new_folder (under top rest))

  clear : (moved : List ℕ → Bool) (top : List ℕ) (d : Bag) → IsTop top → IsPlaced bag (placed_by moved) d.files
      → moved top ≡ false → has_within d (under new_folder top) ≡ false
  clear moved top d is placed unmoved = none_there d (under new_folder top) (λ q c at within.
      let old = placed.from q c at in
      not_moved_to moved top old.0 is (ap is_some old.2) unmoved (moved (first_component old.0)) refl
      (subst (IsWithin (under new_folder top)) old.1 within))

  other_left : (t top : List ℕ) (left : List (List ℕ)) → list_any (bytes_eq top) left ≡ false
      → list_any (bytes_eq t) left ≡ true → bytes_eq t top ≡ false
  other_left t top left once has = false_from_ne_true _ (λ same.
      false≢true (sym once ∙ ap (λ x. list_any (bytes_eq x) left) (sym ((bytes_eq-Decides t top).0 same)) ∙ has))

  -- the folder keeps its meaning when a name is moved into it
  not_on_way : (top : List ℕ) → IsTop top → is_anew new_folder (Rename top (under new_folder top)) ≡ false
  not_on_way top is =
      ap (λ b. b || is_on_way new_folder (under new_folder top)) (not_within top new_folder (no_top top is))
      ∙ not_within (under new_folder top) new_folder (no_way top)
    where
      no_top : (top : List ℕ) → IsTop top → IsWithin top new_folder → ⊥
      no_top top is (inl at) = is.1 (sym at)
      no_top top is (inr (rest, below)) = base_not_under new_folder top rest refl below

      no_way : (top : List ℕ) → IsWithin (under new_folder top) new_folder → ⊥
      no_way top (inl at) = base_not_under new_folder new_folder top refl at
      no_way top (inr (rest, below)) =
          base_not_under new_folder new_folder (top ++ slash ∷ rest) refl
          (below ∙ append_assoc new_folder (slash ∷ top) (slash ∷ rest))

  other_folder : new_folder ≢ data_folder
  other_folder same = absurd (omega (arith, ap (λ t. get_or t 0 0) same))

  abbrev move_event : List ℕ → DeviceEvent
  move_event top = Rename top (under new_folder top)

  module _ (left : List (List ℕ)) (actual : Bag) (top : List ℕ) (is : IsTop top)
      (once : list_any (bytes_eq top) left ≡ false) where
    top_unmoved : (later : List DeviceEvent) (d : Bag) → (was : IsMoving (top ∷ left) actual later d)
        → was.moved top ≡ false
    top_unmoved later d was = was.unmoved top (or_left _ _ (same_name top))

    moved_on : (later : List DeviceEvent) (d : Bag) → IsMoving (top ∷ left) actual (move_event top ∷ later) d
        → IsMoving left (move_in top new_folder actual) later (move_in top new_folder d)
    moved_on later d was = record {
      moved = with_name was.moved top;
      placed =
          moved_placed bag (placed_by was.moved) (placed_by (with_name was.moved top)) top (under new_folder top)
          d.files was.placed
          (λ p has. goes_on was.moved top p is) (apart bag free (with_name was.moved top));
      there = still_there top d is was.there;
      gone = gone_on was.moved top d was.gone;
      unmoved = λ t has. (λ i. was.unmoved t (or_right (bytes_eq t top) _ has) i || other_left t top left once has i);
      durable = λ base new. ap (move_in top new_folder) (was.durable base (rw (not_on_way top is) new));
    }

    not_moved : (later : List DeviceEvent) (d : Bag) → IsMoving (top ∷ left) actual (move_event top ∷ later) d
        → is_durable (move_event top) later ≡ false
        → IsMoving left (move_in top new_folder actual) later d
    not_moved later d was missing = record {
      moved = was.moved;
      placed = was.placed;
      there = was.there;
      gone = was.gone;
      unmoved = λ t has. was.unmoved t (or_right (bytes_eq t top) _ has);
      durable = λ base new.
          absurd (false≢true
          (sym missing ∙ and_from _ _ (ap (λ f. is_synced f later) (in_base top is.0) ∙ base)
          (ap (λ f. is_synced f later) (in_folder_of new_folder top is.0) ∙ new)));
    }

    -- a move
    pub move_step : (t : List DeviceEvent) → Reaches bag t (IsMoving (top ∷ left) actual)
        → Reaches bag (t ++ Rename top (under new_folder top) ∷ []) (IsMoving left (move_in top new_folder actual))
    move_step t so_far =
        one_more t (IsMoving (top ∷ left) actual) (IsMoving left (move_in top new_folder actual)) (move_event top)
        so_far
        (λ later d was. subst (IsMoving left (move_in top new_folder actual) later)
        (sym (done_move top new_folder d is.0
        (clear was.moved top d is was.placed (top_unmoved (move_event top ∷ later) d was)))) (moved_on later d was))
        (λ later d part was missing same.
        subst (IsMoving left (move_in top new_folder actual) later) (sym same) (not_moved later d was missing))
        (λ later d lost was missing. absurd (false≢true (sym missing.0 ∙ folder_there d new_folder top is.0 was.there)))
        (moving_whole left (move_in top new_folder actual))

  -- all moves are durable
  pub moves_durable : (left : List (List ℕ)) (actual : Bag) (t es : List DeviceEvent) → IsKept bag actual
      → Reaches bag t (IsMoving left actual) → AreSyncs es → is_synced [] es ≡ true → is_synced new_folder es ≡ true
      → Reaches bag (t ++ es) (λ later d. d ≡ actual)
  moves_durable left actual t es whole so_far are base new =
      weaker (t ++ es) (λ later d. IsMoving left actual (es ++ later) d) (λ later d. d ≡ actual)
      (synced es t (IsMoving left actual) so_far are)
      (λ later d is. is.durable (synced_front [] es later base) (synced_front new_folder es later new))
      (λ later d is. subst (IsKept bag) (sym is) whole)

  -- the folder has its last name, or not yet
  pub record IsNamed (actual : Bag) (later : List DeviceEvent) (d : Bag) : Type 0 where
    pub all : AllInOne bag d
    pub durable : is_synced [] later ≡ true → d ≡ actual

  pub named_whole : (actual : Bag) (later : List DeviceEvent) (d : Bag) → IsNamed actual later d → IsKept bag d
  named_whole actual later d is = all_whole bag d is.all

  pub rename_step : (actual : Bag) (t : List DeviceEvent) → has_folder actual new_folder ≡ true
      → has_within actual data_folder ≡ false → has_folder actual data_folder ≡ false → AllIn new_folder bag actual
      → AllIn data_folder bag (rename_folder new_folder data_folder actual) → Reaches bag t (λ later d. d ≡ actual)
      → Reaches bag (t ++ Rename new_folder data_folder ∷ []) (IsNamed (rename_folder new_folder data_folder actual))
  rename_step actual t there none none_yet new data_ so_far =
      one_more t (λ later d. d ≡ actual) (IsNamed (rename_folder new_folder data_folder actual))
      (Rename new_folder data_folder) so_far
      (λ later d is.
      let now : done (Rename new_folder data_folder) d ≡ rename_folder new_folder data_folder actual =
      done_rename new_folder data_folder d other_folder refl (ap (λ b. has_folder b new_folder) is ∙ there)
      (ap (λ b. has_within b data_folder) is ∙ none) ∙ ap (rename_folder new_folder data_folder) is in
      record { all = inr (subst (AllIn data_folder bag) (sym now) data_); durable = λ _. now })
      (λ later d part is missing same. record {
        all = inl (
          subst (AllIn new_folder bag) (sym (same ∙ is)) new,
          ap (λ b. has_folder b data_folder) (same ∙ is) ∙ none_yet,
        );
        durable = λ base.
            absurd (false≢true
            (sym missing ∙ and_from _ _ (ap (λ f. is_synced f later) (in_base new_folder refl) ∙ base)
            (ap (λ f. is_synced f later) (in_base data_folder refl) ∙ base)));
      })
      (λ later d left is lost. absurd (false≢true (sym lost.0 ∙ base_there d data_folder refl)))
      (named_whole (rename_folder new_folder data_folder actual))

  pub named_synced : (actual : Bag) (t es : List DeviceEvent) → Reaches bag t (IsNamed actual) → AreSyncs es
      → Reaches bag (t ++ es) (IsNamed actual)
  named_synced actual t es so_far are =
      weaker (t ++ es) (λ later d. IsNamed actual (es ++ later) d) (IsNamed actual)
      (synced es t (IsNamed actual) so_far are)
      (λ later d is. record { all = is.all; durable = λ base. is.durable (synced_after [] es later are base) })
      (named_whole actual)

  -- a file is being written, with some bytes so far
  pub record IsWriting (name text : List ℕ) (actual : Bag) (later : List DeviceEvent) (d : Bag) : Type 0 where
    pub all : AllInOne bag d
    pub durable : is_synced [] later ≡ true → is_file_synced name later ≡ true → d ≡ create name text actual

  pub writing_whole : (name text : List ℕ) (actual : Bag) (later : List DeviceEvent) (d : Bag)
      → IsWriting name text actual later d → IsKept bag d
  writing_whole name text actual later d is = all_whole bag d is.all

  created_all : (name text : List ℕ) (d : Bag) → is_base_name name ≡ true → AllInOne bag d
      → AllInOne bag (create name text d)
  created_all name text d is (inl (all, none)) =
      inl ((λ p c at. stays_under name text new_folder p d is ∙ all p c at), none)
  created_all name text d is (inr all) = inr (λ p c at. stays_under name text data_folder p d is ∙ all p c at)

  lost_folders : (name : List ℕ) (d : Bag) → has_folder d data_folder ≡ false
      → has_folder (lose name d) data_folder ≡ false
  unfolding lose
  lost_folders name d none =
      contains-remove nat_list_cmp_total d.folders name data_folder
      ∙ ap (λ b. not (eq_by_cmp text_cmp data_folder name) && b) none ∙ and-false _

  lost_all : (name : List ℕ) (d : Bag) → IsTagName name → AllInOne bag d → AllInOne bag (lose name d)
  lost_all name d is (inl (all, none)) = inl (
    (λ p c at. lost_under name new_folder p d is.0 refl is.1 ∙ all p c at),
    lost_folders name d none,
  )
  lost_all name d is (inr all) = inr (λ p c at. lost_under name data_folder p d is.0 refl is.2 ∙ all p c at)

  held_folders : (name text : List ℕ) (d : Bag) → has_folder (hold name text d) data_folder ≡ has_folder d data_folder
  held_folders name text d =
      elim (has_file d name) as
      (λ b. has_folder (cond b (create name text d) d) data_folder ≡ has_folder d data_folder) [ true ↦ refl | false ↦ refl ]

  held_all : (name text : List ℕ) (d : Bag) → is_base_name name ≡ true → AllInOne bag d
      → AllInOne bag (hold name text d)
  held_all name text d is (inl (all, none)) = inl (
    (λ p c at. held_under name text new_folder p d is ∙ all p c at),
    held_folders name text d ∙ none,
  )
  held_all name text d is (inr all) = inr (λ p c at. held_under name text data_folder p d is ∙ all p c at)

  pub create_step : (actual : Bag) (t : List DeviceEvent) (name : List ℕ) → IsTagName name
      → Reaches bag t (IsNamed actual)
      → Reaches bag (t ++ Create name ∷ []) (IsWriting name [] (lose name actual))
  create_step actual t name is so_far =
      one_more t (IsNamed actual) (IsWriting name [] (lose name actual)) (Create name) so_far
      (λ later d was. subst (IsWriting name [] (lose name actual) later) (sym (done_create name d)) (record {
        all = created_all name [] (lose name d) is.0 (lost_all name d is was.all);
        durable = λ base file_synced. ap (λ b. create name [] (lose name b)) (was.durable base);
      }))
      (λ later d part was missing same.
      record {
        all = subst (AllInOne bag) (sym same) was.all;
        durable = λ base file_synced.
            absurd (false≢true (sym missing ∙ ap (λ f. is_synced f later) (in_base name is.0) ∙ base));
      })
      (λ later d left was lost. absurd (false≢true (sym lost.0 ∙ base_there d name is.0)))
      (writing_whole name [] (lose name actual))

  pub write_step : (actual : Bag) (t : List DeviceEvent) (name text piece : List ℕ) → is_base_name name ≡ true
      → Reaches bag t (IsWriting name text actual)
      → Reaches bag (t ++ Write name piece ∷ []) (IsWriting name (text ++ piece) actual)
  write_step actual t name text piece is so_far =
      one_more t (IsWriting name text actual) (IsWriting name (text ++ piece) actual) (Write name piece) so_far
      (λ later d was. record {
        all =
            let held =
            done_write_is name piece d in subst (AllInOne bag) (sym held.1) (held_all name held.0 d is was.all);
        durable = λ base file_synced.
            ap (done (Write name piece)) (was.durable base file_synced) ∙ done_write name text piece actual;
      })
      (λ later d part was missing some. record {
        all = subst (AllInOne bag) (sym some.1) (held_all name some.0 d is was.all);
        durable = λ base file_synced. absurd (false≢true (sym missing ∙ file_synced));
      })
      (λ later d left was lost. absurd lost)
      (writing_whole name (text ++ piece) actual)

  pub write_steps : (actual : Bag) (name : List ℕ) (is : is_base_name name ≡ true) (pieces : List (List ℕ))
      (t : List DeviceEvent) (text : List ℕ) → Reaches bag t (IsWriting name text actual)
      → Reaches bag (t ++ map (Write name) pieces) (IsWriting name (text ++ joined pieces) actual)
  write_steps actual name is [] t text so_far =
      subst (λ es. Reaches bag es (IsWriting name (text ++ []) actual)) (sym (append-nil t))
      (subst (λ bytes. Reaches bag t (IsWriting name bytes actual)) (sym (append-nil text)) so_far)
  write_steps actual name is (piece ∷ pieces) t text so_far =
      let all =
      write_steps actual name is pieces (t ++ Write name piece ∷ []) (text ++ piece)
      (write_step actual t name text piece is so_far) in
      subst (λ es. Reaches bag es (IsWriting name (text ++ (piece ++ joined pieces)) actual))
      (append_assoc t (Write name piece ∷ []) (map (Write name) pieces))
      (subst (λ bytes. Reaches bag ((t ++ Write name piece ∷ []) ++ map (Write name) pieces)
      (IsWriting name bytes actual)) (append_assoc text piece (joined pieces)) all)

  pub file_step : (actual : Bag) (t : List DeviceEvent) (name text : List ℕ)
      → Reaches bag t (IsWriting name text actual)
      → Reaches bag (t ++ Sync name ∷ []) (IsNamed (create name text actual))
  file_step actual t name text so_far =
      weaker (t ++ Sync name ∷ []) (λ later d. IsWriting name text actual (Sync name ∷ later) d)
      (IsNamed (create name text actual)) (synced (Sync name ∷ []) t (IsWriting name text actual) so_far (tt, tt))
      (λ later d is. record { all = is.all; durable = λ base. is.durable base (grind (arith, same_name name)) })
      (named_whole (create name text actual))

  -- the bag is this one
  pub record IsLast (actual : Bag) (later : List DeviceEvent) (d : Bag) : Type 0 where
    pub all : AllInOne bag d
    pub durable : d ≡ actual

  pub base_step : (actual : Bag) (t : List DeviceEvent) → Reaches bag t (IsNamed actual)
      → Reaches bag (t ++ SyncFolder [] ∷ []) (IsLast actual)
  base_step actual t so_far =
      weaker (t ++ SyncFolder [] ∷ []) (λ later d. IsNamed actual (SyncFolder [] ∷ later) d) (IsLast actual)
      (synced (SyncFolder [] ∷ []) t (IsNamed actual) so_far (tt, tt))
      (λ later d is. record { all = is.all; durable = is.durable refl }) (λ later d is. all_whole bag d is.all)

  pub last_named : (actual : Bag) (t : List DeviceEvent) → Reaches bag t (IsLast actual)
      → Reaches bag t (IsNamed actual)
  last_named actual t so_far =
      weaker t (IsLast actual) (IsNamed actual) so_far
      (λ later d is. record { all = is.all; durable = λ _. is.durable }) (named_whole actual)
