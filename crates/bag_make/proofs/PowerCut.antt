-- What a making outlasts.
use Rattle.bag_make.proofs.Common.{arith, ◌≡◌, ◌≢◌, ◌++◌, ◌∷◌, ◌-◌, ◌⊎◌, inl, inr, ℕ, true, false, cond, List, [], Some}
use Rattle.bag_make.proofs.Common.{is_some, IsTrue, get_or, map, refl, sym, ap, ◌∙◌, subst, append-nil, bytes_eq}
use Rattle.bag_make.proofs.Common.{bytes_eq-Decides, eq_by_cmp, false≢true, false_from_ne_true, first-under}
use Rattle.bag_make.proofs.Common.{first_component, fold-append, get-insert, get_or_from_slice_get, list_any}
use Rattle.bag_make.proofs.Common.{nat_list_cmp_total, one_text, or_left, or_right, slice_get_within, text_cmp}
use Rattle.bag_make.proofs.Common.{text_itself, each_from_members, AllByRecursion, Less, in_base, is_base_name}
use Rattle.bag_make.proofs.Common.{tag_path, TagName, Declaration, Info, Fetch, Manifest, Payload, Tag, under, Alg, Bag}
use Rattle.bag_make.proofs.Common.{IsBag, TreeState, Keeps, NewElement, File, MayLeave, Adds, EachCut, LeavesOnly}
use Rattle.bag_make.proofs.Common.{create, make_folder, new_tag_files, file, files_of, has_file, has_folder}
use Rattle.bag_make.proofs.Common.{data_folder, new_folder, is_in_the_way, MoveIn, Rename, Step, new_file, steps}
use Rattle.bag_make.proofs.Common.{steps_for, tops, change, after_steps, CanTakeAll, HasTaken}
use Rattle.bag_make.proofs.Common.{OutlastsCuts, LastsForGood, AllAsk}
use Rattle.std.proofs.Common.{is_eq}
use Rattle.std.specs.List.Sorted.{IsStrictlySortedBy}
use Rattle.bag_tree.proofs.Parents.{base_not_under}
use Rattle.bag_tree.proofs.Runs.{left_between}
use Rattle.bag_tree.specs.Steps.{has_within}
use Rattle.bag_tree.specs.declared.event.DeviceEvent.{DeviceEvent}
use Rattle.bag_make.specs.Steps.{HasStopped}
use Rattle.bag_tree.specs.declared.changing_files.RefusedChange.{RefusedChange}
use Rattle.bag_make.proofs.Asking.{SomeAsk, adds_refused, all_is_some}
use Rattle.bag_make.proofs.Held.{tag_member}
use Rattle.bag_make.proofs.Outlasting.{AreDistinct, AreFree, AreTagFiles, CanBeMadeBy, all_made, at_the_end}
use Rattle.bag_make.proofs.Outlasting.{data_placed, each_moment, named_by}
use Rattle.bag_facts.proofs.Found.{none_there}
use Rattle.bag_make.proofs.Phases.{IsTagName, itself_whole}
use Rattle.bag_make.proofs.Told.{IsKept, told_lacks}
use Rattle.bag_make.specs.PowerCut.{Outlasts}
use Rattle.bag_make.proofs.StepsMake.{data_is_moved, each_is_moved, names_are_tops, names_in_order, steps_make}

-- what is kept outlasts
kept : (bag d : Bag) → IsKept bag d → Outlasts bag d
kept bag d is = record { files = is.0; payload = told_lacks bag d is.1 }

-- ---- the trails

none_before : (before after : List DeviceEvent) → [] ≡ before ++ after → before ≡ []
none_before [] after e = refl
none_before (x ∷ before) after e = cc

-- where nothing was asked
nothing_asked : (bag : Bag) (old new : List DeviceEvent) → new ≡ old → EachCut old new bag (Outlasts bag)
nothing_asked bag old new same = record {
  since = [];
  trail = same ∙ sym (append-nil old);
  each = λ first durable before after parts left may.
      let trail_is : old ++ before ≡ old =
      ap (λ (xs : List DeviceEvent). old ++ xs) (none_before before after parts) ∙ append-nil old in
      let left_is : left ≡ bag =
      durable left (subst (λ (xs : List DeviceEvent). MayLeave xs first left) trail_is may) in
      subst (Outlasts bag) (sym left_is) (kept bag bag (itself_whole bag));
}

module _ (bag : Bag) (names : List (List ℕ)) (old new : List DeviceEvent) where
  -- at each moment, whether a step was refused or not
  outlasts : (tags : List File) → CanBeMadeBy bag names tags → Adds (SomeAsk (steps_for names tags)) old new
      → EachCut old new bag (Outlasts bag)
  outlasts tags can some = record {
    since = some.now;
    trail = some.trail;
    each = λ first durable before after parts left may.
        let between = left_between old before first left may in
        kept bag left (each_moment bag names tags can old some.now some.is before after parts left
        (subst (λ d. MayLeave before d left) (durable between.0 between.1) between.2));
  }

  -- and after all steps
  lasts : (e : File) (more : List File) → CanBeMadeBy bag names (e ∷ more) → AreFree (e ∷ more) (named_by bag names)
      → Adds (AllAsk (steps_for names (e ∷ more))) old new
      → LeavesOnly old new bag (after_steps (steps_for names (e ∷ more)) bag)
  lasts e more can are_free asked first durable left may =
      let between =
      left_between old asked.now first left
      (subst (λ (xs : List DeviceEvent). MayLeave xs first left) asked.trail may) in
      at_the_end bag names e more can old asked.now asked.is left
      (subst (λ d. MayLeave asked.now d left) (durable between.0 between.1) between.2)
      ∙ all_made (e ∷ more) (named_by bag names) are_free
      ∙ sym (fold-append (λ b step. change step b) (make_folder new_folder bag) (map MoveIn names)
      (Rename ∷ map new_file (e ∷ more)))

-- ---- a bag can be made by its steps

-- the names that are moved are distinct
other_names : (name : List ℕ) (names : List (List ℕ)) → AllByRecursion (λ other. text_cmp name other ≡ Less) names
    → list_any (bytes_eq name) names ≡ false
other_names name [] less = refl
other_names name (other ∷ names) less =
    let apart : bytes_eq name other ≡ false = false_from_ne_true _ (λ same.
    let itself : text_cmp name name ≡ Less = ap (text_cmp name) ((bytes_eq-Decides name other).0 same) ∙ less.0 in
    false≢true (sym (ap is_eq itself) ∙ text_itself name)) in
    rw apart (other_names name names less.1)

are_distinct : (names : List (List ℕ)) → IsStrictlySortedBy text_cmp names → AreDistinct names
unfolding IsStrictlySortedBy
are_distinct [] sorted = tt
are_distinct (name ∷ names) sorted = (other_names name names sorted.0, are_distinct names sorted.1)

-- no tag file has the name of one of the two folders
tag_starts : (tag : TagName) → (tag_path tag ≢ new_folder) × (tag_path tag ≢ data_folder)
tag_starts (Manifest Payload alg) = (
  λ same. absurd (omega (arith, ap (λ t. get_or t 0 0) same)),
  λ same.
      absurd (omega (arith, ap (λ t. get_or t 0 0) same)),
)
tag_starts (Manifest Tag alg) = (
  λ same. absurd (omega (arith, ap (λ t. get_or t 0 0) same)),
  λ same.
      absurd (omega (arith, ap (λ t. get_or t 0 0) same)),
)
tag_starts Declaration = (
  λ same. absurd (omega (arith, ap (λ t. get_or t 0 0) same)),
  λ same.
      absurd (omega (arith, ap (λ t. get_or t 0 0) same)),
)
tag_starts Info = (
  λ same. absurd (omega (arith, ap (λ t. get_or t 0 0) same)),
  λ same.
      absurd (omega (arith, ap (λ t. get_or t 0 0) same)),
)
tag_starts Fetch = (
  λ same. absurd (omega (arith, ap (λ t. get_or t 0 0) same)),
  λ same.
      absurd (omega (arith, ap (λ t. get_or t 0 0) same)),
)

is_tag_name : (tag : TagName) → IsTagName (tag_path tag)
is_tag_name tag = let starts = tag_starts tag in (in_base tag, starts.0, starts.1)

module _ (bag : Bag) (algs : List Alg) (info : List NewElement) where
  abbrev names : List (List ℕ)
  names = tops (files_of bag) (has_folder bag data_folder)

  abbrev tags : List File
  tags = new_tag_files (files_of bag) algs info

  tag_names : AreTagFiles tags
  tag_names = each_from_members (λ (e : File). IsTagName e.0) tags (λ e has.
      let tag = tag_member bag algs info e.0 e.1 has in
      subst IsTagName (sym tag.1) (is_tag_name tag.0))

  pub can_be_made : IsBag bag → is_in_the_way bag ≡ false → CanBeMadeBy bag names tags
  can_be_made is free = record {
    free = free;
    tops = names_are_tops bag is free;
    distinct = are_distinct names (names_in_order bag);
    all = each_is_moved bag;
    own = data_is_moved bag;
    tag_names = tag_names;
  }

-- ---- the tag files have free names

-- all files stand in the base folder, or under data/
abbrev Stands : Bag → Type 0
Stands b = (q c : List ℕ) → file b q ≡ Some c → (is_base_name q ≡ true) ⊎ ((p : List ℕ) × (q ≡ under data_folder p))

with_one : (e : File) (b : Bag) → is_base_name e.0 ≡ true → Stands b → Stands (create e.0 e.1 b)
with_one e b is stands q c at =
    elim (eq_by_cmp text_cmp q e.0) as
    (λ t. eq_by_cmp text_cmp q e.0 ≡ t → cond t (Some e.1) (file b q) ≡ Some c
    → (is_base_name q ≡ true) ⊎ ((p : List ℕ) × (q ≡ under data_folder p))) [
      | true ↦ λ same _. inl (ap is_base_name (one_text q e.0 same) ∙ is)
      | false ↦ λ _ old. stands q c old
    ] refl (sym (get-insert nat_list_cmp_total b.files e.0 e.1 q) ∙ at)

nothing_at : (name : List ℕ) (b : Bag) → IsTagName name → Stands b → has_file b name ≡ false → has_within b name ≡ false
nothing_at name b is stands absent = none_there b name (λ q c at within. elim within [
  | inl itself ↦ false≢true (sym absent ∙ ap (has_file b) (sym itself) ∙ ap is_some at)
  | inr below ↦ elim (stands q c at) [
    | inl base ↦ base_not_under q name below.0 base below.1
    | inr data_ ↦ is.2
        (sym (first-under name below.0 is.0) ∙ ap first_component (sym below.1 ∙ data_.1)
        ∙ first-under data_folder data_.0 refl)
  ]
])

are_free : (es : List File) (b : Bag) → AreTagFiles es → Stands b → CanTakeAll (map new_file es) b → AreFree es b
are_free [] b names_are stands can = tt
are_free (e ∷ es) b names_are stands can =
    let absent : has_file b e.0 ≡ false = false_from_ne_true _ (λ there. can.0 (or_left _ (has_folder b e.0) there)) in
    let no_folder : has_folder b e.0 ≡ false =
    false_from_ne_true _ (λ there. can.0 (or_right (has_file b e.0) _ there)) in (
      nothing_at e.0 b names_are.0 stands absent,
      no_folder,
      are_free es (create e.0 e.1 b) names_are.1 (with_one e b names_are.0.0 stands) can.1,
    )

-- what can be taken after these steps
can_later : (xs ys : List Step) (b : Bag) → CanTakeAll (xs ++ ys) b → CanTakeAll ys (after_steps xs b)
can_later [] ys b can = can
can_later (x ∷ xs) ys b can = can_later xs ys (change x b) can.1

free_names : (bag : Bag) (algs : List Alg) (info : List NewElement)
    → (can : CanBeMadeBy bag (names bag algs info) (tags bag algs info)) → CanTakeAll (steps bag algs info) bag
    → AreFree (tags bag algs info) (named_by bag (names bag algs info))
free_names bag algs info can possible =
    let placed = data_placed bag can.free (names bag algs info) can.tops can.distinct can.all can.own in
    are_free (tags bag algs info) (named_by bag (names bag algs info)) can.tag_names (λ q c at.
    let old = placed.from q c at in inr (old.0, old.1))
    (can_later (map MoveIn (names bag algs info)) (Rename ∷ map new_file (tags bag algs info))
    (make_folder new_folder bag) possible.1).1

-- ---- the making

-- which ended before the first step
pub outlasts_before : (old new : TreeState) → Keeps old new → OutlastsCuts old new
outlasts_before old new keeps honest noted = nothing_asked old.bag old.trail new.trail keeps.trail

module _ (algs : List Alg) (info : List NewElement) (old mid new : TreeState) (planned : List Step)
    (is_bag : IsBag old.bag) (keeps : Keeps old mid)
    (are : IsTrue old.honest → (planned ≡ steps old.bag algs info) × (is_in_the_way old.bag ≡ false)) where
  noted_mid : IsTrue old.noted → IsTrue mid.noted
  noted_mid noted = subst IsTrue (sym keeps.noted) noted

  -- at each moment, where the device was asked for what the planned steps ask up to one that was refused
  outlasts_asked : IsTrue old.honest → Adds (SomeAsk planned) mid.trail new.trail
      → EachCut old.trail new.trail old.bag (Outlasts old.bag)
  outlasts_asked honest some =
      let plan = are honest in
      outlasts old.bag (names old.bag algs info) old.trail new.trail (tags old.bag algs info)
      (can_be_made old.bag algs info is_bag plan.1)
      (subst (λ (trail : List DeviceEvent). Adds (SomeAsk (steps old.bag algs info)) trail new.trail) keeps.trail
      (subst (λ (s : List Step). Adds (SomeAsk s) mid.trail new.trail) plan.0 some))

  -- all steps were taken
  pub outlasts_all : HasTaken planned mid new → OutlastsCuts old new
  outlasts_all taken honest noted =
      let asked = taken.asked (noted_mid noted) in
      outlasts_asked honest
      (record { now = asked.now; trail = asked.trail; is = all_is_some planned mid.trail asked.now asked.is })

  -- or one was refused
  pub outlasts_some : (refusal : RefusedChange) → HasStopped planned mid new refusal → OutlastsCuts old new
  outlasts_some refusal stopped honest noted =
      let k = refusal.place - 1 in
      let noted_before : IsTrue stopped.before.noted = subst IsTrue (sym stopped.taken.noted) (noted_mid noted) in
      outlasts_asked honest
      (adds_refused planned k stopped.step mid.trail stopped.before.trail new.trail
      (slice_get_within planned k stopped.step stopped.place)
      (sym (get_or_from_slice_get planned k stopped.step stopped.step stopped.place))
      (stopped.taken.asked (noted_mid noted)) (stopped.asked noted_before))

  -- after all steps the bag that was made is durable
  pub lasts_for_good : HasTaken planned mid new → LastsForGood algs info old new
  lasts_for_good taken honest noted =
      let plan = are honest in
      let can : CanTakeAll (steps old.bag algs info) old.bag =
      subst (CanTakeAll (steps old.bag algs info)) keeps.bag
      (subst (λ (s : List Step). CanTakeAll s mid.bag) plan.0 (taken.possible (subst IsTrue (sym keeps.honest) honest)))
      in
      let made = can_be_made old.bag algs info is_bag plan.1 in
      let absent : has_folder old.bag new_folder ≡ false =
      false_from_ne_true _ (λ there. can.0 (or_right (has_file old.bag new_folder) _ there)) in
      subst (LeavesOnly old.trail new.trail old.bag) (steps_make old.bag algs info is_bag plan.1 absent)
      (lasts old.bag (names old.bag algs info) old.trail new.trail _ _ made (free_names old.bag algs info made can)
      (subst (λ (trail : List DeviceEvent). Adds (AllAsk (steps old.bag algs info)) trail new.trail) keeps.trail
      (subst (λ (s : List Step). Adds (AllAsk s) mid.trail new.trail) plan.0 (taken.asked (noted_mid noted)))))
