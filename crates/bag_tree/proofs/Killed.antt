-- What a power cut leaves where a program was killed while it changed files, once the base folder is synced.
use Rattle.bag_tree.proofs.Common.{◌≡◌, ◌++◌, ◌∷◌, ℕ, inl, inr, Bool, true, false, List, [], cond, map, refl, ap}
use Rattle.bag_tree.proofs.Common.{sym, ◌∙◌, subst, append-nil, append_assoc, false≢true, is_base_name, file}
use Rattle.bag_tree.proofs.Events.{base_there, done_create, done_nothing, done_write, in_base, nothing_named}
use Rattle.bag_tree.proofs.Events.{synced_after}
use Rattle.bag_tree.proofs.FileChanges.{changes_are_durable}
use Rattle.bag_tree.proofs.PutFile.{no_content, no_file, not_held, written_again}
use Rattle.bag_tree.proofs.Resumed.{IsLike, at_sync, begins_with, made_alike}
use Rattle.bag_tree.proofs.Runs.{both_nothing, first_change_nothing, front_of_map, front_of_two, left_between}
use Rattle.bag_tree.proofs.Runs.{nothing_left, syncs_alone}
use Rattle.bag_tree.proofs.Within.{itself_within}
use Rattle.bag_tree.specs.Asked.{AreSyncs, ChangeNothing}
use Rattle.bag_tree.specs.Bag.{Bag, has_file}
use Rattle.bag_tree.specs.Cut.{MayBecome, MayLeave, done, is_synced}
use Rattle.bag_tree.specs.FileChanges.{AsksPut, AsksRemove, CanChange, CanChangeAll, ChangeAsks, ChangesAsk, IsFree}
use Rattle.bag_tree.specs.FileChanges.{changed}
use Rattle.bag_tree.specs.Resumed.{IsSameBut, KilledChangesAreDurableOnceSynced, after_events}
use Rattle.bag_tree.specs.Steps.{create}
use Rattle.bag_tree.specs.declared.event.DeviceEvent.{DeviceEvent}
use Rattle.bag_tree.specs.declared.event.DeviceEvent.TheVariants as event
use Rattle.bag_tree.specs.declared.file_change.FileChange.{FileChange}
use Rattle.bag_tree.specs.declared.file_change.FileChange.TheVariants.{Put, Remove}

abbrev base : List DeviceEvent
base = event.SyncFolder [] ∷ []

-- ---- what is there after events

-- it is one of what a power cut may leave of them
all_may : (es : List DeviceEvent) (bag : Bag) → MayLeave es bag (after_events es bag)
all_may [] bag = refl
all_may (e ∷ es) bag = (done e bag, inl refl, all_may es (done e bag))

after_both : (es fs : List DeviceEvent) (bag : Bag)
    → after_events (es ++ fs) bag ≡ after_events fs (after_events es bag)
after_both [] fs bag = refl
after_both (e ∷ es) fs bag = after_both es fs (done e bag)

after_nothing : (es : List DeviceEvent) (bag : Bag) → ChangeNothing es → after_events es bag ≡ bag
after_nothing es bag are = nothing_left es bag (after_events es bag) are (all_may es bag)

module _ (beside : List ℕ) (beside_is : is_base_name beside ≡ true) where
  -- ---- a change that is whole

  module _ (change : FileChange) (before now : List DeviceEvent) (asks : ChangeAsks beside change before now) where
    made : (bag left : Bag) → CanChange beside change bag → MayLeave now bag left → left ≡ changed change bag
    made bag left can may =
        changes_are_durable beside (change ∷ []) bag before now beside_is (can, tt)
        (now, [], sym (append-nil now), asks, refl) left may

    there : (bag : Bag) → CanChange beside change bag → after_events now bag ≡ changed change bag
    there bag can = made bag (after_events now bag) can (all_may now bag)

  module _ (found : List ℕ) where
    like_but : (bag d : Bag) → IsLike beside found bag d → IsSameBut beside bag d
    like_but bag d (inl same) = inl same
    like_but bag d (inr (has, same)) =
        inr (found, same ∙ sym (ap (λ t. cond t (create beside found bag) bag) has))

    record CanBoth (change : FileChange) (bag d : Bag) : Type 0 where
      can : CanChange beside change d
      like : IsLike beside found (changed change bag) (changed change d)

    can_both : (change : FileChange) (bag d : Bag) → CanChange beside change bag → IsLike beside found bag d
        → CanBoth change bag d
    can_both change bag d can (inl same) =
        record { can = subst (CanChange beside change) (sym same) can; like = inl (ap (changed change) same) }
    can_both change bag d can (inr (has, same)) =
        let alike = made_alike beside beside_is found (change ∷ []) bag (can, tt) has in
        record {
          can = subst (CanChange beside change) (sym same) alike.can.0;
          like =
              subst (λ e. IsLike beside found (changed change bag) (changed change e)) (sym same) (alike.like 1);
        }

    -- ---- where nothing was changed yet

    still : (front : List DeviceEvent) (bag d left : Bag) → ChangeNothing front → IsLike beside found bag d
        → MayLeave (front ++ base) d left → IsSameBut beside (after_events front bag) left
    still front bag d left are like may =
        let left_is : left ≡ d = nothing_left (front ++ base) d left (both_nothing front base are (tt, tt)) may in
        subst (λ b. IsSameBut beside b left) (sym (after_nothing front bag are))
        (subst (IsSameBut beside bag) (sym left_is) (like_but bag d like))

    -- ---- where the change was made, and the base folder perhaps not synced

    module _ (change : FileChange) (before now : List DeviceEvent) (asks : ChangeAsks beside change before now)
        (bag d : Bag) (can : CanChange beside change bag) (like : IsLike beside found bag d) where
      abbrev both : CanBoth change bag d
      both = can_both change bag d can like

      but_synced : (front : List DeviceEvent) (left : Bag) → front ++ base ≡ now → MayLeave (front ++ base) d left
          → IsSameBut beside (after_events front bag) left
      but_synced front left is may =
          let left_is : left ≡ changed change d =
          made change before now asks d left both.can (subst (λ (es : List DeviceEvent). MayLeave es d left) is may) in
          let now_is : after_events front bag ≡ changed change bag =
          sym (after_both front base bag ∙ done_nothing (event.SyncFolder []) (after_events front bag) tt)
          ∙ ap (λ (es : List DeviceEvent). after_events es bag) is ∙ there change before now asks bag can in
          subst (λ b. IsSameBut beside b left) (sym now_is)
          (subst (IsSameBut beside (changed change bag)) (sym left_is)
          (like_but (changed change bag) (changed change d) both.like))

      whole : (front : List DeviceEvent) (left : Bag) → front ≡ now → MayLeave (front ++ base) d left
          → IsSameBut beside (after_events front bag) left
      whole front left is may =
          let between = left_between front base d left may in
          let left_is : left ≡ changed change d =
          nothing_left base between.0 left (tt, tt) between.2
          ∙ made change before now asks d between.0 both.can
          (subst (λ (es : List DeviceEvent). MayLeave es d between.0) is between.1) in
          let now_is : after_events front bag ≡ changed change bag =
          ap (λ (es : List DeviceEvent). after_events es bag) is ∙ there change before now asks bag can in
          subst (λ b. IsSameBut beside b left) (sym now_is)
          (subst (IsSameBut beside (changed change bag)) (sym left_is)
          (like_but (changed change bag) (changed change d) both.like))

  -- ---- where a file was begun

  module _ (bag : Bag) (free : IsFree bag beside) where
    begun_there : done (event.Create beside) bag ≡ create beside [] bag
    begun_there = done_create beside bag ∙ ap (create beside []) (nothing_named beside bag free.no_file free.no_folder)

    wrote : (pieces : List (List ℕ)) (text : List ℕ)
        → (more : List ℕ) × (after_events (map (event.Write beside) pieces) (create beside text bag) ≡ create beside more bag)
    wrote [] text = (text, refl)
    wrote (piece ∷ pieces) text =
        let more = wrote pieces (text ++ piece) in (
          more.0,
          ap (after_events (map (event.Write beside) pieces)) (done_write beside text piece bag) ∙ more.1,
        )

    synced_later : (pieces : List (List ℕ)) (syncs : List DeviceEvent) → AreSyncs syncs
        → is_synced [] ((map (event.Write beside) pieces ++ syncs) ++ base) ≡ true
    synced_later [] syncs are = synced_after [] syncs base are refl
    synced_later (piece ∷ pieces) syncs are = synced_later pieces syncs are

    left_begun : (pieces : List (List ℕ)) (syncs : List DeviceEvent) → AreSyncs syncs → (text : List ℕ) (left : Bag)
        → MayLeave ((map (event.Write beside) pieces ++ syncs) ++ base) (create beside text bag) left
        → (found : List ℕ) × (left ≡ create beside found bag)
    left_begun [] syncs are text left may = (
      text,
      nothing_left (syncs ++ base) (create beside text bag) left
          (both_nothing syncs base (syncs_alone syncs are) (tt, tt)) may,
    )
    left_begun (piece ∷ pieces) syncs are text left (next, becomes, may) =
        let now = written becomes in
        left_begun pieces syncs are now.0 left
        (subst (λ b. MayLeave ((map (event.Write beside) pieces ++ syncs) ++ base) b left) now.1 may)
      where
        written : MayBecome (event.Write beside piece) ((map (event.Write beside) pieces ++ syncs) ++ base)
            (create beside text bag) next → (found : List ℕ) × (next ≡ create beside found bag)
        written (inl is) = (text ++ piece, is ∙ done_write beside text piece bag)
        written (inr (inl (missing, some))) = (some.0, some.1 ∙ written_again beside text some.0 bag)
        written (inr (inr lost)) = absurd lost

    begun : (firsts : List DeviceEvent) (pieces : List (List ℕ)) (syncs front : List DeviceEvent) → ChangeNothing firsts
        → AreSyncs syncs → front ≡ firsts ++ event.Create beside ∷ (map (event.Write beside) pieces ++ syncs)
        → (left : Bag) → MayLeave (front ++ base) bag left → IsSameBut beside (after_events front bag) left
    begun firsts pieces syncs front are_firsts are is left may =
        let rest : List DeviceEvent = map (event.Write beside) pieces ++ syncs in
        let between = left_between firsts (event.Create beside ∷ (rest ++ base)) bag left
        (subst (λ (es : List DeviceEvent). MayLeave es bag left)
        (ap (λ (es : List DeviceEvent). es ++ base) is ∙ append_assoc firsts (event.Create beside ∷ rest) base) may) in
        let here : MayLeave (event.Create beside ∷ (rest ++ base)) bag left =
        subst (λ b. MayLeave (event.Create beside ∷ (rest ++ base)) b left)
        (nothing_left firsts bag between.0 are_firsts between.1) between.2 in
        let some = left_begun pieces syncs are [] left
        (subst (λ b. MayLeave (rest ++ base) b left) (created here.0 here.1) here.2) in
        let text = wrote pieces [] in
        let now_is : after_events front bag ≡ create beside text.0 bag =
        ap (λ (es : List DeviceEvent). after_events es bag) is
        ∙ after_both firsts (event.Create beside ∷ rest) bag
        ∙ ap (after_events (event.Create beside ∷ rest)) (after_nothing firsts bag are_firsts)
        ∙ ap (after_events rest) begun_there
        ∙ after_both (map (event.Write beside) pieces) syncs (create beside [] bag)
        ∙ after_nothing syncs (after_events (map (event.Write beside) pieces) (create beside [] bag))
        (syncs_alone syncs are) ∙ text.1 in
        subst (λ b. IsSameBut beside b left) (sym now_is)
        (inr (some.0, some.1 ∙ sym (written_again beside text.0 some.0 bag)))
      where
        created : (next : Bag) → MayBecome (event.Create beside)
            ((map (event.Write beside) pieces ++ syncs) ++ base) bag next → next ≡ create beside [] bag
        created next (inl made) = made ∙ begun_there
        created next (inr (inl (missing, part))) =
            absurd (false≢true (sym missing
            ∙ ap (λ f. is_synced f ((map (event.Write beside) pieces ++ syncs) ++ base)) (in_base beside beside_is)
            ∙ synced_later pieces syncs are))
        created next (inr (inr lost)) = absurd (false≢true (sym lost.0 ∙ base_there bag beside beside_is))

  -- ---- within one change

  module _ (found : List ℕ) (before now : List DeviceEvent) (bag d left : Bag) (like : IsLike beside found bag d)
      (front back : List DeviceEvent) (parts : now ≡ front ++ back) (may : MayLeave (front ++ base) d left) where
    abbrev Wanted : Type 0
    Wanted = IsSameBut beside (after_events front bag) left

    within_syncs : (syncs more : List DeviceEvent) → AreSyncs syncs → front ≡ syncs ++ more → more ≡ [] → Wanted
    within_syncs syncs more are is none =
        still found front bag d left
        (subst ChangeNothing (sym (is ∙ ap (λ (es : List DeviceEvent). syncs ++ es) none ∙ append-nil syncs))
        (syncs_alone syncs are)) like may

    among_syncs : (syncs rest : List DeviceEvent) → AreSyncs syncs → syncs ≡ front ++ rest → Wanted
    among_syncs syncs rest are is =
        still found front bag d left
        (first_change_nothing front rest (subst ChangeNothing is (syncs_alone syncs are))) like may

    in_remove : (name : List ℕ) → CanChange beside (Remove name) bag → AsksRemove name before now → Wanted
    in_remove name can asks = elim (front_of_two firsts last front back (sym asks.asked ∙ parts)) [
      | inl (rest, is) ↦ among_syncs firsts rest are is
      | inr (more, rest, is, last_is) ↦ by_more more rest is last_is
    ]
      where
        firsts : List DeviceEvent
        firsts = event.SyncFolder [] ∷ asks.syncs

        last : List DeviceEvent
        last = event.Remove name ∷ event.SyncFolder [] ∷ []

        are : AreSyncs firsts
        are = (tt, asks.are_syncs)

        by_more : (more rest : List DeviceEvent) → front ≡ firsts ++ more → last ≡ more ++ rest → Wanted
        by_more [] rest is last_is = within_syncs firsts [] are is refl
        by_more (a ∷ []) rest is last_is =
            let one : a ≡ event.Remove name = cc in
            but_synced found (Remove name) before now asks bag d can like front left
            (ap (λ (es : List DeviceEvent). es ++ base) is ∙ append_assoc firsts (a ∷ []) base
            ∙ ap (λ (e : DeviceEvent). firsts ++ e ∷ base) one ∙ sym asks.asked) may
        by_more (a ∷ b ∷ more) rest is last_is =
            let none : more ≡ [] = nothing_more more rest (let same : [] ≡ more ++ rest = cc in same) in
            let one : a ≡ event.Remove name = cc in
            let two : b ≡ event.SyncFolder [] = cc in
            whole found (Remove name) before now asks bag d can like front left
            (is ∙ ap (λ (es : List DeviceEvent). firsts ++ es) (λ i. one i ∷ two i ∷ none i) ∙ sym asks.asked) may
          where
            nothing_more : (more rest : List DeviceEvent) → [] ≡ more ++ rest → more ≡ []
            nothing_more [] rest same = refl
            nothing_more (x ∷ more) rest same = cc

    in_put : (name bytes : List ℕ) → CanChange beside (Put name bytes) bag → AsksPut beside name bytes before now → Wanted
    in_put name bytes can asks = elim (front_of_two firsts (made ++ last) front back (sym in_parts ∙ parts)) [
      | inl (rest, is) ↦ among_syncs firsts rest are is
      | inr (more, rest, is, both_is) ↦ elim (front_of_two made last more rest both_is) [
        | inl (rest', made_is) ↦ by_made more rest' is made_is
        | inr (later, rest', more_is, last_is) ↦ by_later later rest' (is ∙ ap (λ (es : List DeviceEvent). firsts ++ es) more_is) last_is
      ]
    ]
      where
        firsts : List DeviceEvent
        firsts = event.SyncFolder [] ∷ asks.syncs

        are : AreSyncs firsts
        are = (tt, asks.are_syncs)

        ws : List DeviceEvent
        ws = map (event.Write beside) asks.pieces

        made : List DeviceEvent
        made = event.Create beside ∷ ws

        last : List DeviceEvent
        last = event.Sync beside ∷ event.SyncFolder [] ∷ event.Rename beside name ∷ event.SyncFolder [] ∷ []

        assoc : (es fs gs : List DeviceEvent) → (es ++ fs) ++ gs ≡ es ++ (fs ++ gs)
        assoc es fs gs = append_assoc es fs gs

        in_parts : now ≡ firsts ++ (made ++ last)
        in_parts = asks.asked ∙ append_assoc firsts made last

        free : IsFree bag beside
        free = can.2

        same : d ≡ bag
        same = elim like [
          | inl is ↦ is
          | inr (has, is) ↦ absurd (false≢true (sym (no_content (file bag beside)
              (no_file bag beside free.no_file beside (itself_within beside) (file bag beside) refl)) ∙ has))
        ]

        may_here : MayLeave (front ++ base) bag left
        may_here = subst (λ b. MayLeave (front ++ base) b left) same may

        by_made : (more rest : List DeviceEvent) → front ≡ firsts ++ more → made ≡ more ++ rest → Wanted
        by_made [] rest is made_is = within_syncs firsts [] are is refl
        by_made (e ∷ more) rest is made_is =
            let one : e ≡ event.Create beside = cc in
            let writes : ws ≡ more ++ rest = cc in
            let some = front_of_map (event.Write beside) asks.pieces more rest writes in
            begun bag free firsts some.0 [] front (syncs_alone firsts are) tt
            (is ∙ ap (λ (es : List DeviceEvent). firsts ++ es) (λ i. one i ∷ (some.1 ∙ sym (append-nil (map (event.Write beside) some.0))) i))
            left may_here

        some_syncs : (syncs : List DeviceEvent) → AreSyncs syncs → front ≡ firsts ++ (made ++ syncs) → Wanted
        some_syncs syncs are_syncs is =
            begun bag free firsts asks.pieces syncs front (syncs_alone firsts are) are_syncs is left may_here

        by_later : (later rest : List DeviceEvent) → front ≡ firsts ++ (made ++ later) → last ≡ later ++ rest → Wanted
        by_later [] rest is last_is = some_syncs [] tt is
        by_later (a ∷ []) rest is last_is =
            let one : a ≡ event.Sync beside = cc in
            some_syncs (event.Sync beside ∷ []) (tt, tt)
            (is ∙ ap (λ (e : DeviceEvent). firsts ++ (made ++ e ∷ [])) one)
        by_later (a ∷ b ∷ []) rest is last_is =
            let one : a ≡ event.Sync beside = cc in
            let two : b ≡ event.SyncFolder [] = cc in
            some_syncs (event.Sync beside ∷ event.SyncFolder [] ∷ []) (tt, (tt, tt))
            (is ∙ ap (λ (es : List DeviceEvent). firsts ++ (made ++ es)) (λ i. one i ∷ two i ∷ []))
        by_later (a ∷ b ∷ c ∷ []) rest is last_is =
            let one : a ≡ event.Sync beside = cc in
            let two : b ≡ event.SyncFolder [] = cc in
            let three : c ≡ event.Rename beside name = cc in
            but_synced found (Put name bytes) before now asks bag d can like front left
            (ap (λ (es : List DeviceEvent). es ++ base)
            (is ∙ ap (λ (es : List DeviceEvent). firsts ++ (made ++ es)) (λ i. one i ∷ two i ∷ three i ∷ []))
            ∙ assoc firsts (made ++ event.Sync beside ∷ event.SyncFolder [] ∷ event.Rename beside name ∷ []) base
            ∙ ap (λ (es : List DeviceEvent). firsts ++ es)
            (assoc made (event.Sync beside ∷ event.SyncFolder [] ∷ event.Rename beside name ∷ []) base)
            ∙ sym in_parts) may
        by_later (a ∷ b ∷ c ∷ e ∷ more) rest is last_is =
            let one : a ≡ event.Sync beside = cc in
            let two : b ≡ event.SyncFolder [] = cc in
            let three : c ≡ event.Rename beside name = cc in
            let four : e ≡ event.SyncFolder [] = cc in
            let none : more ≡ [] = nothing_more more rest (let ends : [] ≡ more ++ rest = cc in ends) in
            whole found (Put name bytes) before now asks bag d can like front left
            (is ∙ ap (λ (es : List DeviceEvent). firsts ++ (made ++ es)) (λ i. one i ∷ two i ∷ three i ∷ four i ∷ none i)
            ∙ sym in_parts) may
          where
            nothing_more : (more rest : List DeviceEvent) → [] ≡ more ++ rest → more ≡ []
            nothing_more [] rest ends = refl
            nothing_more (x ∷ more) rest ends = cc

    in_change : (change : FileChange) → CanChange beside change bag → ChangeAsks beside change before now → Wanted
    in_change (Put name bytes) can asks = in_put name bytes can asks
    in_change (Remove name) can asks = in_remove name can asks

  -- ---- and within several

  killed_on : (found : List ℕ) (changes : List FileChange) (bag d left : Bag) (before es front back : List DeviceEvent)
      → CanChangeAll beside changes bag → IsLike beside found bag d → ChangesAsk beside changes before es
      → es ≡ front ++ back → MayLeave (front ++ base) d left → IsSameBut beside (after_events front bag) left
  killed_on found [] bag d left before es [] back can like none parts may =
      still found [] bag d left tt like may
  killed_on found [] bag d left before es (e ∷ front) back can like none parts may =
      let never : [] ≡ (e ∷ front) ++ back = sym none ∙ parts in cc
  killed_on found (change ∷ changes) bag d left before es front back can like (now, later, is, asks, rest) parts may =
      elim (front_of_two now later front back (sym is ∙ parts)) [
        | inl (rest', now_is) ↦ in_change found before now bag d left like front rest' now_is may change can.0 asks
        | inr (more, rest', front_is, later_is) ↦
            let both = can_both found change bag d can.0 like in
            let between = left_between now (more ++ base) d left
            (subst (λ (xs : List DeviceEvent). MayLeave xs d left)
            (ap (λ (xs : List DeviceEvent). xs ++ base) front_is ∙ append_assoc now more base) may) in
            let then : MayLeave (more ++ base) (changed change d) left =
            subst (λ b. MayLeave (more ++ base) b left)
            (made change before now asks d between.0 both.can between.1) between.2 in
            subst (λ b. IsSameBut beside b left)
            (sym (ap (λ (xs : List DeviceEvent). after_events xs bag) front_is ∙ after_both now more bag
            ∙ ap (after_events more) (there change before now asks bag can.0)))
            (killed_on found changes (changed change bag) (changed change d) left (before ++ now) later more rest' can.1
            both.like rest later_is then)
      ]

  from_but : (bag d : Bag) → IsSameBut beside bag d → (found : List ℕ) × IsLike beside found bag d
  from_but bag d (inl same) = ([], inl same)
  from_but bag d (inr (found, same)) = (found, by_file (has_file bag beside) refl)
    where
      by_file : (b : Bool) → has_file bag beside ≡ b → IsLike beside found bag d
      by_file true has = inr (has, same ∙ ap (λ t. cond t (create beside found bag) bag) has)
      by_file false none = inl (same ∙ not_held beside found bag none)

pub killed_changes : KilledChangesAreDurableOnceSynced
killed_changes beside changes first bag before events is can durable asks front back parts left may =
    by_front front parts may
  where
    by_front : (front : List DeviceEvent) → events ≡ front ++ back
        → MayLeave ((before ++ front) ++ event.SyncFolder [] ∷ []) first left
        → IsSameBut beside (after_events front bag) left
    by_front [] parts may =
        durable left
        (subst (λ (xs : List DeviceEvent). MayLeave (xs ++ event.SyncFolder [] ∷ []) first left) (append-nil before)
        may)
    by_front (e ∷ front) parts may =
        let sync = begins_with beside changes before (front ++ back) e
        (subst (ChangesAsk beside changes before) parts asks) in
        let there = at_sync before (front ++ event.SyncFolder [] ∷ []) first left
        (subst (λ (xs : List DeviceEvent). MayLeave xs first left)
        (append_assoc before (e ∷ front) (event.SyncFolder [] ∷ [])
        ∙ ap (λ (x : DeviceEvent). before ++ x ∷ (front ++ event.SyncFolder [] ∷ [])) sync) may) in
        let like = from_but beside is bag there.0 (durable there.0 there.1) in
        killed_on beside is like.0 changes bag there.0 left before events (e ∷ front) back can like.1 asks parts
        (subst (λ (x : DeviceEvent). MayLeave (x ∷ (front ++ event.SyncFolder [] ∷ [])) there.0 left) (sym sync)
        there.2)
