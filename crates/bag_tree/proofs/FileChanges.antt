-- What a power cut leaves of changes of single files.
use Rattle.bag_tree.proofs.Common.{arith, ◌≡◌, ◌≢◌, ◌++◌, ◌∷◌, ◌⊎◌, ◌≤◌, ℕ, zero, suc, inl, inr, true}
use Rattle.bag_tree.proofs.Common.{false, List, [], refl, ap, sym, ◌∙◌, subst, map}
use Rattle.bag_tree.proofs.Common.{append-nil, append_assoc, length, take, false≢true, and_from}
use Rattle.bag_tree.proofs.Common.{is_base_name, file}
use Rattle.std.proofs.Common.{◌||◌}
use Rattle.std.proofs.lemmas.Bool.{false_from_ne_true}
use Rattle.bag_tree.proofs.Events.{base_there, in_base, nothing_named, no_bytes, done_write}
use Rattle.bag_tree.proofs.Events.{done_create, same_name}
use Rattle.bag_tree.proofs.PutFile.{done_put, done_remove, no_content, no_file, not_held, written_again}
use Rattle.bag_tree.proofs.Runs.{Reaches, first_change_nothing, front_of_two, left_between, nothing_left, one_more}
use Rattle.bag_tree.proofs.Runs.{started, synced, weaker}
use Rattle.bag_tree.proofs.Within.{itself_within}
use Rattle.bag_tree.specs.Asked.{ChangeNothing, joined}
use Rattle.bag_tree.specs.Bag.{Bag, has_file}
use Rattle.bag_tree.specs.Cut.{MayLeave, done, hold, is_file_synced, is_synced, lose}
use Rattle.bag_tree.specs.FileChanges.{AsksPut, AsksRemove, CanChange, CanChangeAll, ChangeAsks}
use Rattle.bag_tree.specs.FileChanges.{ChangesAsk, ChangesAreDurable, CutsLeaveFirstChanges, IsAfterFirst, IsFree}
use Rattle.bag_tree.specs.FileChanges.{IsNoFolder, IsPerhapsWithBegun, after_changes, changed}
use Rattle.bag_tree.specs.Steps.{create}
use Rattle.bag_tree.specs.declared.event.DeviceEvent.{DeviceEvent}
use Rattle.bag_tree.specs.declared.event.DeviceEvent.TheVariants as event
use Rattle.bag_tree.specs.declared.file_change.FileChange.{FileChange}
use Rattle.bag_tree.specs.declared.file_change.FileChange.TheVariants.{Put, Remove}

-- the bag that is there is this one
abbrev Is : Bag → List DeviceEvent → Bag → Type 0
Is actual later d = d ≡ actual

module _ (P : Bag → Type 0) (bag : Bag) where
  module _ (beside : List ℕ) (beside_is : is_base_name beside ≡ true) (actual : Bag) (free : IsFree actual beside)
      (safe : P actual) (begun_safe : (found : List ℕ) → P (create beside found actual)) where
    -- a file is being written beside the others, with some bytes so far
    record IsWriting (text : List ℕ) (later : List DeviceEvent) (d : Bag) : Type 0 where
      pub either : IsPerhapsWithBegun beside actual d
      pub durable : is_synced [] later ≡ true → is_file_synced beside later ≡ true → d ≡ create beside text actual

    either_safe : (d : Bag) → IsPerhapsWithBegun beside actual d → P d
    either_safe d (inl is) = subst P (sym is) safe
    either_safe d (inr is) = subst P (sym is.1) (begun_safe is.0)

    absent : has_file actual beside ≡ false
    absent =
        no_content (file actual beside)
        (no_file actual beside free.no_file beside (itself_within beside) (file actual beside) refl)

    begin_step : (t : List DeviceEvent) → Reaches P bag t (Is actual)
        → Reaches P bag (t ++ event.Create beside ∷ []) (IsWriting [])
    begin_step t so_far =
        one_more t (Is actual) (IsWriting []) (event.Create beside) so_far
        (λ later d is.
        let now : done (event.Create beside) d ≡ create beside [] actual =
        ap (done (event.Create beside)) is ∙ done_create beside actual
        ∙ ap (create beside []) (nothing_named beside actual free.no_file free.no_folder) in
        record { either = inr ([], now); durable = λ _ _. now })
        (λ later d part is missing same. record {
          either = inl (same ∙ is);
          durable = λ base _.
              absurd (false≢true (sym missing ∙ ap (λ f. is_synced f later) (in_base beside beside_is) ∙ base));
        })
        (λ later d left is lost. absurd (false≢true (sym lost.0 ∙ base_there d beside beside_is)))
        (λ later d is. either_safe d is.either)

    wrote : (piece : List ℕ) (d : Bag) → IsPerhapsWithBegun beside actual d
        → IsPerhapsWithBegun beside actual (done (event.Write beside piece) d)
    wrote piece d (inl is) =
        inl (ap (done (event.Write beside piece)) is ∙ no_bytes beside piece actual absent)
    wrote piece d (inr is) =
        inr (is.0 ++ piece, ap (done (event.Write beside piece)) is.1 ∙ done_write beside is.0 piece actual)

    holds : (found : List ℕ) (d part : Bag) → part ≡ hold beside found d → IsPerhapsWithBegun beside actual d
        → IsPerhapsWithBegun beside actual part
    holds found d part same (inl is) =
        inl (same ∙ ap (hold beside found) is ∙ not_held beside found actual absent)
    holds found d part same (inr is) =
        inr (found, same ∙ ap (hold beside found) is.1 ∙ written_again beside is.0 found actual)

    write_step : (t : List DeviceEvent) (text piece : List ℕ) → Reaches P bag t (IsWriting text)
        → Reaches P bag (t ++ event.Write beside piece ∷ []) (IsWriting (text ++ piece))
    write_step t text piece so_far =
        one_more t (IsWriting text) (IsWriting (text ++ piece)) (event.Write beside piece) so_far
        (λ later d was. record {
          either = wrote piece d was.either;
          durable = λ base file_synced.
              ap (done (event.Write beside piece)) (was.durable base file_synced) ∙ done_write beside text piece actual;
        })
        (λ later d part was missing some. record {
          either = holds some.0 d part some.1 was.either;
          durable = λ base file_synced. absurd (false≢true (sym missing ∙ file_synced));
        })
        (λ later d left was lost. absurd lost)
        (λ later d is. either_safe d is.either)

    write_steps : (pieces : List (List ℕ)) (t : List DeviceEvent) (text : List ℕ) → Reaches P bag t (IsWriting text)
        → Reaches P bag (t ++ map (event.Write beside) pieces) (IsWriting (text ++ joined pieces))
    write_steps [] t text so_far =
        subst (λ es. Reaches P bag es (IsWriting (text ++ []))) (sym (append-nil t))
        (subst (λ bytes. Reaches P bag t (IsWriting bytes)) (sym (append-nil text)) so_far)
    write_steps (piece ∷ pieces) t text so_far =
        let all =
        write_steps pieces (t ++ event.Write beside piece ∷ []) (text ++ piece) (write_step t text piece so_far) in
        subst (λ es. Reaches P bag es (IsWriting (text ++ (piece ++ joined pieces))))
        (append_assoc t (event.Write beside piece ∷ []) (map (event.Write beside) pieces))
        (subst (λ bytes. Reaches P bag ((t ++ event.Write beside piece ∷ []) ++ map (event.Write beside) pieces)
        (IsWriting bytes)) (append_assoc text piece (joined pieces)) all)

    -- it is whole, and its name is durable
    whole_step : (t : List DeviceEvent) (bytes : List ℕ) → Reaches P bag t (IsWriting bytes)
        → Reaches P bag (t ++ event.Sync beside ∷ event.SyncFolder [] ∷ []) (Is (create beside bytes actual))
    whole_step t bytes so_far =
        weaker (t ++ event.Sync beside ∷ event.SyncFolder [] ∷ [])
        (λ later d. IsWriting bytes (event.Sync beside ∷ event.SyncFolder [] ∷ later) d)
        (Is (create beside bytes actual))
        (synced (event.Sync beside ∷ event.SyncFolder [] ∷ []) t (IsWriting bytes) so_far (tt, (tt, tt)))
        (λ later d is. is.durable refl (ap (λ b. b || is_file_synced beside (event.SyncFolder [] ∷ later))
        (same_name beside)))
        (λ later d is. subst P (sym is) (begun_safe bytes))

    module _ (name bytes : List ℕ) (name_is : is_base_name name ≡ true) (other : beside ≢ name)
        (no_folder : IsNoFolder actual name) (put_safe : P (create name bytes actual)) where
      -- it has its name, or not yet
      abbrev IsNamed : List DeviceEvent → Bag → Type 0
      IsNamed later d =
          (d ≡ create name bytes actual) ⊎ ((d ≡ create beside bytes actual) × (is_synced [] later ≡ false))

      named_safe : (later : List DeviceEvent) (d : Bag) → IsNamed later d → P d
      named_safe later d (inl is) = subst P (sym is) put_safe
      named_safe later d (inr is) = subst P (sym is.0) (begun_safe bytes)

      name_step : (t : List DeviceEvent) → Reaches P bag t (Is (create beside bytes actual))
          → Reaches P bag (t ++ event.Rename beside name ∷ []) IsNamed
      name_step t so_far =
          one_more t (Is (create beside bytes actual)) IsNamed (event.Rename beside name) so_far
          (λ later d is. inl (ap (done (event.Rename beside name)) is
          ∙ done_put beside name bytes actual beside_is name_is other free no_folder))
          (λ later d part is missing same. inr (
            same ∙ is,
            false_from_ne_true _ (λ base.
                false≢true (sym missing ∙ and_from _ _ (ap (λ f. is_synced f later) (in_base beside beside_is) ∙ base)
                (ap (λ f. is_synced f later) (in_base name name_is) ∙ base))),
          ))
          (λ later d left is lost. absurd (false≢true (sym lost.0 ∙ base_there d name name_is)))
          named_safe

      only_named : (later : List DeviceEvent) (d : Bag) → IsNamed (event.SyncFolder [] ∷ later) d
          → d ≡ create name bytes actual
      only_named later d (inl is) = is
      only_named later d (inr is) = absurd (false≢true (sym is.1))

      -- and has it for good
      put_step : (t : List DeviceEvent) → Reaches P bag t IsNamed
          → Reaches P bag (t ++ event.SyncFolder [] ∷ []) (Is (create name bytes actual))
      put_step t so_far =
          weaker (t ++ event.SyncFolder [] ∷ []) (λ later d. IsNamed (event.SyncFolder [] ∷ later) d)
          (Is (create name bytes actual)) (synced (event.SyncFolder [] ∷ []) t IsNamed so_far (tt, tt)) only_named
          (λ later d is. subst P (sym is) put_safe)

      pub put_on : (t before now : List DeviceEvent) → Reaches P bag t (Is actual)
          → AsksPut beside name bytes before now
          → Reaches P bag (t ++ now) (Is (create name bytes actual))
      put_on t before now so_far asks =
          subst (λ es. Reaches P bag es (Is (create name bytes actual)))
          (in_a_row firsts (map (event.Write beside) asks.pieces) ∙ ap (λ es. t ++ es) (sym asks.asked))
          (put_step _ (name_step _ (whole_step _ bytes
          (subst (λ text. Reaches P bag (((t ++ firsts) ++ event.Create beside ∷ [])
          ++ map (event.Write beside) asks.pieces) (IsWriting text)) asks.whole
          (write_steps asks.pieces _ [] (begin_step _ (synced firsts t (Is actual) so_far (tt, asks.are_syncs))))))))
        where
          firsts : List DeviceEvent
          firsts = event.SyncFolder [] ∷ asks.syncs

          in_a_row : (es ws : List DeviceEvent)
              → (((((t ++ es) ++ event.Create beside ∷ []) ++ ws) ++ event.Sync beside ∷ event.SyncFolder [] ∷ [])
              ++ event.Rename beside name ∷ []) ++ event.SyncFolder [] ∷ []
              ≡ t ++ (es ++ event.Create beside ∷ ws ++ event.Sync beside ∷ event.SyncFolder []
              ∷ event.Rename beside name ∷ event.SyncFolder [] ∷ [])
          in_a_row es ws = simp append_assoc

  module _ (actual : Bag) (safe : P actual) (name : List ℕ) (name_is : is_base_name name ≡ true)
      (lost_safe : P (lose name actual)) where
    -- it is removed, or not yet
    abbrev IsRemoved : List DeviceEvent → Bag → Type 0
    IsRemoved later d = (d ≡ lose name actual) ⊎ ((d ≡ actual) × (is_synced [] later ≡ false))

    removed_safe : (later : List DeviceEvent) (d : Bag) → IsRemoved later d → P d
    removed_safe later d (inl is) = subst P (sym is) lost_safe
    removed_safe later d (inr is) = subst P (sym is.0) safe

    only_removed : (later : List DeviceEvent) (d : Bag) → IsRemoved (event.SyncFolder [] ∷ later) d
        → d ≡ lose name actual
    only_removed later d (inl is) = is
    only_removed later d (inr is) = absurd (false≢true (sym is.1))

    remove_step : (t : List DeviceEvent) → Reaches P bag t (Is actual)
        → Reaches P bag (t ++ event.Remove name ∷ []) IsRemoved
    remove_step t so_far =
        one_more t (Is actual) IsRemoved (event.Remove name) so_far
        (λ later d is. inl (ap (done (event.Remove name)) is ∙ done_remove name actual))
        (λ later d part is missing same. inr (
          same ∙ is,
          sym (ap (λ f. is_synced f later) (in_base name name_is))
              ∙ missing,
        ))
        (λ later d left is lost. absurd lost) removed_safe

    pub remove_on : (t before now : List DeviceEvent) → Reaches P bag t (Is actual) → AsksRemove name before now
        → Reaches P bag (t ++ now) (Is (lose name actual))
    remove_on t before now so_far asks =
        subst (λ es. Reaches P bag es (Is (lose name actual)))
        (in_a_row firsts ∙ ap (λ es. t ++ es) (sym asks.asked))
        (weaker (((t ++ firsts) ++ event.Remove name ∷ []) ++ event.SyncFolder [] ∷ [])
        (λ later d. IsRemoved (event.SyncFolder [] ∷ later) d) (Is (lose name actual))
        (synced (event.SyncFolder [] ∷ []) ((t ++ firsts) ++ event.Remove name ∷ []) IsRemoved
        (remove_step (t ++ firsts) (synced firsts t (Is actual) so_far (tt, asks.are_syncs))) (tt, tt))
        only_removed (λ later d is. subst P (sym is) lost_safe))
      where
        firsts : List DeviceEvent
        firsts = event.SyncFolder [] ∷ asks.syncs

        in_a_row : (es : List DeviceEvent) → ((t ++ es) ++ event.Remove name ∷ []) ++ event.SyncFolder [] ∷ []
            ≡ t ++ (es ++ event.Remove name ∷ event.SyncFolder [] ∷ [])
        in_a_row es = simp append_assoc

  -- what is safe of the bag with the first of these changes, and perhaps a file that is begun
  abbrev AreSafe : List ℕ → List FileChange → Bag → Type 0
  AreSafe beside changes actual =
      (k : ℕ) → k ≤ length changes → (left : Bag)
      → IsPerhapsWithBegun beside (after_changes (take k changes) actual) left → P left

  module _ (beside : List ℕ) (beside_is : is_base_name beside ≡ true) where
    later_safe : (change : FileChange) (changes : List FileChange) (actual : Bag)
        → AreSafe beside (change ∷ changes) actual → AreSafe beside changes (changed change actual)
    later_safe change changes actual are k within left is = are (suc k) (omega arith) left is

    now_safe : (changes : List FileChange) (actual : Bag) → AreSafe beside changes actual → P actual
    now_safe changes actual are = are zero (omega arith) actual (inl refl)

    one_on : (change : FileChange) (changes : List FileChange) (actual : Bag) → CanChange beside change actual
        → AreSafe beside (change ∷ changes) actual → (t before now : List DeviceEvent) → Reaches P bag t (Is actual)
        → ChangeAsks beside change before now → Reaches P bag (t ++ now) (Is (changed change actual))
    one_on (Put name bytes) changes actual (is, other, free, no_folder) are t before now so_far asks =
        put_on beside beside_is actual free (now_safe (Put name bytes ∷ changes) actual are)
        (λ found. are zero (omega arith) (create beside found actual) (inr (found, refl)))
        name bytes is other no_folder
        (now_safe changes (create name bytes actual) (later_safe (Put name bytes) changes actual are)) t before now
        so_far asks
    one_on (Remove name) changes actual is are t before now so_far asks =
        remove_on actual (now_safe (Remove name ∷ changes) actual are) name is
        (now_safe changes (lose name actual) (later_safe (Remove name) changes actual are)) t before now so_far asks

    all_on : (changes : List FileChange) (actual : Bag) → CanChangeAll beside changes actual
        → AreSafe beside changes actual → (t before es : List DeviceEvent) → Reaches P bag t (Is actual)
        → ChangesAsk beside changes before es → Reaches P bag (t ++ es) (Is (after_changes changes actual))
    all_on [] actual can are t before es so_far none =
        subst (λ es. Reaches P bag (t ++ es) (Is actual)) (sym none)
        (subst (λ es. Reaches P bag es (Is actual)) (sym (append-nil t)) so_far)
    all_on (change ∷ changes) actual can are t before es so_far (now, later, is, asks, rest) =
        subst (λ es. Reaches P bag es (Is (after_changes changes (changed change actual))))
        (append_assoc t now later ∙ ap (λ es. t ++ es) (sym is))
        (all_on changes (changed change actual) can.1 (later_safe change changes actual are) (t ++ now) (before ++ now)
        later (one_on change changes actual can.0 are t before now so_far asks) rest)

-- ---- the laws

module _ (beside : List ℕ) (changes : List FileChange) (bag : Bag) (is : is_base_name beside ≡ true)
    (can : CanChangeAll beside changes bag) where
  abbrev P : Bag → Type 0
  P = IsAfterFirst beside changes bag

  are_safe : AreSafe P bag beside changes bag
  are_safe k within left here = record { k = k; within = within; is = here }

  at_first : Reaches P bag [] (Is bag)
  at_first =
      started (Is bag) (λ later. refl) (λ later d same.
      subst P (sym same) (are_safe zero (omega arith) bag (inl refl)))

  runs : (before events : List DeviceEvent) → ChangesAsk beside changes before events
      → Reaches P bag events (Is (after_changes changes bag))
  runs before events asks = all_on P bag beside is changes bag can are_safe [] before events at_first asks

pub cuts_leave_first_changes : CutsLeaveFirstChanges
cuts_leave_first_changes beside changes bag before events is can some front back parts left may =
    elim (front_of_two some.first some.refused front back (sym some.is ∙ parts)) [
      | inl (rest, front_is) ↦ of_first front rest front_is left may
      | inr (more, rest, front_is, refused_is) ↦
          let between = left_between some.first more bag left
          (subst (λ (es : List DeviceEvent). MayLeave es bag left) front_is may) in
          let are = first_change_nothing more rest (subst ChangeNothing refused_is some.are_refused) in
          let same = nothing_left more between.0 left are between.2 in
          subst (IsAfterFirst beside changes bag) (sym same)
          (of_first some.first [] (sym (append-nil some.first)) between.0 between.1)
    ]
  where
    of_first : (front rest : List DeviceEvent) → some.first ≡ front ++ rest → (left : Bag) → MayLeave front bag left
        → IsAfterFirst beside changes bag left
    of_first front rest front_is left may =
        (runs beside changes bag is can before (some.first ++ some.rest) some.asked).each front (rest ++ some.rest)
        (ap (λ (es : List DeviceEvent). es ++ some.rest) front_is ∙ append_assoc front rest some.rest) left may

pub changes_are_durable : ChangesAreDurable
changes_are_durable beside changes bag before events is can asks left may =
    let last =
    (runs beside changes bag is can before events asks).on [] left
    (subst (λ (es : List DeviceEvent). MayLeave es bag left) (sym (append-nil events)) may) in
    last.2 ∙ last.1
