-- What a power cut leaves at each moment of a making.
use Rattle.bag_make.proofs.Common.{arith, ◌≡◌, ◌++◌, ◌∷◌, ℕ, inl, inr, true, false, cond, List, [], Some, is_some}
use Rattle.bag_make.proofs.Common.{get_or, map, refl, ap, sym, ◌∙◌, subst, append-nil, append_assoc, AllByRecursion}
use Rattle.bag_make.proofs.Common.{list_any, bytes_eq, first_component, under, Bag, HasFile, file, has_folder, create}
use Rattle.bag_make.proofs.Common.{make_folder, move_in, rename_folder, is_synced, AreSyncs, ChangeNothing, joined}
use Rattle.bag_make.proofs.Common.{MayLeave, is_in_the_way, File, new_file, new_folder, data_folder, after_steps}
use Rattle.bag_make.proofs.Common.{steps_for, AllAsk, AsksFolder, AsksMove, AsksFile, AsksPart, has_durable_folders}
use Rattle.bag_make.proofs.Common.{MoveIn, Rename, contains-insert, nat_list_cmp_total}
use Rattle.bag_tree.proofs.Events.{made_durable, nothing_named}
use Rattle.bag_tree.proofs.Runs.{started, synced, unchanged}
use Rattle.bag_tree.proofs.Within.{IsWithin}
use Rattle.bag_tree.specs.Cut.{lose}
use Rattle.bag_tree.specs.Steps.{has_within}
use Rattle.bag_tree.specs.declared.event.DeviceEvent.{DeviceEvent}
use Rattle.bag_tree.specs.declared.event.DeviceEvent.TheVariants as event
use Rattle.bag_make.proofs.Asking.{SomeAsk}
use Rattle.bag_make.proofs.StepsMake.{moved_folders}
use Rattle.std.specs.Cmp.Lexicographic.{texts_ties}
use Rattle.bag_make.proofs.Told.{IsKept}
use Rattle.bag_make.proofs.Placed.{IsPlaced, IsTop, placed_by, moves_placed, all_under_data}
use Rattle.bag_make.proofs.Phases as phase
use Rattle.bag_facts.proofs.Found.{none_there}
use Rattle.bag_make.proofs.Phases.{Reaches, AllIn, IsTagName, begun, IsMade, IsMoving, IsNamed, IsLast}
use Rattle.bag_make.proofs.Phases.{IsWriting}

-- none of these names comes twice
abbrev pub AreDistinct : List (List ℕ) → Type 0
AreDistinct [] = Unit {0}
AreDistinct (top ∷ left) = (list_any (bytes_eq top) left ≡ false) × AreDistinct left

abbrev pub AreTagFiles : List File → Type 0
AreTagFiles tags = AllByRecursion (λ (e : File). IsTagName e.0) tags

-- the bag can be made by moving these names and writing these tag files
pub record CanBeMadeBy (bag : Bag) (names : List (List ℕ)) (tags : List File) : Type 0 where
  pub free : is_in_the_way bag ≡ false
  pub tops : AllByRecursion IsTop names
  pub distinct : AreDistinct names
  -- each file stands at one of the names or below it
  pub all : (path : List ℕ) → HasFile bag path → list_any (bytes_eq (first_component path)) names ≡ true
  -- and so does a folder `data`
  pub own : has_folder bag data_folder ≡ true → list_any (bytes_eq data_folder) names ≡ true
  pub tag_names : AreTagFiles tags

-- the bag when these files are made in it, one after another
abbrev pub with_files : List File → Bag → Bag
with_files [] b = b
with_files (e ∷ es) b = with_files es (create e.0 e.1 (lose e.0 b))

-- their names are free
abbrev pub AreFree : List File → Bag → Type 0
AreFree [] b = Unit {0}
AreFree (e ∷ es) b = (has_within b e.0 ≡ false) × (has_folder b e.0 ≡ false) × AreFree es (create e.0 e.1 b)

-- where nothing is lost that had one of their names
pub all_made : (es : List File) (b : Bag) → AreFree es b → with_files es b ≡ after_steps (map new_file es) b
all_made [] b free = refl
all_made (e ∷ es) b free =
    ap (λ x. with_files es (create e.0 e.1 x)) (nothing_named e.0 b free.0 free.1)
    ∙ all_made es (create e.0 e.1 b) free.2

-- at each moment of these events the folder is kept
abbrev pub IsSafe : Bag → List DeviceEvent → Type 0
IsSafe bag t = (before after : List DeviceEvent) → t ≡ before ++ after → (left : Bag) → MayLeave before bag left
    → IsKept bag left

ends : (bag : Bag) (t es ds : List DeviceEvent) (Q : List DeviceEvent → Bag → Type 0) → es ≡ ds
    → Reaches bag (t ++ ds) Q → Reaches bag (t ++ es) Q
ends bag t es ds Q is so_far = subst (λ (xs : List DeviceEvent). Reaches bag (t ++ xs) Q) (sym is) so_far

safe_on : (bag : Bag) (t now later es : List DeviceEvent) → es ≡ now ++ later → IsSafe bag ((t ++ now) ++ later)
    → IsSafe bag (t ++ es)
safe_on bag t now later es is safe =
    subst (IsSafe bag) (append_assoc t now later ∙ ap (λ (xs : List DeviceEvent). t ++ xs) (sym is)) safe

goes : (bag : Bag) (t now later es : List DeviceEvent) (Q : List DeviceEvent → Bag → Type 0) → es ≡ now ++ later
    → Reaches bag ((t ++ now) ++ later) Q → Reaches bag (t ++ es) Q
goes bag t now later es Q is so_far =
    subst (λ (xs : List DeviceEvent). Reaches bag xs Q)
    (append_assoc t now later ∙ ap (λ (xs : List DeviceEvent). t ++ xs) (sym is)) so_far

-- what stands in the one folder isn't within the other
other_start : (p : List ℕ) → IsWithin data_folder (under new_folder p) → ⊥
other_start p (inl at) = absurd (omega (arith, ap (λ t. get_or t 0 0) at))
other_start p (inr (rest, below)) = absurd (omega (arith, ap (λ t. get_or t 0 0) below))

module _ (bag : Bag) (free : is_in_the_way bag ≡ false) where
  safe : (t : List DeviceEvent) (Q : List DeviceEvent → Bag → Type 0) → Reaches bag t Q → IsSafe bag t
  safe t Q so_far = so_far.each

  refused : (t es : List DeviceEvent) (Q : List DeviceEvent → Bag → Type 0) → Reaches bag t Q → ChangeNothing es
      → IsSafe bag (t ++ es)
  refused t es Q so_far are = (unchanged es t Q so_far are).each

  -- each step goes on
  begun_data : has_folder (begun bag free) data_folder ≡ has_folder bag data_folder
  begun_data = contains-insert nat_list_cmp_total bag.folders new_folder data_folder

  make_on : (t before now : List DeviceEvent) → Reaches bag t (λ later d. d ≡ bag) → AsksFolder new_folder before now
      → Reaches bag (t ++ now) (IsMade bag free)
  make_on t before now so_far asks =
      ends bag t now (asks.syncs ++ event.MakeFolder new_folder ∷ []) (IsMade bag free) asks.asked
      (subst (λ es. Reaches bag es (IsMade bag free)) (append_assoc t asks.syncs (event.MakeFolder new_folder ∷ []))
      (phase.make_step bag free (t ++ asks.syncs) (synced asks.syncs t (λ later d. d ≡ bag) so_far asks.are_syncs)))

  module _ (left : List (List ℕ)) (top : List ℕ) (is : IsTop top) (once : list_any (bytes_eq top) left ≡ false)
      (t before now : List DeviceEvent) (asks : AsksMove top new_folder before now) where
    move_on : (actual : Bag) → Reaches bag t (IsMoving bag free (top ∷ left) actual)
        → Reaches bag (t ++ now) (IsMoving bag free left (move_in top new_folder actual))
    move_on actual so_far =
        ends bag t now (asks.syncs ++ event.Rename top (under new_folder top) ∷ [])
        (IsMoving bag free left (move_in top new_folder actual)) asks.asked
        (subst (λ es. Reaches bag es (IsMoving bag free left (move_in top new_folder actual)))
        (append_assoc t asks.syncs (event.Rename top (under new_folder top) ∷ []))
        (phase.move_step bag free left actual top is once (t ++ asks.syncs)
        (phase.moving_synced bag free (top ∷ left) actual t asks.syncs so_far asks.are_syncs)))

    first_on : Reaches bag t (IsMade bag free) → is_synced [] asks.syncs ≡ true
        → Reaches bag (t ++ now) (IsMoving bag free left (move_in top new_folder (begun bag free)))
    first_on so_far durable =
        ends bag t now (asks.syncs ++ event.Rename top (under new_folder top) ∷ [])
        (IsMoving bag free left (move_in top new_folder (begun bag free))) asks.asked
        (subst (λ es. Reaches bag es (IsMoving bag free left (move_in top new_folder (begun bag free))))
        (append_assoc t asks.syncs (event.Rename top (under new_folder top) ∷ []))
        (phase.move_step bag free left (begun bag free) top is once (t ++ asks.syncs)
        (phase.can_move bag free (top ∷ left) (t ++ asks.syncs)
        (phase.made_durable bag free t asks.syncs so_far asks.are_syncs durable))))

  rename_on : (actual : Bag) (t now : List DeviceEvent) (syncs : List DeviceEvent)
      → now ≡ syncs ++ event.Rename new_folder data_folder ∷ []
      → has_folder actual new_folder ≡ true → has_within actual data_folder ≡ false
      → has_folder actual data_folder ≡ false → AllIn new_folder bag actual
      → AllIn data_folder bag (rename_folder new_folder data_folder actual)
      → Reaches bag (t ++ syncs) (λ later d. d ≡ actual)
      → Reaches bag (t ++ now) (IsNamed bag free (rename_folder new_folder data_folder actual))
  rename_on actual t now syncs is there none none_yet new data_ so_far =
      ends bag t now (syncs ++ event.Rename new_folder data_folder ∷ [])
      (IsNamed bag free (rename_folder new_folder data_folder actual)) is
      (subst (λ es. Reaches bag es (IsNamed bag free (rename_folder new_folder data_folder actual)))
      (append_assoc t syncs (event.Rename new_folder data_folder ∷ []))
      (phase.rename_step bag free actual (t ++ syncs) there none none_yet new data_ so_far))

  written : (actual : Bag) (t syncs : List DeviceEvent) (pieces : List (List ℕ)) (name : List ℕ) → IsTagName name
      → Reaches bag t (IsNamed bag free actual) → AreSyncs syncs
      → Reaches bag (((t ++ syncs) ++ event.Create name ∷ []) ++ map (event.Write name) pieces)
      (IsWriting bag free name (joined pieces) (lose name actual))
  written actual t syncs pieces name is so_far are =
      phase.write_steps bag free (lose name actual) name is.0 pieces ((t ++ syncs) ++ event.Create name ∷ []) []
      (phase.create_step bag free actual (t ++ syncs) name is (phase.named_synced bag free actual t syncs so_far are))

  in_a_row : (t syncs ws more : List DeviceEvent) (name : List ℕ)
      → (((t ++ syncs) ++ event.Create name ∷ []) ++ ws) ++ more ≡ t ++ (syncs ++ event.Create name ∷ ws ++ more)
  in_a_row t syncs ws more name = simp append_assoc

  file_on : (actual : Bag) (t before now : List DeviceEvent) (name bytes : List ℕ) → IsTagName name
      → Reaches bag t (IsNamed bag free actual) → AsksFile name bytes before now
      → Reaches bag (t ++ now) (IsLast bag free (create name bytes (lose name actual)))
  file_on actual t before now name bytes is so_far asks =
      let ws = map (event.Write name) asks.pieces in
      let front = ((t ++ asks.syncs) ++ event.Create name ∷ []) ++ ws in
      let emptied = lose name actual in
      let file =
      phase.file_step bag free emptied front name (joined asks.pieces)
      (written actual t asks.syncs asks.pieces name is so_far asks.are_syncs) in
      let last =
      phase.base_step bag free (create name (joined asks.pieces) emptied) (front ++ event.Sync name ∷ []) file in
      ends bag t now _ (IsLast bag free (create name bytes emptied)) asks.asked
      (subst (λ es. Reaches bag es (IsLast bag free (create name bytes emptied)))
      (append_assoc front (event.Sync name ∷ []) (event.SyncFolder [] ∷ [])
      ∙ in_a_row t asks.syncs ws (event.Sync name ∷ event.SyncFolder [] ∷ []) name)
      (subst (λ b. Reaches bag ((front ++ event.Sync name ∷ []) ++ event.SyncFolder [] ∷ [])
      (IsLast bag free (create name b emptied))) asks.whole last))

  part_on : (actual : Bag) (t before now : List DeviceEvent) (name : List ℕ) → IsTagName name
      → Reaches bag t (IsNamed bag free actual) → AsksPart name before now → IsSafe bag (t ++ now)
  part_on actual t before now name is so_far asks =
      let ws = map (event.Write name) asks.pieces in
      subst (IsSafe bag)
      (in_a_row t asks.syncs ws asks.after name ∙ ap (λ (xs : List DeviceEvent). t ++ xs) (sym asks.asked))
      (unchanged asks.after (((t ++ asks.syncs) ++ event.Create name ∷ []) ++ ws) _
      (written actual t asks.syncs asks.pieces name is so_far asks.are_syncs) asks.are_after).each

  -- the tag files, up to one that is refused
  some_files : (tags : List File) (actual : Bag) (t before es : List DeviceEvent) → AreTagFiles tags
      → Reaches bag t (IsNamed bag free actual) → SomeAsk (map new_file tags) before es → IsSafe bag (t ++ es)
  some_files [] actual t before es names so_far is =
      (ends bag t es [] (IsNamed bag free actual) is
      (subst (λ xs. Reaches bag xs (IsNamed bag free actual)) (sym (append-nil t)) so_far)).each
  some_files (e ∷ tags) actual t before es names so_far (inl (inl syncs)) = refused t es _ so_far syncs
  some_files (e ∷ tags) actual t before es names so_far (inl (inr part)) =
      part_on actual t before es e.0 names.0 so_far part
  some_files (e ∷ tags) actual t before es names so_far (inr (now, later, is, asks, rest)) =
      safe_on bag t now later es is
      (some_files tags (create e.0 e.1 (lose e.0 actual)) (t ++ now) (before ++ now) later names.1
      (phase.last_named bag free _ (t ++ now) (file_on actual t before now e.0 e.1 names.0 so_far asks)) rest)

  -- and all of them
  all_files : (e : File) (tags : List File) (actual : Bag) (t before es : List DeviceEvent) → AreTagFiles (e ∷ tags)
      → Reaches bag t (IsNamed bag free actual) → AllAsk (map new_file (e ∷ tags)) before es
      → Reaches bag (t ++ es) (IsLast bag free (with_files (e ∷ tags) actual))
  all_files e [] actual t before es names so_far (now, later, is, asks, rest) =
      let now_is : es ≡ now = is ∙ ap (λ (xs : List DeviceEvent). now ++ xs) rest ∙ append-nil now in
      ends bag t es now _ now_is (file_on actual t before now e.0 e.1 names.0 so_far asks)
  all_files e (f ∷ tags) actual t before es names so_far (now, later, is, asks, rest) =
      goes bag t now later es _ is
      (all_files f tags (create e.0 e.1 (lose e.0 actual)) (t ++ now) (before ++ now) later names.1
      (phase.last_named bag free _ (t ++ now) (file_on actual t before now e.0 e.1 names.0 so_far asks)) rest)

  module _ (names : List (List ℕ)) (tops : AllByRecursion IsTop names) (distinct : AreDistinct names)
      (all : (p : List ℕ) → HasFile bag p → list_any (bytes_eq (first_component p)) names ≡ true)
      (own : has_folder bag data_folder ≡ true → list_any (bytes_eq data_folder) names ≡ true) where
    abbrev pub filled : Bag
    filled = after_steps (map MoveIn names) (begun bag free)

    filled_placed : IsPlaced bag (placed_by (λ t. list_any (bytes_eq t) names)) filled.files
    filled_placed =
        moves_placed bag free names (λ _. false) (begun bag free) tops
        (record { from = λ q c at. (q, refl, at); to = λ p c at. at })

    filled_there : has_folder filled new_folder ≡ true
    filled_there = phase.all_there bag free names (begun bag free) tops (phase.begun_there bag free)

    in_new : AllIn new_folder bag filled
    in_new p c at =
        subst (λ b. file filled (cond b (under new_folder p) p) ≡ Some c) (all p (ap is_some at))
        (filled_placed.to p c at)

    pub data_placed : IsPlaced bag (under data_folder) (rename_folder new_folder data_folder filled).files
    data_placed = all_under_data bag free (λ t. list_any (bytes_eq t) names) filled.files filled_placed all

    in_data : AllIn data_folder bag (rename_folder new_folder data_folder filled)
    in_data p c at = data_placed.to p c at

    -- nothing is left where the folder of the payload is to be
    no_data : has_within filled data_folder ≡ false
    no_data = none_there filled data_folder (λ q c at within.
        let old = filled_placed.from q c at in
        let moved : q ≡ under new_folder old.0 =
        old.1 ∙ ap (λ b. cond b (under new_folder old.0) old.0) (all old.0 (ap is_some old.2)) in
        other_start old.0 (subst (IsWithin data_folder) moved within))

    no_folder : has_folder filled data_folder ≡ false
    no_folder = grind (arith, moved_folders names (begun bag free) data_folder, texts_ties, own, begun_data)

    filled_whole : IsKept bag filled
    filled_whole = phase.all_whole bag filled (inl (in_new, no_folder))

    module _ (tags : List File) (bases : AreTagFiles tags) where
      -- once all names are moved
      some_named : (t before es : List DeviceEvent)
          → ((syncs : List DeviceEvent) → AreSyncs syncs → is_synced new_folder syncs ≡ true → is_synced [] syncs ≡ true
          → Reaches bag (t ++ syncs) (λ later d. d ≡ filled))
          → ((syncs : List DeviceEvent) → ChangeNothing syncs → IsSafe bag (t ++ syncs))
          → SomeAsk (Rename ∷ map new_file tags) before es → IsSafe bag (t ++ es)
      some_named t before es durable stops (inl syncs) = stops es syncs
      some_named t before es durable stops (inr (now, later, is, asks, rest)) =
          safe_on bag t now later es is (some_files tags _ (t ++ now) (before ++ now) later bases
          (rename_on filled t now asks.syncs asks.asked filled_there no_data no_folder in_new in_data
          (durable asks.syncs asks.are_syncs asks.durable asks.base_durable)) rest)

      all_named : (e : File) (more : List File) → tags ≡ e ∷ more → (t before es : List DeviceEvent)
          → ((syncs : List DeviceEvent) → AreSyncs syncs → is_synced new_folder syncs ≡ true → is_synced [] syncs ≡ true
          → Reaches bag (t ++ syncs) (λ later d. d ≡ filled))
          → AllAsk (Rename ∷ map new_file tags) before es
          → Reaches bag (t ++ es) (IsLast bag free (with_files tags (rename_folder new_folder data_folder filled)))
      all_named e more are t before es durable (now, later, is, asks, rest) =
          let so_far =
          rename_on filled t now asks.syncs asks.asked filled_there no_data no_folder in_new in_data
          (durable asks.syncs asks.are_syncs asks.durable asks.base_durable) in
          let last =
          all_files e more _ (t ++ now) (before ++ now) later (subst AreTagFiles are bases) so_far
          (subst (λ (ts : List File). AllAsk (map new_file ts) (before ++ now) later) are rest) in
          goes bag t now later es _ is
          (subst (λ (ts : List File). Reaches bag ((t ++ now) ++ later)
          (IsLast bag free (with_files ts (rename_folder new_folder data_folder filled)))) (sym are) last)

      -- the names that are still to be moved
      some_moves : (left : List (List ℕ)) (actual : Bag) (t before es : List DeviceEvent) → AllByRecursion IsTop left
          → AreDistinct left → after_steps (map MoveIn left) actual ≡ filled
          → Reaches bag t (IsMoving bag free left actual)
          → SomeAsk (map MoveIn left ++ Rename ∷ map new_file tags) before es → IsSafe bag (t ++ es)
      some_moves [] actual t before es are once is so_far asks =
          some_named t before es
          (λ syncs are_syncs new base.
          phase.moves_durable bag free [] filled t syncs filled_whole
          (subst (λ b. Reaches bag t (IsMoving bag free [] b)) is so_far) are_syncs base new)
          (λ syncs are_syncs. refused t syncs _ so_far are_syncs) asks
      some_moves (top ∷ left) actual t before es are once is so_far (inl syncs) = refused t es _ so_far syncs
      some_moves (top ∷ left) actual t before es are once is so_far (inr (now, later, parts, asks, rest)) =
          safe_on bag t now later es parts
          (some_moves left (move_in top new_folder actual) (t ++ now) (before ++ now) later are.1 once.1 is
          (move_on left top are.0 once.0 t before now asks actual so_far) rest)

      all_moves : (e : File) (more : List File) → tags ≡ e ∷ more
          → (left : List (List ℕ)) (actual : Bag) (t before es : List DeviceEvent) → AllByRecursion IsTop left
          → AreDistinct left
          → after_steps (map MoveIn left) actual ≡ filled → Reaches bag t (IsMoving bag free left actual)
          → AllAsk (map MoveIn left ++ Rename ∷ map new_file tags) before es
          → Reaches bag (t ++ es) (IsLast bag free (with_files tags (rename_folder new_folder data_folder filled)))
      all_moves e more some [] actual t before es are once is so_far asks =
          all_named e more some t before es
          (λ syncs are_syncs new base. phase.moves_durable bag free [] filled t syncs filled_whole
          (subst (λ b. Reaches bag t (IsMoving bag free [] b)) is so_far) are_syncs base new) asks
      all_moves e more some (top ∷ left) actual t before es are once is so_far (now, later, parts, asks, rest) =
          goes bag t now later es _ parts
          (all_moves e more some left (move_in top new_folder actual) (t ++ now) (before ++ now) later are.1 once.1 is
          (move_on left top are.0 once.0 t before now asks actual so_far) rest)

      -- from the folder on
      folder_durable : (before now : List DeviceEvent) → (made : AsksFolder new_folder before now)
          → (syncs : List DeviceEvent) → AreSyncs syncs → has_durable_folders ((before ++ now) ++ syncs) ≡ true
          → is_synced [] syncs ≡ true
      folder_durable before now made syncs are durable =
          made_durable new_folder (before ++ made.syncs) syncs are
          (subst (λ (xs : List DeviceEvent). has_durable_folders xs ≡ true) in_order durable)
        where
          in_order : (before ++ now) ++ syncs ≡ (before ++ made.syncs) ++ event.MakeFolder new_folder ∷ syncs
          in_order = ap (λ (xs : List DeviceEvent). (before ++ xs) ++ syncs) made.asked ∙ simp append_assoc

      none_left : [] ≡ names → filled ≡ begun bag free
      none_left is = ap (λ (ns : List (List ℕ)). after_steps (map MoveIn ns) (begun bag free)) (sym is)

      from_folder : (ns : List (List ℕ)) → ns ≡ names → (t before now es : List DeviceEvent)
          → AsksFolder new_folder before now → Reaches bag t (IsMade bag free)
          → SomeAsk (map MoveIn ns ++ Rename ∷ map new_file tags) (before ++ now) es → IsSafe bag (t ++ es)
      from_folder [] is t before now es made so_far asks =
          some_named t (before ++ now) es
          (λ syncs are_syncs new base.
          subst (λ (b : Bag). Reaches bag (t ++ syncs) (λ later d. d ≡ b)) (sym (none_left is))
          (phase.made_durable bag free t syncs so_far are_syncs base))
          (λ syncs are_syncs. refused t syncs _ so_far are_syncs) asks
      from_folder (top ∷ ns) is t before now es made so_far (inl syncs) = refused t es _ so_far syncs
      from_folder (top ∷ ns) is t before now es made so_far (inr (next, later, parts, asks, rest)) =
          let two = subst (AllByRecursion IsTop) (sym is) tops in
          let once = subst AreDistinct (sym is) distinct in
          safe_on bag t next later es parts
          (some_moves ns (move_in top new_folder (begun bag free)) (t ++ next) ((before ++ now) ++ next) later two.1
          once.1
          (ap (λ (ns : List (List ℕ)). after_steps (map MoveIn ns) (begun bag free)) is)
          (first_on ns top two.0 once.0 t (before ++ now) next asks so_far
          (folder_durable before now made asks.syncs asks.are_syncs asks.durable)) rest)

      all_from_folder : (e : File) (more : List File) → tags ≡ e ∷ more → (ns : List (List ℕ)) → ns ≡ names
          → (t before now es : List DeviceEvent) → AsksFolder new_folder before now → Reaches bag t (IsMade bag free)
          → AllAsk (map MoveIn ns ++ Rename ∷ map new_file tags) (before ++ now) es
          → Reaches bag (t ++ es) (IsLast bag free (with_files tags (rename_folder new_folder data_folder filled)))
      all_from_folder e more some [] is t before now es made so_far asks =
          all_named e more some t (before ++ now) es
          (λ syncs are_syncs new base. subst (λ (b : Bag). Reaches bag (t ++ syncs) (λ later d. d ≡ b))
          (sym (none_left is)) (phase.made_durable bag free t syncs so_far are_syncs base)) asks
      all_from_folder e more some (top ∷ ns) is t before now es made so_far (next, later, parts, asks, rest) =
          let two = subst (AllByRecursion IsTop) (sym is) tops in
          let once = subst AreDistinct (sym is) distinct in
          goes bag t next later es _ parts
          (all_moves e more some ns (move_in top new_folder (begun bag free)) (t ++ next) ((before ++ now) ++ next)
          later two.1 once.1
          (ap (λ (ns : List (List ℕ)). after_steps (map MoveIn ns) (begun bag free)) is)
          (first_on ns top two.0 once.0 t (before ++ now) next asks so_far
          (folder_durable before now made asks.syncs asks.are_syncs asks.durable)) rest)

-- the bag when all names are moved and the folder has its last name
abbrev pub named_by : Bag → List (List ℕ) → Bag
named_by bag names = rename_folder new_folder data_folder (after_steps (map MoveIn names) (make_folder new_folder bag))

nothing_yet : (bag : Bag) → Reaches bag [] (λ later d. d ≡ bag)
nothing_yet bag =
    started (λ later d. d ≡ bag) (λ later. refl) (λ later d is.
    subst (IsKept bag) (sym is) (phase.itself_whole bag))

-- at each moment, whether a step was refused or not
pub each_moment : (bag : Bag) (names : List (List ℕ)) (tags : List File) → CanBeMadeBy bag names tags
    → (before es : List DeviceEvent) → SomeAsk (steps_for names tags) before es → IsSafe bag es
each_moment bag names tags can before es (inl syncs) = refused bag can.free [] es _ (nothing_yet bag) syncs
each_moment bag names tags can before es (inr (now, later, is, asks, rest)) =
    subst (IsSafe bag) (sym is)
    (from_folder bag can.free names can.tops can.distinct can.all can.own tags can.tag_names names refl now before now later
    asks (make_on bag can.free [] before now (nothing_yet bag) asks) rest)

-- and after all steps
pub at_the_end : (bag : Bag) (names : List (List ℕ)) (e : File) (more : List File)
    → (can : CanBeMadeBy bag names (e ∷ more)) → (before es : List DeviceEvent)
    → AllAsk (steps_for names (e ∷ more)) before es
    → (left : Bag) → MayLeave es bag left → left ≡ with_files (e ∷ more) (named_by bag names)
at_the_end bag names e more can before es (now, later, is, asks, rest) left may =
    let last =
    all_from_folder bag can.free names can.tops can.distinct can.all can.own (e ∷ more) can.tag_names e more refl names refl
    now before now later asks (make_on bag can.free [] before now (nothing_yet bag) asks) rest in
    let from =
    last.on [] left (subst (λ (xs : List DeviceEvent). MayLeave xs bag left) (is ∙ sym (append-nil (now ++ later)))
    may) in
    from.2 ∙ from.1.durable
