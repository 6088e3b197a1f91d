-- That a sync which is left out may lose what was done.
use Rattle.bag_tree.proofs.Common.{arith, ◌≡◌, ◌≢◌, ◌<◌, ◌≤◌, ◌++◌, ◌∷◌, ◌&&◌, and_from, length, length-append, slash}
use Rattle.bag_tree.proofs.Common.{ℕ, inl, inr, Bool, true, false, cond, map, bytes_eq, Contains, List, []}
use Rattle.bag_tree.proofs.Common.{bytes_eq-Decides, refl, ap, sym, ◌∙◌, and_parts, or_right, false≢true, under}
use Rattle.std.proofs.Common.{◌||◌, None, Option, is_some, not, subst}
use Rattle.std.proofs.lemmas.Bool.{false_from_ne_true, or_cases, or_left}
use Rattle.std.proofs.lemmas.List.Elements.{Contains-append_right}
use Rattle.std.specs.FinMap as fin
use Rattle.std.specs.List.{list_any}
use Rattle.bag_tree.proofs.Parents.{is_slash}
use Rattle.bag_tree.proofs.Events.{apart as done_apart, done_nothing, done_sync, in_base, in_folder_of, no_bytes}
use Rattle.bag_tree.proofs.Events.{other_name, without_slash}
use Rattle.bag_tree.proofs.Moving.{moves_all}
use Rattle.bag_tree.proofs.SameText.{exact_texts}
use Rattle.bag_tree.proofs.Within.{IsWithin, within_cases}
use Rattle.bag_tree.specs.Asked.{AreSyncs}
use Rattle.bag_tree.specs.Bag.{Bag, file, has_file}
use Rattle.bag_tree.specs.Moved.{is_within, moved}
use Rattle.bag_tree.specs.Cut.{MayBecome, MayLeave, done, folder_of, is_anew, is_file_synced, is_on_way, is_synced}
use Rattle.bag_tree.specs.Cut.{is_there, rename, without}
use Rattle.bag_tree.specs.LeftOutSyncs.{AreSyncsWithout, BytesMayBeAny, FilesMayBeMissing, MovesMayLose}
use Rattle.bag_tree.specs.LeftOutSyncs.{RefusedSyncsMayLose, RenamesMayBeUndone, RenamesMayLose, GivesAnew}
use Rattle.bag_tree.specs.LeftOutSyncs.{SyncsAreOfTheNewFile, SyncsAreOfTheNewFolder}
use Rattle.bag_tree.specs.Steps.{create}
use Rattle.bag_tree.specs.declared.event.DeviceEvent.{DeviceEvent}
use Rattle.bag_tree.specs.declared.event.DeviceEvent.TheVariants.{MakeFolder, Rename, Create, Remove, Write, Sync}
use Rattle.bag_tree.specs.declared.event.DeviceEvent.TheVariants.{SyncFolder, SyncRefused}

first_of : (e : DeviceEvent) (es : List DeviceEvent) → Contains (e ∷ es) e
first_of e es = (0, omega arith, refl)

later_of : (e x : DeviceEvent) (es : List DeviceEvent) → Contains es x → Contains (e ∷ es) x
later_of e x es has = Contains-append_right (e ∷ []) es x has

-- what is synced has its sync
synced_has : (folder : List ℕ) (es : List DeviceEvent) → AreSyncs es → is_synced folder es ≡ true
    → Contains es (SyncFolder folder)
synced_has folder [] are is = absurd (false≢true is)
synced_has folder (SyncFolder f ∷ es) are is = elim (or_cases (bytes_eq f folder) (is_synced folder es) is) [
  | inl same ↦ subst (λ x. Contains (SyncFolder f ∷ es) (SyncFolder x)) ((bytes_eq-Decides f folder).0 same)
      (first_of (SyncFolder f) es)
  | inr more ↦ later_of (SyncFolder f) (SyncFolder folder) es (synced_has folder es are.1 more)
]
synced_has folder (Sync n ∷ es) are is = later_of (Sync n) (SyncFolder folder) es (synced_has folder es are.1 is)
synced_has folder (MakeFolder n ∷ es) are is = absurd are.0
synced_has folder (Rename from to ∷ es) are is = absurd are.0
synced_has folder (Create n ∷ es) are is = absurd are.0
synced_has folder (Remove n ∷ es) are is = absurd are.0
synced_has folder (Write n bytes ∷ es) are is = absurd are.0
synced_has folder (SyncRefused p ∷ es) are is = absurd are.0

file_synced_has : (name : List ℕ) (es : List DeviceEvent) → AreSyncs es → is_file_synced name es ≡ true
    → Contains es (Sync name)
file_synced_has name [] are is = absurd (false≢true is)
file_synced_has name (Sync n ∷ es) are is = elim (or_cases (bytes_eq n name) (is_file_synced name es) is) [
  | inl same ↦ subst (λ x. Contains (Sync n ∷ es) (Sync x)) ((bytes_eq-Decides n name).0 same) (first_of (Sync n) es)
  | inr more ↦ later_of (Sync n) (Sync name) es (file_synced_has name es are.1 more)
]
file_synced_has name (SyncFolder f ∷ es) are is =
    later_of (SyncFolder f) (Sync name) es (file_synced_has name es are.1 is)
file_synced_has name (MakeFolder n ∷ es) are is = absurd are.0
file_synced_has name (Rename from to ∷ es) are is = absurd are.0
file_synced_has name (Create n ∷ es) are is = absurd are.0
file_synced_has name (Remove n ∷ es) are is = absurd are.0
file_synced_has name (Write n bytes ∷ es) are is = absurd are.0
file_synced_has name (SyncRefused p ∷ es) are is = absurd are.0

not_synced : (folder : List ℕ) (es : List DeviceEvent) → AreSyncsWithout (SyncFolder folder) es
    → is_synced folder es ≡ false
not_synced folder es are = false_from_ne_true _ (λ is. are.1 (synced_has folder es are.0 is))

-- syncs alone, and events after them, change nothing
past_syncs : (es later : List DeviceEvent) (bag left : Bag) → AreSyncs es → MayLeave later bag left
    → MayLeave (es ++ later) bag left
past_syncs [] later bag left are may = may
past_syncs (e ∷ es) later bag left are may =
    (bag, inl (sym (done_sync e bag are.0)), past_syncs es later bag left are.1 may)

syncs_leave : (es : List DeviceEvent) (bag : Bag) → AreSyncs es → MayLeave es bag bag
syncs_leave [] bag are = refl
syncs_leave (e ∷ es) bag are = (bag, inl (sym (done_sync e bag are.0)), syncs_leave es bag are.1)

-- nor do writes to a file that isn't there
past_writes : (name : List ℕ) (pieces : List (List ℕ)) (later : List DeviceEvent) (bag left : Bag)
    → has_file bag name ≡ false → MayLeave later bag left → MayLeave (map (Write name) pieces ++ later) bag left
past_writes name [] later bag left none may = may
past_writes name (piece ∷ pieces) later bag left none may =
    (bag, inl (sym (no_bytes name piece bag none)), past_writes name pieces later bag left none may)

writes_sync_none : (folder name : List ℕ) (pieces : List (List ℕ)) (later : List DeviceEvent)
    → is_synced folder (map (Write name) pieces ++ later) ≡ is_synced folder later
writes_sync_none folder name [] later = refl
writes_sync_none folder name (piece ∷ pieces) later = writes_sync_none folder name pieces later

-- the base folder isn't synced before a rename nor after it
moved_unsynced : (es later : List DeviceEvent) (from to : List ℕ) → AreSyncs es → is_synced [] es ≡ false
    → is_synced [] later ≡ false → is_synced [] (es ++ Rename from to ∷ later) ≡ false
moved_unsynced [] later from to are one two = two
moved_unsynced (SyncFolder f ∷ es) later from to are one two =
    let both = neither (bytes_eq f []) (is_synced [] es) one in
    ap (λ b. b || is_synced [] (es ++ Rename from to ∷ later)) both.0 ∙ moved_unsynced es later from to are.1 both.1 two
  where
    neither : (a b : Bool) → (a || b) ≡ false → (a ≡ false) × (b ≡ false)
    neither false b none = (refl, none)
    neither true b none = absurd (false≢true (sym none))
moved_unsynced (Sync n ∷ es) later from to are one two = moved_unsynced es later from to are.1 one two
moved_unsynced (MakeFolder n ∷ es) later from to are one two = absurd are.0
moved_unsynced (Rename f t ∷ es) later from to are one two = absurd are.0
moved_unsynced (Create n ∷ es) later from to are one two = absurd are.0
moved_unsynced (Remove n ∷ es) later from to are one two = absurd are.0
moved_unsynced (Write n bytes ∷ es) later from to are one two = absurd are.0
moved_unsynced (SyncRefused p ∷ es) later from to are one two = absurd are.0

pub moves_may_lose : MovesMayLose
moves_may_lose bag folder name first last folder_is is absent before after =
    let missing = ap (λ f. is_synced f (first ++ Rename name (under folder name) ∷ last)) (in_base folder folder_is)
    ∙ moved_unsynced first last name (under folder name) before.0 (not_synced [] first before)
    (not_synced [] last after) in
    let not_there = ap (is_there bag) (in_folder_of folder name is) ∙ absent in (
      bag,
      inr (inl (missing, refl)),
      past_syncs first _ bag _ before.0 (_, inr (inr (not_there, refl)), syncs_leave last _ after.0),
    )

pub renames_may_be_undone : RenamesMayBeUndone
renames_may_be_undone bag from to syncs are none =
    let missing = false_from_ne_true _ (λ is.
    let two = and_parts (is_synced (folder_of from) syncs) (is_synced (folder_of to) syncs) is in
    none (synced_has (folder_of from) syncs are two.0, synced_has (folder_of to) syncs are two.1)) in
    (bag, inr (inl (missing, refl)), syncs_leave syncs bag are)

-- syncs, and then a rename
syncs_to_rename : (folder : List ℕ) (es : List DeviceEvent) (from to : List ℕ) → AreSyncs es
    → is_synced folder (es ++ Rename from to ∷ []) ≡ true → Contains es (SyncFolder folder)
syncs_to_rename folder [] from to are is =
    absurd (false≢true (sym (no_more (not (is_anew folder (Rename from to)))) ∙ is))
  where
    no_more : (b : Bool) → (b && false) ≡ false
    no_more b = grind arith
syncs_to_rename folder (SyncFolder f ∷ es) from to are is =
    elim (or_cases (bytes_eq f folder) (is_synced folder (es ++ Rename from to ∷ [])) is) [
      | inl same ↦ subst (λ x. Contains (SyncFolder f ∷ es) (SyncFolder x)) ((bytes_eq-Decides f folder).0 same)
          (first_of (SyncFolder f) es)
      | inr more ↦ later_of (SyncFolder f) (SyncFolder folder) es (syncs_to_rename folder es from to are.1 more)
    ]
syncs_to_rename folder (Sync n ∷ es) from to are is =
    later_of (Sync n) (SyncFolder folder) es (syncs_to_rename folder es from to are.1 is)
syncs_to_rename folder (MakeFolder n ∷ es) from to are is = absurd are.0
syncs_to_rename folder (Rename f t ∷ es) from to are is = absurd are.0
syncs_to_rename folder (Create n ∷ es) from to are is = absurd are.0
syncs_to_rename folder (Remove n ∷ es) from to are is = absurd are.0
syncs_to_rename folder (Write n bytes ∷ es) from to are is = absurd are.0
syncs_to_rename folder (SyncRefused p ∷ es) from to are is = absurd are.0

-- where no file was at the folder, none is at the name that it is given
no_file_arrives : (folder name : List ℕ) (bag : Bag) → has_file bag folder ≡ false
    → has_file (rename folder name bag) name ≡ false
unfolding rename
no_file_arrives folder name bag none =
    ap is_some (arrived ∙ fin.get-retain_keys bag.files (λ p. not (is_within name p)) folder (λ x same.
    ap (λ p. not (is_within name p)) (sym (exact_texts folder x same))))
    ∙ none_kept (not (is_within name folder)) (file bag folder) none
  where
    at_name : (path : List ℕ) → is_within name path ≡ true → fin.get (without name bag.files) path ≡ None
    at_name path within =
        fin.get-retain_keys bag.files (λ p. not (is_within name p)) path (λ x same.
        ap (λ p. not (is_within name p)) (sym (exact_texts path x same)))
        ∙ ap (λ b. cond (not b) (file bag path) None) within

    arrived : fin.get (moved folder name (without name bag.files)) name ≡ fin.get (without name bag.files) folder
    arrived = (moves_all (without name bag.files) folder name at_name).arrived

    none_kept : (b : Bool) (o : Option (List ℕ)) → is_some o ≡ false → is_some (cond b o None) ≡ false
    none_kept true o none = none
    none_kept false o none = refl

pub renames_may_lose : RenamesMayLose
renames_may_lose bag folder name syncs folder_is is apart are unsynced none =
    let later = syncs ++ Rename folder name ∷ [] in
    let missing =
    false_from_ne_true (is_synced (folder_of name) later && is_synced (folder_of (under folder name)) later) (λ both.
    let two = and_parts _ _ both in
    unsynced (
      syncs_to_rename [] syncs folder name are (ap (λ f. is_synced f later) (sym (in_base name is)) ∙ two.0),
      syncs_to_rename folder syncs folder name are
          (ap (λ f. is_synced f later) (sym (in_folder_of folder name is)) ∙ two.1),
    )) in
    let given : rename folder name bag ≡ done (Rename folder name) bag = sym (done_apart folder name bag apart) in (
      rename folder name bag,
      no_file_arrives folder name bag none,
      (bag, inr (inl (missing, refl)), past_syncs syncs _ bag _ are (rename folder name bag, inl given, refl)),
    )

pub files_may_be_missing : FilesMayBeMissing
files_may_be_missing bag name pieces syncs none are =
    let missing = writes_sync_none (folder_of name) name pieces syncs ∙ not_synced (folder_of name) syncs are in
    (bag, inr (inl (missing, refl)), past_writes name pieces syncs bag bag none (syncs_leave syncs bag are.0))

-- any bytes in a file that is there
any_bytes : (name found : List ℕ) (bag : Bag) → has_file bag name ≡ true
    → create name found bag ≡ cond (has_file bag name) (create name found bag) bag
any_bytes name found bag there = sym (ap (λ b. cond b (create name found bag) bag) there)

pub bytes_may_be_any : BytesMayBeAny
bytes_may_be_any bag name bytes found syncs there are =
    let missing = false_from_ne_true (is_file_synced name syncs) (λ is. are.1 (file_synced_has name syncs are.0 is)) in
    (create name found bag, inr (inl (missing, (found, any_bytes name found bag there))), syncs_leave syncs _ are.0)

-- where a sync was refused nothing later makes durable what was done before
pub refused_syncs_may_lose : RefusedSyncsMayLose
refused_syncs_may_lose bag name bytes found path syncs are = (
  λ there.
      let filled = create name found bag in (
        filled,
        inr (inl (refl, (found, any_bytes name found bag there))),
        (filled, inl (sym (done_nothing (SyncRefused path) filled tt)), syncs_leave syncs filled are),
      ),
  λ none. (
    bag,
    inr (inl (refl, refl)),
    (bag, inl (sym (done_nothing (SyncRefused path) bag tt)), syncs_leave syncs bag are),
  ),
)

-- a path given anew may mean another file or folder, and so do those below it
on_way : (path name : List ℕ) → name ≢ [] → is_within path name ≡ true → is_on_way name path ≡ true
on_way path name some within = and_from (not (bytes_eq name [])) _ (ap not (other_name name [] some)) within

given_anew : (name path : List ℕ) (event : DeviceEvent) → name ≢ [] → is_within path name ≡ true → GivesAnew path event
    → is_anew name event ≡ true
given_anew name path event some within (inl made) = ap (is_anew name) made ∙ on_way path name some within
given_anew name path event some within (inr (inl made)) = ap (is_anew name) made ∙ on_way path name some within
given_anew name path event some within (inr (inr (inl gone))) = ap (is_anew name) gone ∙ on_way path name some within
given_anew name path event some within (inr (inr (inr (inl (other, is))))) =
    ap (is_anew name) is ∙ or_left (is_on_way name path) _ (on_way path name some within)
given_anew name path event some within (inr (inr (inr (inr (other, is))))) =
    ap (is_anew name) is ∙ or_right (is_on_way name other) _ (on_way path name some within)

file_synced_after : (name : List ℕ) (event : DeviceEvent) (later : List DeviceEvent) → is_anew name event ≡ true
    → is_file_synced name (event ∷ later) ≡ false
file_synced_after name (MakeFolder n) later anew = ap (λ b. not b && is_file_synced name later) anew
file_synced_after name (Rename from to) later anew = ap (λ b. not b && is_file_synced name later) anew
file_synced_after name (Create n) later anew = ap (λ b. not b && is_file_synced name later) anew
file_synced_after name (Remove n) later anew = ap (λ b. not b && is_file_synced name later) anew
file_synced_after name (Write n bytes) later anew = absurd (false≢true anew)
file_synced_after name (Sync n) later anew = absurd (false≢true anew)
file_synced_after name (SyncFolder f) later anew = absurd (false≢true anew)
file_synced_after name (SyncRefused p) later anew = absurd (false≢true anew)

synced_after_it : (folder : List ℕ) (event : DeviceEvent) (later : List DeviceEvent) → is_anew folder event ≡ true
    → is_synced folder (event ∷ later) ≡ false
synced_after_it folder (MakeFolder n) later anew = ap (λ b. not b && is_synced folder later) anew
synced_after_it folder (Rename from to) later anew = ap (λ b. not b && is_synced folder later) anew
synced_after_it folder (Create n) later anew = ap (λ b. not b && is_synced folder later) anew
synced_after_it folder (Remove n) later anew = ap (λ b. not b && is_synced folder later) anew
synced_after_it folder (Write n bytes) later anew = absurd (false≢true anew)
synced_after_it folder (Sync n) later anew = absurd (false≢true anew)
synced_after_it folder (SyncFolder f) later anew = absurd (false≢true anew)
synced_after_it folder (SyncRefused p) later anew = absurd (false≢true anew)

-- what isn't durable may be left out
left_out : (path : List ℕ) (event : DeviceEvent) (later : List DeviceEvent) (bag : Bag) → GivesAnew path event
    → is_synced (folder_of path) later ≡ false → MayBecome event later bag bag
left_out path event later bag (inl made) none =
    subst (λ e. MayBecome e later bag bag) (sym made) (inr (inl (none, refl)))
left_out path event later bag (inr (inl made)) none =
    subst (λ e. MayBecome e later bag bag) (sym made) (inr (inl (none, refl)))
left_out path event later bag (inr (inr (inl gone))) none =
    subst (λ e. MayBecome e later bag bag) (sym gone) (inr (inl (none, refl)))
left_out path event later bag (inr (inr (inr (inl (other, is))))) none =
    subst (λ e. MayBecome e later bag bag) (sym is)
    (inr (inl (ap (λ b. b && is_synced (folder_of other) later) none, refl)))
left_out path event later bag (inr (inr (inr (inr (other, is))))) none =
    subst (λ e. MayBecome e later bag bag) (sym is)
    (inr (inl (false_from_ne_true _ (λ both. false≢true (sym none ∙ (and_parts _ _ both).1)), refl)))

pub syncs_are_of_the_new_file : SyncsAreOfTheNewFile
syncs_are_of_the_new_file bag name path bytes found event there some within anew =
    let missing = file_synced_after name event (Sync name ∷ []) (given_anew name path event some within anew) in
    let filled = create name found bag in (
      filled,
      inr (inl (missing, (found, any_bytes name found bag there))),
      (filled, left_out path event (Sync name ∷ []) filled anew refl, syncs_leave (Sync name ∷ []) filled (tt, tt)),
    )

-- a folder isn't the one that holds its name, or that of one above it
shorter : (path : List ℕ) → path ≢ [] → length (folder_of path) < length path
unfolding folder_of
shorter [] some = absurd (some refl)
shorter (c ∷ rest) some =
    elim (list_any is_slash rest) as
    (λ b. list_any is_slash rest ≡ b → length (cond b (c ∷ folder_of rest) []) < length (c ∷ rest)) [
      | true ↦ λ has. let more = shorter rest (λ none. false≢true (ap (list_any is_slash) (sym none) ∙ has))
          in omega (arith, more)
      | false ↦ λ _. omega arith
    ] refl

within_longer : (path name : List ℕ) → IsWithin path name → length path ≤ length name
within_longer path name (inl same) = omega (arith, ap length same)
within_longer path name (inr (rest, below)) = omega (arith, ap length below, length-append path (slash ∷ rest))

holds_other : (path folder : List ℕ) → folder ≢ [] → is_within path folder ≡ true
    → bytes_eq folder (folder_of path) ≡ false
holds_other path folder some within = other_name folder (folder_of path) (λ same.
    let long = within_longer path folder (within_cases path folder within) in
    absurd (by_case path folder some within long same))
  where
    by_case : (path folder : List ℕ) → folder ≢ [] → is_within path folder ≡ true → length path ≤ length folder
        → folder ≡ folder_of path → ⊥
    by_case [] folder some within long same = some (same ∙ without_slash [] refl)
    by_case (c ∷ path) folder some within long same =
        let less = shorter (c ∷ path) (λ none. cc) in omega (arith, less, long, ap length same)

pub syncs_are_of_the_new_folder : SyncsAreOfTheNewFolder
syncs_are_of_the_new_folder bag folder name path event some is within anew =
    let syncs = SyncFolder folder ∷ [] in
    let missing =
    ap (λ f. is_synced f (event ∷ syncs)) (in_folder_of folder name is)
    ∙ synced_after_it folder event syncs (given_anew folder path event some within anew) in
    let other = ap (λ b. b || false) (holds_other path folder some within) in
    (bag, inr (inl (missing, refl)), (bag, left_out path event syncs bag anew other, syncs_leave syncs bag (tt, tt)))
