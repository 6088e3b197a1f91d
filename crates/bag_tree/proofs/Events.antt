-- What single events do, and what makes them durable.
use Rattle.bag_tree.proofs.Common.{arith, ◌≡◌, ◌++◌, ◌∷◌, ℕ, inl, inr, true, false, cond, List, [], Some, bytes_eq}
use Rattle.bag_tree.proofs.Common.{bytes_eq-Decides, refl, ap, ◌∙◌, and_from, and_parts, or_right, false≢true}
use Rattle.bag_tree.proofs.Common.{get-insert, nat_list_cmp_total, is_base_name, slash, under, file}
use Rattle.std.proofs.Common.{◌≢◌, ◌&&◌, ◌||◌, not, Bool, Option, None, sym}
use Rattle.std.proofs.lemmas.Bool.{or_cases, or_left, false_from_ne_true}
use Rattle.std.specs.FinMap as fin
use Rattle.std.specs.FinMap.{find}
use Rattle.std.specs.FinSet as set
use Rattle.std.specs.FinSet.{contains-insert, contains-remove, same_set}
use Rattle.std.specs.List.{list_any}
use Rattle.std.specs.Ordering.{eq_by_cmp}
use Rattle.bag_text.specs.Text.{text_cmp}
use Rattle.bag_tree.proofs.Parents.{base_not_under, is_slash, name_has_no_slash}
use Rattle.bag_tree.proofs.SameText.{exact_texts, one_text, text_itself}
use Rattle.bag_tree.specs.Asked.{AreSyncs, ChangesNothing, IsSync, has_durable_folders, is_base_synced, is_named}
use Rattle.bag_tree.specs.Bag.{Bag, has_file, has_folder}
use Rattle.bag_tree.specs.Cut.{IsLost, appended, done, folder_of, has_below, hold, is_durable, is_file_synced}
use Rattle.bag_tree.specs.Cut.{is_synced, is_there, lose, rename, without}
use Rattle.bag_tree.specs.Moved.{is_within, moved}
use Rattle.bag_tree.specs.Steps.{create, has_within, make_folder, move_in, rename_folder}
use Rattle.bag_tree.specs.declared.event.DeviceEvent.{DeviceEvent}
use Rattle.bag_tree.specs.declared.event.DeviceEvent.TheVariants.{MakeFolder, Rename, Create, Remove, Write, Sync}
use Rattle.bag_tree.specs.declared.event.DeviceEvent.TheVariants.{SyncFolder, SyncRefused}

or_false : (a b : Bool) → (a || b) ≡ false → b ≡ false
or_false a b none = grind arith

known : (d : Bag) (folder : List ℕ) → has_folder d folder ≡ true → is_there d folder ≡ true
known d folder there = or_left _ (has_below d folder) (or_right (bytes_eq folder []) _ there)

pub not_base : (folder rest : List ℕ) → is_base_name (under folder rest) ≡ false
not_base folder rest = false_from_ne_true _ (λ is. base_not_under (under folder rest) folder rest is refl)

-- a path without a slash is in the base folder, and one with a last slash in the folder before it
pub without_slash : (path : List ℕ) → list_any is_slash path ≡ false → folder_of path ≡ []
unfolding folder_of
without_slash [] none = refl
without_slash (c ∷ rest) none =
    ap (λ b. cond b (c ∷ folder_of rest) []) (or_false (is_slash c) (list_any is_slash rest) none)

has_slash : (front back : List ℕ) → list_any is_slash (front ++ slash ∷ back) ≡ true
has_slash [] back = refl
has_slash (c ∷ front) back = or_right (is_slash c) _ (has_slash front back)

pub before_last : (front back : List ℕ) → list_any is_slash back ≡ false → folder_of (front ++ slash ∷ back) ≡ front
unfolding folder_of
before_last [] back none = ap (λ b. cond b (slash ∷ folder_of back) []) none
before_last (c ∷ front) back none =
    ap (λ b. cond b (c ∷ folder_of (front ++ slash ∷ back)) []) (has_slash front back)
    ∙ ap (λ f. c ∷ f) (before_last front back none)

pub in_base : (name : List ℕ) → is_base_name name ≡ true → folder_of name ≡ []
in_base name is = without_slash name (name_has_no_slash name is)

pub in_folder_of : (folder name : List ℕ) → is_base_name name ≡ true → folder_of (under folder name) ≡ folder
in_folder_of folder name is = before_last folder name (name_has_no_slash name is)

-- the base folder is there, and the folders that a bag tells of
pub base_there : (d : Bag) (name : List ℕ) → is_base_name name ≡ true → is_there d (folder_of name) ≡ true
base_there d name is = ap (is_there d) (in_base name is)

pub folder_there : (d : Bag) (folder name : List ℕ) → is_base_name name ≡ true → has_folder d folder ≡ true
    → is_there d (folder_of (under folder name)) ≡ true
folder_there d folder name is there = ap (is_there d) (in_folder_of folder name is) ∙ known d folder there

pub other_name : (name folder : List ℕ) → name ≢ folder → bytes_eq name folder ≡ false
other_name name folder apart = grind (arith, bytes_eq-Decides)

pub same_name : (name : List ℕ) → bytes_eq name name ≡ true
same_name name = grind (arith, bytes_eq-Decides)

-- ---- what each change does

found : (q c : List ℕ) (es : List (List ℕ × List ℕ)) → find text_cmp q es ≡ Some c → (k : List ℕ) → is_within k q ≡ true
    → list_any (λ e. is_within k e.0) es ≡ true
found q c [] at k within = cc
found q c (e ∷ es) at k within =
    elim (eq_by_cmp text_cmp q e.0) as
    (λ b. eq_by_cmp text_cmp q e.0 ≡ b → cond b (Some e.1) (find text_cmp q es) ≡ Some c
    → list_any (λ e. is_within k e.0) (e ∷ es) ≡ true) [
      | true ↦ λ same _. or_left _ _ (ap (is_within k) (sym (one_text q e.0 same)) ∙ within)
      | false ↦ λ _ later. or_right (is_within k e.0) _ (found q c es later k within)
    ] refl at

-- a file at a path, or below it
pub file_within : (d : Bag) (path q c : List ℕ) → file d q ≡ Some c → is_within path q ≡ true → has_within d path ≡ true
file_within d path q c at within = found q c (fin.entries d.files) (sym (fin.get-entries d.files q) ∙ at) path within

-- where nothing stands at a path or below it, nothing is lost there
pub nothing_lost : (d : Bag) (path : List ℕ) → has_within d path ≡ false → without path d.files ≡ d.files
nothing_lost d path none = fin.same_map nat_list_cmp_total exact_texts (without path d.files) d.files (λ q.
    fin.get-retain_keys d.files (λ p. not (is_within path p)) q (λ x same.
    ap (λ p. not (is_within path p)) (sym (exact_texts q x same)))
    ∙ stays q (is_within path q) refl (file d q) refl)
  where
    stays : (q : List ℕ) (b : Bool) → is_within path q ≡ b → (o : Option (List ℕ)) → file d q ≡ o
        → cond (not b) o None ≡ o
    stays q false outside o at = refl
    stays q true within None at = refl
    stays q true within (Some c) at = absurd (false≢true (sym none ∙ file_within d path q c at within))

pub done_make : (name : List ℕ) (d : Bag) → is_base_name name ≡ true → has_within d name ≡ false
    → done (MakeFolder name) d ≡ make_folder name d
unfolding done lose
done_make name d is none =
    let files = nothing_lost d name none in
    let folders =
    same_set nat_list_cmp_total exact_texts (set.insert (set.remove d.folders name) name)
    (set.insert d.folders name) (λ q.
    grind (
      arith,
      contains-insert nat_list_cmp_total (set.remove d.folders name) name q,
      contains-remove nat_list_cmp_total d.folders name q,
      contains-insert nat_list_cmp_total d.folders name q,
    )) in
    rw is (λ i. record { files = files i; folders = folders i })

-- where a name is another one
pub apart : (from to : List ℕ) (d : Bag) → from ≢ to → done (Rename from to) d ≡ rename from to d
unfolding done
apart from to d other = ap (λ b. cond b d (rename from to d)) (other_name from to other)

pub done_move : (top folder : List ℕ) (d : Bag) → is_base_name top ≡ true → has_within d (under folder top) ≡ false
    → done (Rename top (under folder top)) d ≡ move_in top folder d
unfolding rename
done_move top folder d is none =
    let files = ap (moved top (under folder top)) (nothing_lost d (under folder top) none) in
    let kind =
    ap (λ b. set.remove
    (cond b (cond (is_there d top) (set.insert d.folders (under folder top))
    (set.remove d.folders (under folder top))) d.folders) top) (not_base folder top) in
    apart top (under folder top) d (base_not_under top folder top is)
    ∙ (λ i. record { files = files i; folders = kind i })

pub done_rename : (from to : List ℕ) (d : Bag) → from ≢ to → is_base_name to ≡ true → has_folder d from ≡ true
    → has_within d to ≡ false
    → done (Rename from to) d ≡ rename_folder from to d
unfolding rename
done_rename from to d other is there none =
    let files = ap (moved from to) (nothing_lost d to none) in
    let base =
    ap (λ b. set.remove
    (cond b (cond (is_there d from) (set.insert d.folders to) (set.remove d.folders to)) d.folders) from) is in
    let kind =
    base ∙ ap (λ b. set.remove (cond b (set.insert d.folders to) (set.remove d.folders to)) from)
    (known d from there) in
    apart from to d other ∙ (λ i. record { files = files i; folders = kind i })

pub done_create : (name : List ℕ) (d : Bag) → done (Create name) d ≡ create name [] (lose name d)
unfolding done
done_create name d = refl

-- where nothing has a name
pub nothing_named : (name : List ℕ) (d : Bag) → has_within d name ≡ false → has_folder d name ≡ false → lose name d ≡ d
unfolding lose
nothing_named name d none absent =
    let files = nothing_lost d name none in
    let folders = same_set nat_list_cmp_total exact_texts (set.remove d.folders name) d.folders (λ q.
    contains-remove nat_list_cmp_total d.folders name q
    ∙ elim (eq_by_cmp text_cmp q name) as
    (λ b. eq_by_cmp text_cmp q name ≡ b → (not b && has_folder d q) ≡ has_folder d q) [
      | true ↦ λ same. sym (ap (has_folder d) (one_text q name same) ∙ absent)
      | false ↦ λ _. refl
    ] refl) in
    (λ i. record { files = files i; folders = folders i })

-- no bytes are written to a file that isn't there
pub no_bytes : (name bytes : List ℕ) (d : Bag) → has_file d name ≡ false → done (Write name bytes) d ≡ d
unfolding done
no_bytes name bytes d none = ap (λ b. cond b (create name (appended (file d name) bytes) d) d) none

-- a sync does nothing, and is durable
pub done_sync : (e : DeviceEvent) (d : Bag) → IsSync e → done e d ≡ d
unfolding done
done_sync (Sync name) d is = refl
done_sync (SyncFolder name) d is = refl
done_sync (MakeFolder name) d is = absurd is
done_sync (Rename from to) d is = absurd is
done_sync (Create name) d is = absurd is
done_sync (Remove name) d is = absurd is
done_sync (Write name bytes) d is = absurd is
done_sync (SyncRefused path) d is = absurd is

-- nor does one that is refused
pub sync_alone : (e : DeviceEvent) → IsSync e → ChangesNothing e
sync_alone (Sync name) is = is
sync_alone (SyncFolder name) is = is
sync_alone (MakeFolder name) is = is
sync_alone (Rename from to) is = is
sync_alone (Create name) is = is
sync_alone (Remove name) is = is
sync_alone (Write name bytes) is = is
sync_alone (SyncRefused path) is = tt

pub done_nothing : (e : DeviceEvent) (d : Bag) → ChangesNothing e → done e d ≡ d
unfolding done
done_nothing (Sync name) d is = refl
done_nothing (SyncFolder name) d is = refl
done_nothing (SyncRefused path) d is = refl
done_nothing (MakeFolder name) d is = absurd is
done_nothing (Rename from to) d is = absurd is
done_nothing (Create name) d is = absurd is
done_nothing (Remove name) d is = absurd is
done_nothing (Write name bytes) d is = absurd is

pub nothing_undone : (e : DeviceEvent) (later : List DeviceEvent) → ChangesNothing e → is_durable e later ≡ false → ⊥
nothing_undone (Sync name) later is missing = cc
nothing_undone (SyncFolder name) later is missing = cc
nothing_undone (SyncRefused path) later is missing = cc
nothing_undone (MakeFolder name) later is missing = is
nothing_undone (Rename from to) later is missing = is
nothing_undone (Create name) later is missing = is
nothing_undone (Remove name) later is missing = is
nothing_undone (Write name bytes) later is missing = is

pub nothing_is_lost : (e : DeviceEvent) (d left : Bag) → ChangesNothing e → IsLost e d left → ⊥
nothing_is_lost (Sync name) d left is lost = lost
nothing_is_lost (SyncFolder name) d left is lost = lost
nothing_is_lost (SyncRefused path) d left is lost = lost
nothing_is_lost (MakeFolder name) d left is lost = is
nothing_is_lost (Rename from to) d left is lost = is
nothing_is_lost (Create name) d left is lost = is
nothing_is_lost (Remove name) d left is lost = is
nothing_is_lost (Write name bytes) d left is lost = is

-- a folder that was synced is so whatever follows
pub synced_front : (folder : List ℕ) (es later : List DeviceEvent) → is_synced folder es ≡ true
    → is_synced folder (es ++ later) ≡ true
synced_front folder [] later is = absurd (false≢true is)
synced_front folder (SyncFolder f ∷ es) later is =
    elim (or_cases (bytes_eq f folder) (is_synced folder es) is)
    [ inl a ↦ or_left _ _ a | inr b ↦ or_right (bytes_eq f folder) _ (synced_front folder es later b) ]
synced_front folder (Rename from to ∷ es) later is =
    let two = and_parts _ _ is in and_from _ _ two.0 (synced_front folder es later two.1)
synced_front folder (MakeFolder name ∷ es) later is =
    let two = and_parts _ _ is in and_from _ _ two.0 (synced_front folder es later two.1)
synced_front folder (Create name ∷ es) later is =
    let two = and_parts _ _ is in and_from _ _ two.0 (synced_front folder es later two.1)
synced_front folder (Remove name ∷ es) later is =
    let two = and_parts _ _ is in and_from _ _ two.0 (synced_front folder es later two.1)
synced_front folder (Write name bytes ∷ es) later is = synced_front folder es later is
synced_front folder (Sync name ∷ es) later is = synced_front folder es later is
synced_front folder (SyncRefused path ∷ es) later is = absurd (false≢true is)

file_synced_front : (name : List ℕ) (es later : List DeviceEvent) → is_file_synced name es ≡ true
    → is_file_synced name (es ++ later) ≡ true
file_synced_front name [] later is = absurd (false≢true is)
file_synced_front name (Sync n ∷ es) later is =
    elim (or_cases (bytes_eq n name) (is_file_synced name es) is)
    [ inl a ↦ or_left _ _ a | inr b ↦ or_right (bytes_eq n name) _ (file_synced_front name es later b) ]
file_synced_front name (Rename from to ∷ es) later is =
    let two = and_parts _ _ is in and_from _ _ two.0 (file_synced_front name es later two.1)
file_synced_front name (SyncFolder f ∷ es) later is = file_synced_front name es later is
file_synced_front name (MakeFolder n ∷ es) later is =
    let two = and_parts _ _ is in and_from _ _ two.0 (file_synced_front name es later two.1)
file_synced_front name (Create n ∷ es) later is =
    let two = and_parts _ _ is in and_from _ _ two.0 (file_synced_front name es later two.1)
file_synced_front name (Remove n ∷ es) later is =
    let two = and_parts _ _ is in and_from _ _ two.0 (file_synced_front name es later two.1)
file_synced_front name (Write n bytes ∷ es) later is = file_synced_front name es later is
file_synced_front name (SyncRefused path ∷ es) later is = absurd (false≢true is)

-- what is durable stays so
pub durable_front : (e : DeviceEvent) (es later : List DeviceEvent) → is_durable e es ≡ true
    → is_durable e (es ++ later) ≡ true
durable_front (MakeFolder name) es later is = synced_front (folder_of name) es later is
durable_front (Rename from to) es later is =
    let two =
    and_parts _ _ is
    in and_from _ _ (synced_front (folder_of from) es later two.0) (synced_front (folder_of to) es later two.1)
durable_front (Create name) es later is = synced_front (folder_of name) es later is
durable_front (Remove name) es later is = synced_front (folder_of name) es later is
durable_front (Write name bytes) es later is = file_synced_front name es later is
durable_front (Sync name) es later is = refl
durable_front (SyncFolder folder) es later is = refl
durable_front (SyncRefused path) es later is = refl

-- and a folder that is synced later is synced, where before that there are syncs alone
pub synced_after : (folder : List ℕ) (es later : List DeviceEvent) → AreSyncs es → is_synced folder later ≡ true
    → is_synced folder (es ++ later) ≡ true
synced_after folder [] later are is = is
synced_after folder (SyncFolder f ∷ es) later are is =
    or_right (bytes_eq f folder) _ (synced_after folder es later are.1 is)
synced_after folder (Sync name ∷ es) later are is = synced_after folder es later are.1 is
synced_after folder (Rename from to ∷ es) later are is = absurd are.0
synced_after folder (MakeFolder name ∷ es) later are is = absurd are.0
synced_after folder (Create name ∷ es) later are is = absurd are.0
synced_after folder (Remove name ∷ es) later are is = absurd are.0
synced_after folder (Write name bytes ∷ es) later are is = absurd are.0
synced_after folder (SyncRefused path ∷ es) later are is = absurd are.0

-- a folder that was made is durable by the syncs that follow
base_by_syncs : (es : List DeviceEvent) → AreSyncs es → is_base_synced es ≡ true → is_synced [] es ≡ true
base_by_syncs [] are is = is
base_by_syncs (SyncFolder f ∷ es) are is =
    elim (or_cases (bytes_eq f []) (is_base_synced es) is)
    [ inl a ↦ or_left _ _ a | inr b ↦ or_right (bytes_eq f []) _ (base_by_syncs es are.1 b) ]
base_by_syncs (Sync name ∷ es) are is = base_by_syncs es are.1 is
base_by_syncs (MakeFolder name ∷ es) are is = absurd are.0
base_by_syncs (Rename from to ∷ es) are is = absurd are.0
base_by_syncs (Create name ∷ es) are is = absurd are.0
base_by_syncs (Remove name ∷ es) are is = absurd are.0
base_by_syncs (Write name bytes ∷ es) are is = absurd are.0
base_by_syncs (SyncRefused path ∷ es) are is = absurd are.0

pub made_durable : (name : List ℕ) (before ys : List DeviceEvent) → AreSyncs ys
    → has_durable_folders (before ++ MakeFolder name ∷ ys) ≡ true → is_synced [] ys ≡ true
made_durable name [] ys are is = base_by_syncs ys are (and_parts _ _ is).0
made_durable name (e ∷ before) ys are is = made_durable name before ys are (and_parts _ _ is).1

-- a sync of the base folder makes all names durable that were given there
base_at_end : (es : List DeviceEvent) → is_base_synced (es ++ SyncFolder [] ∷ []) ≡ true
base_at_end [] = refl
base_at_end (SyncFolder f ∷ es) = or_right (bytes_eq f []) _ (base_at_end es)
base_at_end (Rename from to ∷ es) = base_at_end es
base_at_end (MakeFolder name ∷ es) = base_at_end es
base_at_end (Create name ∷ es) = base_at_end es
base_at_end (Remove name ∷ es) = base_at_end es
base_at_end (Write name bytes ∷ es) = base_at_end es
base_at_end (Sync name ∷ es) = base_at_end es
base_at_end (SyncRefused path ∷ es) = base_at_end es

pub durable_at_end : (es : List DeviceEvent) → has_durable_folders (es ++ SyncFolder [] ∷ []) ≡ true
durable_at_end [] = refl
durable_at_end (e ∷ es) = and_from _ _ (or_right (not (is_named e)) _ (base_at_end es)) (durable_at_end es)

-- what stands under a folder stays when a file of the base folder is written
pub stays_under : (name bytes folder rest : List ℕ) (d : Bag) → is_base_name name ≡ true
    → file (create name bytes d) (under folder rest) ≡ file d (under folder rest)
stays_under name bytes folder rest d is =
    grind (
      arith,
      get-insert nat_list_cmp_total d.files name bytes (under folder rest),
      one_text (under folder rest) name,
      base_not_under name folder rest,
    )

pub held_under : (name bytes folder rest : List ℕ) (d : Bag) → is_base_name name ≡ true
    → file (hold name bytes d) (under folder rest) ≡ file d (under folder rest)
held_under name bytes folder rest d is =
    elim (has_file d name) as
    (λ b. file (cond b (create name bytes d) d) (under folder rest) ≡ file d (under folder rest))
    [ true ↦ stays_under name bytes folder rest d is | false ↦ refl ]

-- writing after what was written
file_created : (name bytes : List ℕ) (d : Bag) → file (create name bytes d) name ≡ Some bytes
file_created name bytes d =
    get-insert nat_list_cmp_total d.files name bytes name
    ∙ ap (λ b. cond b (Some bytes) (file d name)) (text_itself name)

pub created_again : (name bytes more : List ℕ) (d : Bag) → create name more (create name bytes d) ≡ create name more d
created_again name bytes more d =
    let files =
    fin.same_map nat_list_cmp_total exact_texts (fin.insert (fin.insert d.files name bytes) name more)
    (fin.insert d.files name more)
    (λ q. grind (
      arith,
      get-insert nat_list_cmp_total (fin.insert d.files name bytes) name more q,
      get-insert nat_list_cmp_total d.files name bytes q,
      get-insert nat_list_cmp_total d.files name more q,
    )) in
    (λ i. record { files = files i; folders = d.folders })

pub done_write : (name bytes piece : List ℕ) (d : Bag)
    → done (Write name piece) (create name bytes d) ≡ create name (bytes ++ piece) d
unfolding done
done_write name bytes piece d = rw (file_created name bytes d) (created_again name bytes (bytes ++ piece) d)

pub done_write_is : (name piece : List ℕ) (d : Bag) → (text : List ℕ) × (done (Write name piece) d ≡ hold name text d)
unfolding done
done_write_is name piece d = (_, refl)
