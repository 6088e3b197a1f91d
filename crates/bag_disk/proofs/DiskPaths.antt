-- The folders on the way to a path of a disk.
use Rattle.bag_disk.proofs.Common.{◌≡◌, ◌≢◌, ℕ, ◌+◌, ◌<◌, List, ◌∷◌, ◌++◌, length, get_or, take, drop, Some, None, ap}
use Rattle.bag_disk.proofs.Common.{◌∙◌, false, ⊎_elim, arith, append_assoc, take-append-drop, length-append}
use Rattle.bag_disk.proofs.Common.{slice_range, cases_lt, false≢true, length-take, take-append_seam, get_or-append_seam}
use Rattle.bag_disk.proofs.Common.{slash, under, is_path, Nodes, node, IsDisk, IsReachedByFolders, IsReachedTo, Folder}
use Rattle.std.proofs.lemmas.Grind.{common_steps}

-- a path at one of its slashes
pub at_slash : (path folder : List ℕ) (end : ℕ) → end < length path → get_or path end 0 ≡ slash → folder ≡ take end path
    → path ≡ under folder (drop (end + 1) path)
at_slash path folder end within is same = grind (arith, take-append-drop, common_steps)

take_under : (folder rest : List ℕ) → take (length folder) (under folder rest) ≡ folder
take_under folder rest = take-append_seam folder (slash ∷ rest)

get_under : (folder rest : List ℕ) → get_or (under folder rest) (length folder) 0 ≡ slash
get_under folder rest = get_or-append_seam folder slash rest 0

length_under : (folder rest : List ℕ) → length folder < length (under folder rest)
length_under folder rest = omega (arith, length-append folder (slash ∷ rest))

-- what leads to a folder on the way is on the way
pub reached_on_way : (nodes : Nodes) (path folder : List ℕ) (end : ℕ) → end < length path → get_or path end 0 ≡ slash
    → folder ≡ take end path → IsReachedTo nodes path end → IsReachedByFolders nodes folder
reached_on_way nodes path folder end within is same reached f rest e =
    reached f (rest ++ slash ∷ drop (end + 1) path)
    (grind (
      arith,
      at_slash path folder end within is same,
      append_assoc f (slash ∷ rest) (slash ∷ drop (end + 1) path),
    ))
    (omega (arith, length_under f rest, ap length e, ap length same, length-take end path))

pub more_reached : (nodes : Nodes) (path folder : List ℕ) (end : ℕ) → folder ≡ take end path
    → node nodes folder ≡ Some Folder → IsReachedTo nodes path end → IsReachedTo nodes path (end + 1)
more_reached nodes path folder end same is reached f rest e below =
    grind (arith, take_under f rest, cases_lt (length f) end, ⊎_elim)

pub none_to_reach : (nodes : Nodes) (path : List ℕ) (end : ℕ) → get_or path end 0 ≢ slash → IsReachedTo nodes path end
    → IsReachedTo nodes path (end + 1)
none_to_reach nodes path end other reached f rest e below =
    grind (arith, get_under f rest, cases_lt (length f) end, ⊎_elim)

-- nothing stands below what is no folder
pub none_below_no_folder : (nodes : Nodes) (path folder rest : List ℕ) → IsDisk nodes → path ≡ under folder rest
    → (node nodes folder ≡ Some Folder → ⊥) → node nodes path ≡ None
none_below_no_folder nodes path folder rest disk e none = grind arith

-- nothing stands at a text that isn't a path
pub no_path : (nodes : Nodes) (path : List ℕ) → IsDisk nodes → is_path path ≡ false → node nodes path ≡ None
no_path nodes path disk none = grind (arith, false≢true)

pub prefix_is : (t : List ℕ) (end : ℕ) → slice_range t 0 end ≡ take end t
prefix_is t end = grind (arith, common_steps)

-- the folder before a slash is reached
pub slash_reached : (nodes : Nodes) (path items folder : List ℕ) (end : ℕ) → items ≡ path
    → folder ≡ slice_range path 0 end → end < length items → get_or items end 0 ≡ slash → IsReachedTo nodes path end
    → IsReachedByFolders nodes folder
slash_reached nodes path items folder end items_are cut within is reached =
    reached_on_way nodes path folder end (rw items_are at within) (rw items_are at is) (cut ∙ prefix_is path end)
    reached

-- a slash was passed, and its folder is one
pub slash_passed : (nodes : Nodes) (path items folder : List ℕ) (end : ℕ) → items ≡ path
    → folder ≡ slice_range path 0 end → end < length items → get_or items end 0 ≡ slash
    → IsReachedTo nodes path end → (IsReachedByFolders nodes folder → node nodes folder ≡ Some Folder)
    → IsReachedTo nodes path (end + 1)
slash_passed nodes path items folder end items_are cut within is reached found =
    grind (
      arith,
      more_reached nodes path folder end,
      prefix_is path end,
      slash_reached nodes path items folder end items_are cut within is reached,
    )

pub other_passed : (nodes : Nodes) (path items : List ℕ) (end : ℕ) → items ≡ path → get_or items end 0 ≢ slash
    → IsReachedTo nodes path end → IsReachedTo nodes path (end + 1)
other_passed nodes path items end items_are other reached = grind (arith, none_to_reach)

-- a slash was met below what is no folder
pub slash_refused : (nodes : Nodes) (path items folder : List ℕ) (end : ℕ) → IsDisk nodes → items ≡ path
    → folder ≡ slice_range path 0 end → end < length items → get_or items end 0 ≡ slash
    → (node nodes folder ≡ Some Folder → ⊥) → node nodes path ≡ None
slash_refused nodes path items folder end disk items_are cut within is none =
    none_below_no_folder nodes path folder (drop (end + 1) path) disk
    (at_slash path folder end (rw items_are at within) (rw items_are at is) (cut ∙ prefix_is path end)) none
