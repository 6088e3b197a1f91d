-- A disk on which only files and folders stand, with names in UTF-8.
use Rattle.bag_disk.proofs.Common.{◌≡◌, ℕ, Bool, true, false, IsUtf8, List, [], ◌∷◌, Some, is_some, refl, ap, sym, ◌∙◌}
use Rattle.bag_disk.proofs.Common.{inl, inr, arith, Contains, false≢true, and_parts, option_map, list_all, find}
use Rattle.bag_disk.proofs.Common.{is_sorted, get-entries, entries_sorted, text_cmp, is_path, path_in, Nodes, Node}
use Rattle.bag_disk.proofs.Common.{node, Has, IsFolder, IsDisk, IsReachedByFolders, HasSpecial, HasUnnamed}
use Rattle.bag_disk.proofs.Common.{HasUnnamedPath, entry_of_node, is_plain, is_plain_node, Other, text_itself, t_true}
use Rattle.bag_disk.proofs.Common.{Walked, Entry, FileEntry}
use Rattle.bag_tree.proofs.Parents.{text_under}
use Rattle.bag_tree.proofs.PathEntries.{found_later}
use Rattle.std.specs.FinMap as fin
use Rattle.bag_disk.specs.declared.disk.Entry.TheVariants as entry
use Rattle.bag_disk.proofs.WholeWalk.{found_or_listed, path_filed}

abbrev plain_entry : List ℕ × Node → Bool
plain_entry e = is_plain_node e.1

other_among : (es : List (List ℕ × Node)) (q : List ℕ) → find text_cmp q es ≡ Some Other
    → list_all plain_entry es ≡ false
other_among [] q is = cc
other_among (e ∷ es) q is = grind (arith, other_among es q)

-- where something else stands the disk isn't plain
pub other_not_plain : (nodes : Nodes) (path : List ℕ) → node nodes path ≡ Some Other → is_plain nodes ≡ false
other_not_plain nodes path is = other_among (fin.entries nodes) path (sym (get-entries nodes path) ∙ is)

all_among : (es : List (List ℕ × Node)) → is_sorted text_cmp es ≡ true
    → ((q : List ℕ) (n : Node) → find text_cmp q es ≡ Some n → is_plain_node n ≡ true) → list_all plain_entry es ≡ true
all_among [] sorted plain = refl
all_among (e ∷ es) sorted plain =
    let parts = and_parts _ _ sorted in
    let others = all_among es parts.1 (λ q n is. plain q n (found_later e es q n parts.0 is)) in
    grind (arith, others, plain e.0 e.1, text_itself)

-- where each node is a file or a folder the disk is plain
pub all_plain : (nodes : Nodes) → ((path : List ℕ) (n : Node) → node nodes path ≡ Some n → is_plain_node n ≡ true)
    → is_plain nodes ≡ true
all_plain nodes plain =
    all_among (fin.entries nodes) (t_true _ (entries_sorted nodes)) (λ q n is. plain q n (get-entries nodes q ∙ is))

-- where what was answered is no file and no folder, something special stands there
pub other_seen : (nodes : Nodes) (path : List ℕ) (found : Entry) → IsUtf8 path
    → option_map entry_of_node (node nodes path) ≡ Some found → found ≡ entry.Other → HasSpecial nodes
other_seen nodes path found text is other = grind arith

-- the same, where the path's text is known in three ways
pub name_is_other : (nodes : Nodes) (location path text : List ℕ) (found : Entry) → IsDisk nodes → IsUtf8 text
    → path ≡ location → text ≡ path
    → (IsReachedByFolders nodes text → option_map entry_of_node (node nodes text) ≡ Some found) → Has nodes location
    → found ≡ entry.Other → HasSpecial nodes
name_is_other nodes location path text found disk utf8 at same is has other = grind (arith, other_seen)

-- a name is in UTF-8 where its path is
text_in : (folder name : List ℕ) → IsUtf8 (path_in folder name) → IsUtf8 name
text_in [] name text = text
text_in (c ∷ folder) name text = text_under (c ∷ folder) name text

-- where a name of a folder isn't UTF-8 a path isn't
pub unnamed_there : (nodes : Nodes) (folder : List ℕ) (names : List (List ℕ))
    → ((name : List ℕ) → Contains names name → Has nodes (path_in folder name)) → HasUnnamed names
    → HasUnnamedPath nodes
unnamed_there nodes folder names there unnamed =
    (path_in folder unnamed.0, there unnamed.0 unnamed.1, λ text. unnamed.2 (text_in folder unnamed.0 text))

-- where something special stands the disk isn't plain
pub special_not_plain : (nodes : Nodes) → HasSpecial nodes → is_plain nodes ≡ false
special_not_plain nodes special = other_not_plain nodes special.0 special.1

-- where a path isn't UTF-8 the disk isn't plain
pub unnamed_not_plain : (nodes : Nodes) → IsDisk nodes → HasUnnamedPath nodes → is_plain nodes ≡ false
unnamed_not_plain nodes disk unnamed = grind (arith, other_not_plain, false≢true)

-- where a whole walk was made the disk is plain
pub walked_plain : (nodes : Nodes) (files : List FileEntry) (listed : List (List ℕ)) → IsDisk nodes
    → Walked nodes files [] listed [] → is_plain nodes ≡ true
walked_plain nodes files listed disk walked = all_plain nodes (λ path n is.
    let has : Has nodes path = ap is_some is in
    elim (found_or_listed nodes files listed path walked has) [
      | inl filed ↦ let f = path_filed files path filed in grind (arith, f.2, (walked.are_files f.0 f.1).1)
      | inr old ↦ folder_plain path n (disk.paths path has) is (walked.were_folders path old)
    ])
  where
    folder_plain : (path : List ℕ) (n : Node) → is_path path ≡ true → node nodes path ≡ Some n → IsFolder nodes path
        → is_plain_node n ≡ true
    folder_plain path n named is folder = grind arith
