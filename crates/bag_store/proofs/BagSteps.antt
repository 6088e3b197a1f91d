-- What the changes of a disk make of the bag below its base folder.
use Rattle.bag_store.proofs.Common.{arith, ◌≡◌, ℕ, Bool, true, false, cond, List, [], ◌∷◌, Any, IsTrue, length, Option}
use Rattle.bag_store.proofs.Common.{Some, None, is_some, refl, ap, sym, ◌∙◌, false≢true, or_left, or_right, find}
use Rattle.bag_store.proofs.Common.{get-entries, get-insert, get-remove, list_any, eq_by_cmp, nat_list_cmp_total}
use Rattle.bag_store.proofs.Common.{text_cmp}
use Rattle.bag_store.proofs.Common.{is_base_name, under, exact_texts, one_text, text_itself, Bag, file, files_of}
use Rattle.bag_store.proofs.Common.{has_folder, has_within, is_taken, lacks_folder, lacks_source, make_folder, create}
use Rattle.bag_store.proofs.Common.{MovesAll, is_within, moved, within_cases, itself_within, not_within, Nodes, Node}
use Rattle.bag_store.proofs.Common.{node, DiskState, HasSpecial, IsDisk, IsReachedByFolders, MeetsSpecial, bytes_of}
use Rattle.bag_store.proofs.Common.{is_folder_node, path_in, Folder, HasFileNode, Moves, with_file_node}
use Rattle.bag_store.proofs.Common.{with_folder_node, nodes_move, bag_of_disk, file_of_disk, folder_of_disk, bag_of}
use Rattle.bag_store.proofs.Common.{IsStanding}
use Rattle.std.proofs.Common.{map as list_map, not, inl, inr, ◌⊎◌}
use Rattle.std.proofs.lemmas.List.Folds.{list_any-from_Any}
use Rattle.std.specs.FinMap as map
use Rattle.std.specs.FinSet as set
use Rattle.bag_tree.proofs.ListingLaw.{listings_are_of_the_bag}
use Rattle.bag_tree.specs.Listing.{IsListingOf, IsOrdered}
use Rattle.bag_tree.specs.declared.listing.FileEntry.{FileEntry}
use Rattle.bag_tree.specs.declared.listing.Listing.{Listing}
use Rattle.bag_tree.specs.Bag.{LacksFile}
use Rattle.bag_tree.specs.Cut.{lose}
use Rattle.bag_tree.specs.Steps as step
use Rattle.bag_tree.proofs.Moving.{moves_all}
use Rattle.bag_disk.proofs.DiskPaths.{none_below_no_folder}
use Rattle.bag_store.specs.declared.standing.Standing.{Standing}
use Rattle.bag_store.specs.declared.standing.Standing.TheVariants as standing
use Rattle.bag_store.proofs.BaseNames.{base_reached, path_in_is_under, target_reached}
use Rattle.bag_tree.proofs.Parents.{base_not_under}
use Rattle.bag_store.specs.Changing.{IsMovedIn, IsNameTaken}
use Rattle.bag_disk.specs.DiskNodes.{OnlyLooks}
use Rattle.bag_tree.specs.Moved.{ByPath}

pub same_bag : (a b : Bag) → ((path : List ℕ) → file a path ≡ file b path)
    → ((name : List ℕ) → has_folder a name ≡ has_folder b name) → a ≡ b
same_bag a b files folders =
    let one : a.files ≡ b.files = map.same_map nat_list_cmp_total exact_texts a.files b.files files in
    let other : a.folders ≡ b.folders = set.same_set nat_list_cmp_total exact_texts a.folders b.folders folders in
    λ i. record { files = one i; folders = other i }

-- a folder of the bag has a name
pub no_name : (nodes : Nodes) (q : List ℕ) → IsDisk nodes → is_base_name q ≡ false → has_folder (bag_of nodes) q ≡ false
no_name nodes q disk none = grind (arith, bag_of_disk nodes disk, false≢true)

-- the folders of two disks, by the names of the first one's and what takes their place
pub by_name : (q : List ℕ) (a b : Bool) → (is_base_name q ≡ true → a ≡ b) → (is_base_name q ≡ false → a ≡ b) → a ≡ b
by_name q a b named other = grind arith

-- two texts, one of which is a name
other_text : (q name : List ℕ) → is_base_name name ≡ true → is_base_name q ≡ false → eq_by_cmp text_cmp q name ≡ false
other_text q name is none = grind (arith, one_text q name)

pub node_put : (nodes : Nodes) (name : List ℕ) (n : Node) (q : List ℕ)
    → node (map.insert nodes name n) q ≡ cond (eq_by_cmp text_cmp q name) (Some n) (node nodes q)
node_put nodes name n q = get-insert nat_list_cmp_total nodes name n q

-- the bag with a folder in its base folder
pub folder_made : (nodes : Nodes) (name : List ℕ) → IsDisk nodes → IsDisk (with_folder_node nodes name)
    → is_base_name name ≡ true → node nodes name ≡ None
    → bag_of (with_folder_node nodes name) ≡ make_folder name (bag_of nodes)
folder_made nodes name disk disk_then is free =
    same_bag (bag_of (with_folder_node nodes name)) (make_folder name (bag_of nodes))
    (λ path. grind (arith, node_put, one_text, file_of_disk))
    (λ q. grind (
      arith,
      node_put,
      set.contains-insert nat_list_cmp_total,
      one_text,
      text_itself,
      folder_of_disk,
      no_name,
      other_text,
    ))

-- the bag with a file in its base folder
pub file_made : (nodes : Nodes) (name bytes : List ℕ) → IsDisk nodes → IsDisk (with_file_node nodes name bytes)
    → node nodes name ≡ None
    → bag_of (with_file_node nodes name bytes) ≡ create name bytes (bag_of nodes)
file_made nodes name bytes disk disk_then free =
    same_bag (bag_of (with_file_node nodes name bytes)) (create name bytes (bag_of nodes))
    (λ path. grind (arith, node_put, one_text, text_itself, file_of_disk, get-insert {X = List ℕ} nat_list_cmp_total))
    (λ q. by_name q _ _
    (λ named. grind (
      arith,
      node_put,
      one_text,
      folder_of_disk (with_file_node nodes name bytes) q named,
      folder_of_disk nodes q named,
    )) (λ none.
    no_name (with_file_node nodes name bytes) q disk_then none ∙ sym (no_name nodes q disk none)))

-- the bag with a file in its base folder, in place of any other of its name
pub file_put : (nodes : Nodes) (name bytes : List ℕ) → IsDisk nodes → IsDisk (with_file_node nodes name bytes)
    → is_folder_node (node nodes name) ≡ false
    → bag_of (with_file_node nodes name bytes) ≡ create name bytes (bag_of nodes)
file_put nodes name bytes disk disk_then none =
    same_bag (bag_of (with_file_node nodes name bytes)) (create name bytes (bag_of nodes))
    (λ path. grind (arith, node_put, one_text, text_itself, file_of_disk, get-insert {X = List ℕ} nat_list_cmp_total))
    (λ q. by_name q _ _
    (λ named. grind (
      arith,
      node_put,
      one_text,
      folder_of_disk (with_file_node nodes name bytes) q named,
      folder_of_disk nodes q named,
    )) (λ unnamed.
    no_name (with_file_node nodes name bytes) q disk_then unnamed ∙ sym (no_name nodes q disk unnamed)))

-- the bag without a file of its base folder
pub file_gone : (nodes : Nodes) (name : List ℕ) → IsDisk nodes → IsDisk (map.remove nodes name)
    → HasFileNode nodes name → bag_of (map.remove nodes name) ≡ lose name (bag_of nodes)
unfolding lose
file_gone nodes name disk disk_then has =
    same_bag (bag_of (map.remove nodes name)) (lose name (bag_of nodes))
    (λ path.
    file_of_disk (map.remove nodes name) path ∙ ap bytes_of (node_gone path)
    ∙ by_place path (eq_by_cmp text_cmp path name) refl (is_within name path) refl
    ∙ sym (map.get-retain_keys (bag_of nodes).files (λ p. not (is_within name p)) path (λ x same.
    ap (λ p. not (is_within name p)) (sym (exact_texts path x same)))))
    (λ q. by_name q _ _
    (λ named. grind (
      arith,
      node_gone,
      folder_of_disk (map.remove nodes name) q named,
      folder_of_disk nodes q named,
      set.contains-remove nat_list_cmp_total (bag_of nodes).folders name q,
    )) (λ none. grind (
      arith,
      no_name (map.remove nodes name) q disk_then none,
      no_name nodes q disk none,
      set.contains-remove nat_list_cmp_total (bag_of nodes).folders name q,
    )))
  where
    node_gone : (q : List ℕ)
        → node (map.remove nodes name) q ≡ cond (eq_by_cmp text_cmp q name) None (node nodes q)
    node_gone q = get-remove nat_list_cmp_total nodes name q

    no_folder : node nodes name ≡ Some Folder → ⊥
    no_folder is = false≢true (sym (ap (λ o. is_some (bytes_of o)) is) ∙ has)

    by_place : (path : List ℕ) (b : Bool) → eq_by_cmp text_cmp path name ≡ b → (c : Bool) → is_within name path ≡ c
        → bytes_of (cond b None (node nodes path)) ≡ cond (not c) (file (bag_of nodes) path) None
    by_place path true same true within = refl
    by_place path true same false out =
        absurd (false≢true (sym out ∙ ap (is_within name) (one_text path name same) ∙ itself_within name))
    by_place path false differ false out = sym (file_of_disk nodes path)
    by_place path false differ true within = elim (within_cases name path within) [
      | inl itself ↦
          absurd (false≢true (sym differ ∙ ap (λ p. eq_by_cmp text_cmp p name) itself ∙ text_itself name))
      | inr below ↦ ap bytes_of (none_below_no_folder nodes path name below.0 disk below.1 no_folder)
    ]

-- nothing has a free name, and what has one is taken
pub free_not_taken : (nodes : Nodes) (name : List ℕ) → is_base_name name ≡ true → node nodes name ≡ None
    → is_taken (bag_of nodes) name ≡ false
free_not_taken nodes name is free = grind (arith, file_of_disk, folder_of_disk)

pub not_taken : (nodes : Nodes) (name : List ℕ) → is_base_name name ≡ true → node nodes name ≡ None
    → is_taken (bag_of nodes) name ≡ true → ⊥
not_taken nodes name is free taken = grind (arith, free_not_taken)

pub place_free : (nodes : Nodes) (beside name : List ℕ) → is_base_name beside ≡ true → is_base_name name ≡ true
    → node nodes beside ≡ None → is_folder_node (node nodes name) ≡ false
    → (is_taken (bag_of nodes) beside ≡ true) ⊎ (has_folder (bag_of nodes) name ≡ true) → ⊥
place_free nodes beside name beside_is name_is free none (inl taken) = not_taken nodes beside beside_is free taken
place_free nodes beside name beside_is name_is free none (inr there) =
    false≢true (sym none ∙ sym (folder_of_disk nodes name name_is) ∙ there)

-- what was seen has its name
one_taken : (nodes : Nodes) (name : List ℕ) (seen : Standing) → is_base_name name ≡ true
    → IsStanding nodes name (Some seen) → is_taken (bag_of nodes) name ≡ true
one_taken nodes name seen is there = grind (arith, file_of_disk, folder_of_disk)

pub seen_taken : (disk : DiskState) (name : List ℕ) (o : Option Standing) (seen : Standing) → is_base_name name ≡ true
    → o ≡ Some seen
    → (IsTrue disk.honest → IsReachedByFolders disk.nodes name → IsStanding disk.nodes name o) → IsNameTaken disk name
seen_taken disk name o seen is some there honest = grind (arith, one_taken, base_reached)

-- what was seen there is a file, a folder, or nothing
pub folder_seen : (nodes : Nodes) (name : List ℕ) → is_base_name name ≡ true
    → IsStanding nodes name (Some standing.Folder) → has_folder (bag_of nodes) name ≡ true
folder_seen nodes name is there = grind (arith, folder_of_disk nodes name is)

pub folder_standing : (nodes : Nodes) (name : List ℕ) (o : Option Standing) (seen : Standing)
    → is_base_name name ≡ true → o ≡ Some seen → seen ≡ standing.Folder → IsStanding nodes name o
    → has_folder (bag_of nodes) name ≡ true
folder_standing nodes name o seen is some folder there = grind (arith, folder_of_disk nodes name is)

pub none_is_no_file : (nodes : Nodes) (name : List ℕ) → IsStanding nodes name None → LacksFile (bag_of nodes) name
none_is_no_file nodes name there = grind (arith, file_of_disk)

pub folder_is_no_file : (nodes : Nodes) (name : List ℕ) → IsStanding nodes name (Some standing.Folder)
    → LacksFile (bag_of nodes) name
folder_is_no_file nodes name there = grind (arith, file_of_disk)

-- a file that stands there isn't lacking
pub has_file_there : (nodes : Nodes) (name : List ℕ) → HasFileNode nodes name → LacksFile (bag_of nodes) name → ⊥
has_file_there nodes name has none = grind (arith, file_of_disk, false≢true)

abbrev Entries : Type 0
Entries = List (List ℕ × List ℕ)

found_within : (top p : List ℕ) (es : Entries) → is_within top p ≡ true → is_some (find text_cmp p es) ≡ true
    → list_any (λ e. is_within top e.0) es ≡ true
found_within top p [] within found = cc
found_within top p (e ∷ es) within found =
    grind (arith, one_text p e.0, or_left, or_right, found_within top p es within)

abbrev Found : List ℕ → Entries → Type 0
Found top es = (p : List ℕ) × (is_within top p ≡ true) × (is_some (find text_cmp p es) ≡ true)

within_found : (top : List ℕ) (es : Entries) → list_any (λ e. is_within top e.0) es ≡ true → Found top es
within_found top [] any = cc
within_found top (e ∷ es) any = grind (arith, text_itself, within_found top es)

-- a file stands at a path or below it
pub file_within : (nodes : Nodes) (path : List ℕ) → HasFileNode nodes path → has_within (bag_of nodes) path ≡ true
file_within nodes path has =
    grind (
      arith,
      found_within path path (files_of (bag_of nodes)),
      itself_within,
      get-entries (bag_of nodes).files path,
      file_of_disk,
    )

-- nothing stands at a free path or below it
pub free_below : (nodes : Nodes) (top path : List ℕ) → IsDisk nodes → node nodes top ≡ None → is_within top path ≡ true
    → node nodes path ≡ None
free_below nodes top path disk free within = grind (arith, within_cases, none_below_no_folder, false≢true)

pub no_file_below : (nodes : Nodes) (top path : List ℕ) → IsDisk nodes → node nodes top ≡ None
    → is_within top path ≡ true → file (bag_of nodes) path ≡ None
no_file_below nodes top path disk free within =
    file_of_disk nodes path ∙ ap bytes_of (free_below nodes top path disk free within)

pub free_not_within : (nodes : Nodes) (path : List ℕ) → IsDisk nodes → node nodes path ≡ None
    → has_within (bag_of nodes) path ≡ true → ⊥
free_not_within nodes path disk free within =
    let at = within_found path (files_of (bag_of nodes)) within in
    grind (arith, at.2, get-entries (bag_of nodes).files at.0, no_file_below nodes path at.0 disk free at.1)

-- what stands at a path when something was moved stood somewhere, or nothing does
pub came_from : {V W : Type 0} (P : Type 0) (old new : ByPath V) (old' new' : ByPath W) (from to path : List ℕ)
    → MovesAll old new from to → MovesAll old' new' from to
    → ((q : List ℕ) → map.get new path ≡ map.get old q → map.get new' path ≡ map.get old' q → P)
    → (map.get new path ≡ None → map.get new' path ≡ None → P) → P
came_from P old new old' new' from to path one other there none = grind (arith, within_cases)

-- the files when something was moved
files_moved : (nodes : Nodes) (from to : List ℕ) → IsDisk nodes → node nodes to ≡ None → (path : List ℕ)
    → file (bag_of (moved from to nodes)) path ≡ map.get (moved from to (bag_of nodes).files) path
files_moved nodes from to disk free path =
    came_from _ nodes (moved from to nodes) (bag_of nodes).files (moved from to (bag_of nodes).files) from to path
    (nodes_move nodes from to disk free)
    (moves_all (bag_of nodes).files from to (λ p within. no_file_below nodes to p disk free within))
    (λ q one other. file_of_disk (moved from to nodes) path ∙ ap bytes_of one ∙ sym (file_of_disk nodes q) ∙ sym other)
    (λ one other. file_of_disk (moved from to nodes) path ∙ ap bytes_of one ∙ sym other)

-- a name of the base folder is within another alone where it is this one
name_within : (top q : List ℕ) → is_base_name q ≡ true → eq_by_cmp text_cmp q top ≡ false → is_within top q ≡ false
name_within top q named other = grind (arith, not_within, false≢true, text_itself, base_not_under)

-- a name of the base folder isn't within a path in a folder of it
not_in_target : (folder top q : List ℕ) → is_base_name q ≡ true → is_within (under folder top) q ≡ false
not_in_target folder top q named = grind (arith, not_within, base_not_under)

-- the bag when something was moved into a folder
pub bag_moved_in : (nodes : Nodes) (top folder : List ℕ) → IsDisk nodes → IsDisk (moved top (under folder top) nodes)
    → is_base_name top ≡ true → node nodes (under folder top) ≡ None
    → bag_of (moved top (under folder top) nodes) ≡ step.move_in top folder (bag_of nodes)
bag_moved_in nodes top folder disk disk_then is free =
    let then = moved top (under folder top) nodes in
    let all = nodes_move nodes top (under folder top) disk free in
    same_bag (bag_of then) (step.move_in top folder (bag_of nodes)) (files_moved nodes top (under folder top) disk free)
    (λ q. by_name q _ _
    (λ named. grind (
      arith,
      all.left q,
      all.others q,
      folder_of_disk
          then q named,
      folder_of_disk nodes q named,
      one_text q top,
      itself_within q,
      not_in_target folder top q named,
      name_within top q named,
      set.contains-remove nat_list_cmp_total (bag_of nodes).folders top q,
    ))
    (λ none. grind (
      arith,
      no_name
          then q disk_then none,
      no_name nodes q disk none,
      set.contains-remove nat_list_cmp_total (bag_of nodes).folders top q,
    )))

-- the bag when a folder was given another name
pub bag_renamed : (nodes : Nodes) (from to : List ℕ) → IsDisk nodes → IsDisk (moved from to nodes)
    → is_base_name from ≡ true → is_base_name to ≡ true → node nodes from ≡ Some Folder → node nodes to ≡ None
    → bag_of (moved from to nodes) ≡ step.rename_folder from to (bag_of nodes)
bag_renamed nodes from to disk disk_then from_is to_is there free =
    let then = moved from to nodes in
    let all = nodes_move nodes from to disk free in
    let old = (bag_of nodes).folders in
    same_bag (bag_of then) (step.rename_folder from to (bag_of nodes)) (files_moved nodes from to disk free) (λ q.
    by_name q _ _
    (λ named. grind (
      arith,
      all.arrived,
      all.left q,
      all.others q,
      there,
      free,
      folder_of_disk
          then q named,
      folder_of_disk nodes q named,
      one_text q from,
      one_text q to,
      itself_within q,
      name_within from q named,
      name_within to q named,
      set.contains-remove nat_list_cmp_total (set.insert old to) from q,
      set.contains-insert nat_list_cmp_total old to q,
    ))
    (λ none. grind (
      arith,
      no_name
          then q disk_then none,
      no_name nodes q disk none,
      other_text q to to_is none,
      set.contains-remove nat_list_cmp_total (set.insert old to) from q,
      set.contains-insert nat_list_cmp_total old to q,
    )))

no_folder_there : (o : Option Node) → (o ≡ Some Folder → ⊥) → is_folder_node o ≡ false
no_folder_there (Some Folder) none = absurd (none refl)
no_folder_there _ none = refl

-- where no folder stands there is none
pub lacks_it : (nodes : Nodes) (name : List ℕ) → is_base_name name ≡ true → (node nodes name ≡ Some Folder → ⊥)
    → lacks_folder (bag_of nodes) name ≡ true
lacks_it nodes name is none = grind (arith, folder_of_disk nodes name is, no_folder_there)

pub lacks_place : (nodes : Nodes) (top folder : List ℕ) → is_base_name folder ≡ true
    → (node nodes folder ≡ Some Folder → ⊥) → lacks_source (bag_of nodes) top folder ≡ true
lacks_place nodes top folder is none = grind (arith, folder_of_disk nodes folder is, no_folder_there)

pub lacks_top : (nodes : Nodes) (top folder : List ℕ) → is_taken (bag_of nodes) top ≡ false
    → lacks_source (bag_of nodes) top folder ≡ true
lacks_top nodes top folder none = grind arith

-- where a folder stands, and what is to be moved, neither is lacking
pub has_it : (nodes : Nodes) (name : List ℕ) → is_base_name name ≡ true → node nodes name ≡ Some Folder
    → lacks_folder (bag_of nodes) name ≡ true → ⊥
has_it nodes name is there lacks = grind (arith, folder_of_disk nodes name is)

pub has_both : (nodes : Nodes) (top folder : List ℕ) → is_base_name folder ≡ true → node nodes folder ≡ Some Folder
    → is_taken (bag_of nodes) top ≡ true → lacks_source (bag_of nodes) top folder ≡ true → ⊥
has_both nodes top folder is there taken lacks = grind (arith, folder_of_disk nodes folder is, false≢true)

-- what was looked at
pub none_standing : (nodes : Nodes) (path : List ℕ) (o : Option Standing) → o ≡ None → IsStanding nodes path o
    → node nodes path ≡ None
none_standing nodes path o is there = grind arith

-- the path to which something is moved leads through a folder
pub to_target : (nodes : Nodes) (folder top target : List ℕ) → is_base_name folder ≡ true → is_base_name top ≡ true
    → target ≡ path_in folder top → node nodes folder ≡ Some Folder → IsReachedByFolders nodes target
to_target nodes folder top target is named at there = grind (arith, path_in_is_under, target_reached)

-- what is special there was met
pub special_met : (old first seen : DiskState) (folder top target : List ℕ) → OnlyLooks old first → OnlyLooks first seen
    → is_base_name folder ≡ true → is_base_name top ≡ true → target ≡ path_in folder top
    → (IsTrue old.honest → IsReachedByFolders old.nodes folder → node old.nodes folder ≡ Some Folder)
    → (IsTrue seen.honest → IsReachedByFolders seen.nodes target → HasSpecial seen.nodes) → MeetsSpecial old
special_met old first seen folder top target one two is named at there special honest =
    grind (arith, special, to_target old.nodes folder top target is named at, base_reached old.nodes folder is)

-- where a file or a folder stands at the target
pub file_in_target : (nodes : Nodes) (folder top target : List ℕ) (o : Option Standing) (seen : Standing)
    → is_base_name folder ≡ true → is_base_name top ≡ true → target ≡ path_in folder top
    → node nodes folder ≡ Some Folder → o ≡ Some seen → seen ≡ standing.File
    → (IsReachedByFolders nodes target → IsStanding nodes target o)
    → has_within (bag_of nodes) (under folder top) ≡ true
file_in_target nodes folder top target o seen is named at there some file stands =
    grind (
      arith,
      path_in_is_under folder top is,
      file_within nodes target,
      to_target nodes folder top target is named at there,
    )

pub folder_in_target : (nodes : Nodes) (folder top target : List ℕ) (o : Option Standing) (seen : Standing)
    → is_base_name folder ≡ true → is_base_name top ≡ true → target ≡ path_in folder top
    → node nodes folder ≡ Some Folder → o ≡ Some seen → seen ≡ standing.Folder
    → (IsReachedByFolders nodes target → IsStanding nodes target o) → node nodes (under folder top) ≡ Some Folder
folder_in_target nodes folder top target o seen is named at there some folder_seen stands =
    grind (arith, path_in_is_under folder top is, to_target nodes folder top target is named at there)

any_entry : (top : List ℕ) (es : Entries)
    → list_any (λ (entry : FileEntry). is_within top entry.path)
    (list_map (λ e. record { path = e.0; size = length e.1 }) es) ≡ list_any (λ e. is_within top e.0) es
any_entry top [] = refl
any_entry top (e ∷ es) = grind (arith, any_entry top es)

-- a listed file stands at a path or below it
pub listed_within : (bag : Bag) (listing : Listing) (files : List FileEntry) (top : List ℕ) → files ≡ listing.files
    → IsOrdered listing.files → IsListingOf bag listing
    → Any (λ file. IsTrue (is_within top file.path)) files → has_within bag top ≡ true
listed_within bag listing files top same ordered listed any =
    grind (arith, any_entry top (files_of bag), listings_are_of_the_bag bag listing ordered listed, list_any-from_Any)

-- what was moved into a folder
module _ (old first seen then new : DiskState) (folder top target target_then : List ℕ) (o : Option Standing)
    (one : OnlyLooks old first) (two : OnlyLooks first seen) (three : OnlyLooks seen then)
    (is : is_base_name folder ≡ true) (named : is_base_name top ≡ true) (at : target ≡ path_in folder top)
    (at_then : target_then ≡ path_in folder top)
    (there : IsTrue old.honest → IsReachedByFolders old.nodes folder → node old.nodes folder ≡ Some Folder)
    (taken : IsNameTaken first top) (none_is : o ≡ None)
    (stands : IsTrue seen.honest → IsReachedByFolders seen.nodes target → IsStanding seen.nodes target o)
    (moves : IsTrue then.honest → IsReachedByFolders then.nodes top → IsReachedByFolders then.nodes target_then
    → node then.nodes target_then ≡ None → Moves then.nodes new.nodes top target_then) where
  pub moved_into : IsMovedIn old new top folder
  moved_into = grind (arith, path_in_is_under, target_reached, none_standing, base_reached)
