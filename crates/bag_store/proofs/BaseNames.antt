-- Names of the base folder, and what stands in its folders.
use Rattle.bag_store.proofs.Common.{◌≡◌, ℕ, ◌<◌, ◌==◌, true, IsTrue, List, [], ◌∷◌, length, length-append, Some, refl}
use Rattle.bag_store.proofs.Common.{ap, sym, ◌∙◌, arith, and_parts, eqb-true, components, is_base_name, is_path, under}
use Rattle.bag_store.proofs.Common.{Nodes, node, IsReachedByFolders, Folder, path_in, ◌++◌}
use Rattle.std.proofs.lemmas.List.Folds.{list_all-append}
use Rattle.std.proofs.lemmas.List.Splits.{length-slice_split}
use Rattle.bag_text.specs.Path.{first_component, is_component}
use Rattle.bag_tree.proofs.Parents.{base_not_under, first-under, is_slash}
use Rattle.bag_disk.proofs.FoundPaths.{components_under, path_in_folder}

one_component : (name : List ℕ) → is_base_name name ≡ true → length (components name) ≡ 1
one_component name is =
    eqb-true (length (components name)) 1 (and_parts (is_path name) (length (components name) == 1) is).1

some_components : (path : List ℕ) → 0 < length (components path)
some_components path = omega (arith, length-slice_split is_slash path)

-- nothing is on the way to a name of the base folder
pub base_reached : (nodes : Nodes) (name : List ℕ) → is_base_name name ≡ true → IsReachedByFolders nodes name
base_reached nodes name is folder rest same = absurd (base_not_under name folder rest is same)

-- a path of two components has its first one in front of a slash alone
base_of_two : (folder name other rest : List ℕ) → is_base_name folder ≡ true → is_base_name name ≡ true
    → under folder name ≡ under other rest → is_base_name other ≡ true
base_of_two folder name other rest is named same =
    let joined : components other ++ components rest ≡ components folder ++ components name =
    sym (components_under other rest) ∙ ap components (sym same) ∙ components_under folder name in
    grind (
      arith,
      joined,
      list_all-append is_component (components other) (components rest),
      list_all-append is_component (components folder) (components name),
      and_parts,
      one_component,
      length-append (components folder) (components name),
      length-append (components other) (components rest),
      some_components,
    )

-- the one folder on the way to a name in a folder of the base folder
pub one_on_way : (folder name other rest : List ℕ) → is_base_name folder ≡ true → is_base_name name ≡ true
    → under folder name ≡ under other rest → folder ≡ other
one_on_way folder name other rest is named same =
    sym (first-under folder name is) ∙ ap first_component same
    ∙ first-under other rest (base_of_two folder name other rest is named same)

pub target_reached : (nodes : Nodes) (folder name : List ℕ) → is_base_name folder ≡ true → is_base_name name ≡ true
    → node nodes folder ≡ Some Folder → IsReachedByFolders nodes (under folder name)
target_reached nodes folder name is named there other rest same =
    ap (node nodes) (sym (one_on_way folder name other rest is named same)) ∙ there

pub path_in_is_under : (folder name : List ℕ) → is_base_name folder ≡ true → path_in folder name ≡ under folder name
path_in_is_under [] name is = cc
path_in_is_under (c ∷ folder) name is = refl

pub target_is_path : (folder name : List ℕ) → is_base_name folder ≡ true → is_base_name name ≡ true
    → IsTrue (is_path (path_in folder name))
target_is_path folder name is named = grind (arith, path_in_folder, and_parts)
