-- The bag below the base folder of a disk is a bag, and has what stands there.
use Rattle.std.proofs.Common.{◌≡◌, ◌≢◌, ℕ, IsUtf8, Bool, true, false, cond, ◌||◌, List, [], ◌∷◌}
use Rattle.std.proofs.Common.{Option, Some, None, is_some, refl, ap, sym, ◌∙◌, filter_map}
use Rattle.std.proofs.lemmas.Bool.{false≢true, and_parts}
use Rattle.std.specs.FinMap as fin
use Rattle.std.specs.FinMap.{find, is_sorted, get-from_entries, get-entries, entries_sorted}
use Rattle.std.specs.FinSet as set
use Rattle.std.specs.List.{list_any}
use Rattle.std.specs.Ordering.{eq_by_cmp}
use Rattle.std.specs.Cmp.Lexicographic.{nat_list_cmp_total}
use Rattle.bag_text.specs.Text.{text_cmp}
use Rattle.bag_text.specs.Path.{is_base_name, under}
use Rattle.bag_tree.proofs.SameText.{one_text}
use Rattle.bag_tree.specs.Bag.{IsBag, file, has_folder}
use Rattle.bag_tree.proofs.PathEntries.{none_below, t_true}
use Rattle.bag_disk.specs.Disk.{Nodes, Node, bytes_of, is_folder_node}
use Rattle.bag_disk.specs.DiskNodes.{node, IsDisk}
use Rattle.bag_disk.specs.Disk.Node.{File, Folder, Other}
pub use Rattle.bag_disk.specs.DiskNodes.{empty_disk}
use Rattle.bag_disk.specs.DiskBag.{bag_of, as_file, as_base_folder}
use Rattle.bag_disk.specs.Laws.{BagIsWhatStands}

skipped : (k q : List ℕ) (es : List (List ℕ × Node)) (n : Node) → bytes_of (Some n) ≡ None
    → is_sorted text_cmp ((k, n) ∷ es) ≡ true
    → find text_cmp q (filter_map as_file es) ≡ bytes_of (find text_cmp q es)
    → find text_cmp q (filter_map as_file es)
    ≡ bytes_of (cond (eq_by_cmp text_cmp q k) (Some n) (find text_cmp q es))
skipped k q es n none h others =
    elim (eq_by_cmp text_cmp q k) as
    (λ b. eq_by_cmp text_cmp q k ≡ b
    → find text_cmp q (filter_map as_file es)
    ≡ bytes_of (cond b (Some n) (find text_cmp q es))) [
      | true ↦ λ same.
          others ∙ ap bytes_of
          (ap (λ p. find text_cmp p es) (one_text q k same) ∙ none_below k es (and_parts _ _ h).0)
          ∙ sym none
      | false ↦ λ _. others
    ] refl

-- the bytes at a path are those of the one entry of the path
files_found : (es : List (List ℕ × Node)) (q : List ℕ) → is_sorted text_cmp es ≡ true
    → find text_cmp q (filter_map as_file es) ≡ bytes_of (find text_cmp q es)
files_found [] q h = refl
files_found ((k, File bytes) ∷ es) q h =
    elim (eq_by_cmp text_cmp q k) as
    (λ b. cond b (Some bytes) (find text_cmp q (filter_map as_file es))
    ≡ bytes_of (cond b (Some (File bytes)) (find text_cmp q es))) [
      | true ↦ refl
      | false ↦ files_found es q (and_parts _ _ h).1
    ]
files_found ((k, Folder) ∷ es) q h =
    skipped k q es Folder refl h (files_found es q (and_parts _ _ h).1)
files_found ((k, Other) ∷ es) q h =
    skipped k q es Other refl h (files_found es q (and_parts _ _ h).1)

-- the file at a path is what stands there, where it is a regular file
pub file_of_disk : (nodes : Nodes) (path : List ℕ)
    → file (bag_of nodes) path ≡ bytes_of (node nodes path)
unfolding bag_of
file_of_disk nodes path =
    get-from_entries nat_list_cmp_total (filter_map as_file (fin.entries nodes)) path
    ∙ files_found (fin.entries nodes) path (t_true _ (entries_sorted nodes))
    ∙ ap bytes_of (sym (get-entries nodes path))

passed : (k q : List ℕ) (es : List (List ℕ × Node)) (n : Node) → is_folder_node (Some n) ≡ false
    → is_sorted text_cmp ((k, n) ∷ es) ≡ true
    → list_any (eq_by_cmp text_cmp q) (filter_map as_base_folder es)
    ≡ is_folder_node (find text_cmp q es)
    → list_any (eq_by_cmp text_cmp q) (filter_map as_base_folder es)
    ≡ is_folder_node (cond (eq_by_cmp text_cmp q k) (Some n) (find text_cmp q es))
passed k q es n none h others =
    elim (eq_by_cmp text_cmp q k) as
    (λ b. eq_by_cmp text_cmp q k ≡ b
    → list_any (eq_by_cmp text_cmp q) (filter_map as_base_folder es)
    ≡ is_folder_node (cond b (Some n) (find text_cmp q es))) [
      | true ↦ λ same.
          others ∙ ap is_folder_node
          (ap (λ p. find text_cmp p es) (one_text q k same) ∙ none_below k es (and_parts _ _ h).0)
          ∙ sym none
      | false ↦ λ _. others
    ] refl

folders_found : (es : List (List ℕ × Node)) (q : List ℕ) → is_base_name q ≡ true
    → is_sorted text_cmp es ≡ true
    → list_any (eq_by_cmp text_cmp q) (filter_map as_base_folder es)
    ≡ is_folder_node (find text_cmp q es)
folders_found [] q is h = refl
folders_found ((k, Folder) ∷ es) q is h =
    elim (eq_by_cmp text_cmp q k) as
    (λ b. eq_by_cmp text_cmp q k ≡ b
    → list_any (eq_by_cmp text_cmp q) (filter_map as_base_folder ((k, Folder) ∷ es))
    ≡ is_folder_node (cond b (Some Folder) (find text_cmp q es))) [
      | true ↦ λ same. rw (sym (ap is_base_name (one_text q k same)) ∙ is, same) refl
      | false ↦ λ other.
          elim (is_base_name k) as
          (λ b. is_base_name k ≡ b
          → list_any (eq_by_cmp text_cmp q) (filter_map as_base_folder ((k, Folder) ∷ es))
          ≡ is_folder_node (find text_cmp q es)) [
            | true ↦ λ base. rw (base, other) (folders_found es q is (and_parts _ _ h).1)
            | false ↦ λ base. rw base (folders_found es q is (and_parts _ _ h).1)
          ] refl
    ] refl
folders_found ((k, File bytes) ∷ es) q is h =
    passed k q es (File bytes) refl h (folders_found es q is (and_parts _ _ h).1)
folders_found ((k, Other) ∷ es) q is h =
    passed k q es Other refl h (folders_found es q is (and_parts _ _ h).1)

-- a folder of the base folder is what stands there
pub folder_of_disk : (nodes : Nodes) (name : List ℕ) → is_base_name name ≡ true
    → has_folder (bag_of nodes) name ≡ is_folder_node (node nodes name)
unfolding bag_of
folder_of_disk nodes name is =
    set.contains-from_list nat_list_cmp_total (filter_map as_base_folder (fin.entries nodes)) name
    ∙ folders_found (fin.entries nodes) name is (t_true _ (entries_sorted nodes))
    ∙ ap is_folder_node (sym (get-entries nodes name))

kept_name : (k q : List ℕ) (others : Bool) → is_base_name k ≡ true
    → (others ≡ true → is_base_name q ≡ true) → (eq_by_cmp text_cmp q k || others) ≡ true
    → is_base_name q ≡ true
kept_name k q others is rest h =
    elim (eq_by_cmp text_cmp q k) as
    (λ b. eq_by_cmp text_cmp q k ≡ b → (b || others) ≡ true → is_base_name q ≡ true) [
      | true ↦ λ same _. ap is_base_name (one_text q k same) ∙ is
      | false ↦ λ _ old. rest old
    ] refl h

base_names : (es : List (List ℕ × Node)) (q : List ℕ)
    → list_any (eq_by_cmp text_cmp q) (filter_map as_base_folder es) ≡ true → is_base_name q ≡ true
base_names [] q h = absurd (false≢true h)
base_names ((k, File bytes) ∷ es) q h = base_names es q h
base_names ((k, Other) ∷ es) q h = base_names es q h
base_names ((k, Folder) ∷ es) q h =
    elim (is_base_name k) as (λ b. is_base_name k ≡ b → is_base_name q ≡ true) [
      | true ↦ λ is. kept_name k q (list_any (eq_by_cmp text_cmp q) (filter_map as_base_folder es))
          is
          (base_names es q) (rw is at h)
      | false ↦ λ is. base_names es q (rw is at h)
    ] refl

file_has : (o : Option Node) → is_some (bytes_of o) ≡ true → is_some o ≡ true
file_has None e = e
file_has (Some n) e = refl

-- a file and a folder have names in UTF-8
file_text : (o : Option Node) (path : List ℕ) → ((n : Node) → o ≡ Some n → n ≢ Other → IsUtf8 path)
    → is_some (bytes_of o) ≡ true → IsUtf8 path
file_text None path texts e = absurd (false≢true e)
file_text (Some (File bytes)) path texts e = texts (File bytes) refl (λ h. cc)
file_text (Some Folder) path texts e = absurd (false≢true e)
file_text (Some Other) path texts e = absurd (false≢true e)

folder_text : (o : Option Node) (path : List ℕ)
    → ((n : Node) → o ≡ Some n → n ≢ Other → IsUtf8 path) → is_folder_node o ≡ true → IsUtf8 path
folder_text None path texts e = absurd (false≢true e)
folder_text (Some (File bytes)) path texts e = absurd (false≢true e)
folder_text (Some Folder) path texts e = texts Folder refl (λ h. cc)
folder_text (Some Other) path texts e = absurd (false≢true e)

node_with : (o : Option Node) (content : List ℕ) → bytes_of o ≡ Some content
    → o ≡ Some (File content)
node_with None content e = cc
node_with (Some (File bytes)) content e = cc
node_with (Some Folder) content e = cc
node_with (Some Other) content e = cc

in_folders : (nodes : Nodes) (name : List ℕ) → has_folder (bag_of nodes) name ≡ true
    → is_base_name name ≡ true
unfolding bag_of
in_folders nodes name h =
    base_names (fin.entries nodes) name
    (sym (set.contains-from_list nat_list_cmp_total
    (filter_map as_base_folder (fin.entries nodes)) name) ∙ h)

pub bag_of_disk : (nodes : Nodes) → IsDisk nodes → IsBag (bag_of nodes)
bag_of_disk nodes disk = record {
  paths = λ path has.
      let is_there = sym (ap is_some (file_of_disk nodes path)) ∙ has in (
        disk.paths path (file_has (node nodes path) is_there),
        file_text (node nodes path) path (disk.texts path) is_there,
      );
  names = λ name has.
      let base = in_folders nodes name has in (
        base,
        folder_text (node nodes name) name (disk.texts name)
            (sym (folder_of_disk nodes name base) ∙ has),
      );
  parents = λ top rest base has.
      let there =
      disk.folders (under top rest)
      (file_has (node nodes (under top rest))
      (sym (ap is_some (file_of_disk nodes (under top rest))) ∙ has)) top rest refl in
      folder_of_disk nodes top base ∙ ap is_folder_node there;
  bytes = λ path content is.
      disk.bytes path content
      (node_with (node nodes path) content (sym (file_of_disk nodes path) ∙ is));
}

pub bag_is_what_stands : BagIsWhatStands
bag_is_what_stands = record { files = file_of_disk; folders = folder_of_disk }
