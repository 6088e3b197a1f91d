-- What is placed stands on a disk.
use Rattle.std.proofs.Common.{◌≡◌, ◌≢◌, ℕ, ◌<◌, List, [], ◌∷◌, Option, None, Some, is_some, cond, get_or, All, IsUtf8}
use Rattle.std.proofs.Common.{true, false, Fits, w8, refl, ap, sym, ◌∙◌, subst, arith}
use Rattle.std.proofs.lemmas.Bool.{and_from, lt-ltb, false≢true}
use Rattle.std.proofs.lemmas.List.Elements.{All-head, All-tail, All-from_get_or}
use Rattle.std.proofs.lemmas.Str.{is_utf8-from_IsUtf8}
use Rattle.std.specs.FinMap.{find, get-from_entries}
use Rattle.std.specs.Cmp.Lexicographic.{nat_list_cmp_total}
use Rattle.std.specs.Ordering.{eq_by_cmp}
use Rattle.bag_text.specs.Text.{text_cmp}
use Rattle.bag_tree.proofs.SameText.{one_text}
use Rattle.bag_disk.specs.Disk.{Nodes, Node, is_folder_node}
use Rattle.bag_disk.specs.DiskNodes.{node, IsDisk, is_plain_found}
use Rattle.bag_disk.specs.Disk.Node.{File, Folder, Other}
use Rattle.test_nodes.specs.Held.{Held, entries_of, nodes_of, node_of}
use Rattle.test_nodes.specs.Placing.{IsPlaced, PassesAsDisk, are_bytes, has_bytes}
use Rattle.test_nodes.specs.PlacingLaw.{below_256}

pub are_bytes_from : (bytes : List ℕ) → All (λ b. b < 256) bytes → are_bytes bytes ≡ true
are_bytes_from [] all = refl
are_bytes_from (b ∷ bytes) all =
    and_from _ _ (lt-ltb b 256 (All-head (λ b. b < 256) b bytes all))
    (are_bytes_from bytes (All-tail (λ b. b < 256) b bytes all))

-- the bytes of a slice
pub bytes_below : (bytes : List ℕ) → ((i : ℕ) → Fits w8 (get_or bytes i 0)) → are_bytes bytes ≡ true
bytes_below bytes fits = are_bytes_from bytes (All-from_get_or (λ b. b < 256) bytes 0 (λ i _. omega (arith, fits i)))

some_from : {A : Type 0} (o : Option A) → is_some o ≡ true → (x : A) × (o ≡ Some x)
some_from None e = cc
some_from (Some x) e = (x, refl)

in_entries : (P : List ℕ → Node → Type 0) (held : Held) (q : List ℕ) (n : Node)
    → All (λ e. P e.0.items (node_of e.1)) held → find text_cmp q (entries_of held) ≡ Some n → P q n
in_entries P [] q n all e = absurd (false≢true (ap is_some e))
in_entries P (e ∷ held) q n all is =
    elim (eq_by_cmp text_cmp q e.0.items) as
    (λ b. eq_by_cmp text_cmp q e.0.items ≡ b
    → cond b (Some (node_of e.1)) (find text_cmp q (entries_of held)) ≡ Some n → P q n) [
      | true ↦ λ same found.
          let one : node_of e.1 ≡ n = cc in
          subst (λ n. P q n) one
          (subst (λ q. P q (node_of e.1)) (sym (one_text q e.0.items same))
          (All-head (λ e. P e.0.items (node_of e.1)) e held all))
      | false ↦ λ _ found. in_entries P held q n (All-tail (λ e. P e.0.items (node_of e.1)) e held all) found
    ] refl is

-- what holds of all that is held holds of what stands there
pub holds_there : (P : List ℕ → Node → Type 0) (held : Held) (q : List ℕ) (n : Node)
    → All (λ e. P e.0.items (node_of e.1)) held → node (nodes_of held) q ≡ Some n → P q n
holds_there P held q n all is =
    in_entries P held q n all (sym (get-from_entries nat_list_cmp_total (entries_of held) q) ∙ is)

pub disk_from_placed : (held : Held) → All (λ e. IsPlaced (nodes_of held) e.0.items (node_of e.1)) held
    → IsDisk (nodes_of held)
disk_from_placed held all =
    let nodes = nodes_of held in
    let there : (q : List ℕ) (n : Node) → node nodes q ≡ Some n → IsPlaced nodes q n = λ q n is.
    holds_there (IsPlaced nodes) held q n all is in
    let has : (q : List ℕ) → is_some (node nodes q) ≡ true → (n : Node) × (node nodes q ≡ Some n) = λ q is.
    some_from (node nodes q) is in
    record {
      paths = λ path is. let found = has path is in (there path found.0 found.1).path_is;
      texts = λ path n is other. (there path n is).named other;
      folders = λ path is. let found = has path is in (there path found.0 found.1).reached;
      bytes = λ path content is. below_256 content (there path (File content) is).bytes;
    }

bytes_of_node : (n : Node) → ((content : List ℕ) → n ≡ File content → All (λ b. b < 256) content)
    → has_bytes (Some n) ≡ true
bytes_of_node (File content) below = are_bytes_from content (below content refl)
bytes_of_node Folder below = refl
bytes_of_node Other below = refl

some_ap : {A : Type 0} (o : Option A) (x y : A) → o ≡ Some x → x ≡ y → o ≡ Some y
some_ap o x y is same = is ∙ ap (λ x. Some x) same

pub placed_on_disk : (nodes : Nodes) (path : List ℕ) (n : Node) → IsDisk nodes → node nodes path ≡ Some n
    → IsPlaced nodes path n
placed_on_disk nodes path n disk is = record {
  path_is = disk.paths path (ap is_some is);
  named = disk.texts path n is;
  reached = disk.folders path (ap is_some is);
  bytes =
      bytes_of_node n (λ content same. disk.bytes path content (some_ap (node nodes path) n (File content) is same));
}

pub placed_from_disk : (held : Held) → All (λ e. node (nodes_of held) e.0.items ≡ Some (node_of e.1)) held
    → IsDisk (nodes_of held) → All (λ e. IsPlaced (nodes_of held) e.0.items (node_of e.1)) held
placed_from_disk held found disk k d within = placed_on_disk (nodes_of held) _ _ disk (found k d within)

plain_text : (o : Option Node) (path : List ℕ) → ((n : Node) → o ≡ Some n → n ≢ Other → IsUtf8 path)
    → is_plain_found o ≡ true → IsUtf8 path
plain_text None path texts e = absurd (false≢true e)
plain_text (Some (File bytes)) path texts e = texts (File bytes) refl (λ h. cc)
plain_text (Some Folder) path texts e = texts Folder refl (λ h. cc)
plain_text (Some Other) path texts e = absurd (false≢true e)

all_bytes : (o : Option Node) → ((content : List ℕ) → o ≡ Some (File content) → All (λ b. b < 256) content)
    → has_bytes o ≡ true
all_bytes None below = refl
all_bytes (Some (File content)) below = are_bytes_from content (below content refl)
all_bytes (Some Folder) below = refl
all_bytes (Some Other) below = refl

-- a disk passes the tests
pub disk_passes : (nodes : Nodes) → IsDisk nodes → PassesAsDisk nodes
disk_passes nodes disk = record {
  paths = disk.paths;
  texts = λ path is. is_utf8-from_IsUtf8 path (plain_text (node nodes path) path (disk.texts path) is);
  folders = λ path has folder rest e. ap is_folder_node (disk.folders path has folder rest e);
  bytes = λ path. all_bytes (node nodes path) (disk.bytes path);
}
