-- What is put at a path stands on a disk.
use Rattle.std.proofs.Common.{◌≡◌, ℕ, ◌<◌, List, [], ◌∷◌, ◌++◌, length, length-append, Option, None, Some, is_some}
use Rattle.std.proofs.Common.{cond, IsUtf8, true, false, refl, ap, sym, ◌∙◌, subst, arith}
use Rattle.std.proofs.lemmas.Bool.{and_from, and_parts, false≢true}
use Rattle.std.proofs.lemmas.Str.{is_utf8-from_IsUtf8}
use Rattle.std.specs.FinMap as map
use Rattle.std.specs.FinMap.{get-insert}
use Rattle.std.specs.Cmp.Lexicographic.{nat_list_cmp_total}
use Rattle.std.specs.Ordering.{eq_by_cmp}
use Rattle.std.specs.Str.{is_utf8}
use Rattle.bag_text.specs.Text.{text_cmp}
use Rattle.bag_text.specs.Path.{is_path, slash, under}
use Rattle.bag_tree.proofs.SameText.{one_text}
use Rattle.bag_disk.specs.Disk.{Nodes, Node, is_folder_node}
use Rattle.bag_disk.specs.DiskNodes.{node, IsReachedByFolders, is_plain_found}
use Rattle.bag_disk.specs.Disk.Node.{File}
use Rattle.bag_disk.specs.WritableDisk.{Appends}
use Rattle.test_nodes.specs.Placing.{PassesAsDisk, are_bytes, has_bytes}
use Rattle.test_nodes.specs.PlacingLaw.{passing_is_disk}

at_put : (P : Option Node → Type 0) (nodes : Nodes) (path : List ℕ) (n : Node) (q : List ℕ) → (q ≡ path → P (Some n))
    → (eq_by_cmp text_cmp q path ≡ false → P (node nodes q)) → P (node (map.insert nodes path n) q)
at_put P nodes path n q here there =
    subst P (sym (get-insert nat_list_cmp_total nodes path n q))
    (elim (eq_by_cmp text_cmp q path) as (λ b. eq_by_cmp text_cmp q path ≡ b → P (cond b (Some n) (node nodes q))) [
      | true ↦ λ same. here (one_text q path same)
      | false ↦ λ other. there other
    ] refl)

shorter : (folder rest : List ℕ) → length folder < length (under folder rest)
shorter folder rest = omega (arith, length-append folder (slash ∷ rest))

not_itself : (path rest : List ℕ) → path ≡ under path rest → ⊥
not_itself path rest e = omega (arith, shorter path rest, ap length e)

-- Something is put where no folder stands.
pub put_passes : (nodes : Nodes) (path : List ℕ) (n : Node) → PassesAsDisk nodes → is_path path ≡ true
    → is_utf8 path ≡ true → has_bytes (Some n) ≡ true
    → is_folder_node (node nodes path) ≡ false → IsReachedByFolders nodes path → PassesAsDisk (map.insert nodes path n)
put_passes nodes path n passes is text bytes none reached = record {
  paths =
      λ q. at_put (λ o. is_some o ≡ true → is_path q ≡ true) nodes path n q (λ same _. ap is_path same ∙ is) (λ _ has.
      passes.paths q has);
  texts =
      λ q. at_put (λ o. is_plain_found o ≡ true → is_utf8 q ≡ true) nodes path n q (λ same _. ap is_utf8 same ∙ text)
      (λ _ plain. passes.texts q plain);
  folders = λ q has folder rest e. at_put (λ o. is_folder_node o ≡ true) nodes path n folder
      (λ same. at_put (λ o. is_some o ≡ true → is_folder_node (Some n) ≡ true) nodes path n q
      (λ here _. absurd (not_itself path rest (sym here ∙ e ∙ ap (λ t. under t rest) same)))
      (λ _ old. absurd
      (false≢true (sym none ∙ ap (λ t. is_folder_node (node nodes t)) (sym same)
      ∙ passes.folders q old folder rest e))) has)
      (λ _. at_put (λ o. is_some o ≡ true → is_folder_node (node nodes folder) ≡ true) nodes path n q
      (λ here _. ap is_folder_node (reached folder rest (sym here ∙ e)))
      (λ _ old. passes.folders q old folder rest e) has);
  bytes = λ q. at_put (λ o. has_bytes o ≡ true) nodes path n q (λ _. bytes) (λ _. passes.bytes q);
}

-- something new is put at a path, whose bytes are the key
pub added_passes : (nodes new : Nodes) (key path : List ℕ) (n : Node) → key ≡ path → new ≡ map.insert nodes key n
    → PassesAsDisk nodes → is_path path ≡ true → IsUtf8 path → has_bytes (Some n) ≡ true
    → node nodes key ≡ None → IsReachedByFolders nodes key → PassesAsDisk new
added_passes nodes new key path n same put passes is text bytes free reached =
    subst PassesAsDisk (sym put)
    (put_passes nodes key n passes (ap is_path same ∙ is) (ap is_utf8 same ∙ is_utf8-from_IsUtf8 path text) bytes
    (ap is_folder_node free) reached)

are_bytes-append : (xs ys : List ℕ) → are_bytes xs ≡ true → are_bytes ys ≡ true → are_bytes (xs ++ ys) ≡ true
are_bytes-append [] ys first second = second
are_bytes-append (x ∷ xs) ys first second = let parts = and_parts _ _ first
    in and_from _ _ parts.0 (are_bytes-append xs ys parts.1 second)

-- bytes are put after those of a file
pub appended_passes : (nodes new : Nodes) (path bytes : List ℕ) → PassesAsDisk nodes → Appends nodes new path bytes
    → are_bytes bytes ≡ true → PassesAsDisk new
appended_passes nodes new path bytes passes appends are =
    let has = ap is_some appends.was in
    subst PassesAsDisk (sym appends.appended)
    (put_passes nodes path (File (appends.content ++ bytes)) passes (passes.paths path has)
    (passes.texts path (ap is_plain_found appends.was))
    (are_bytes-append appends.content bytes (sym (ap has_bytes appends.was) ∙ passes.bytes path) are)
    (ap is_folder_node appends.was) ((passing_is_disk nodes passes).folders path has))
