-- What passes the tests stands on a disk.
use Rattle.std.specs.Prelude.{◌≡◌, ◌≢◌, ◌<◌, true, ℕ, List, [], ◌∷◌, Option, Some, None, All}
use Rattle.std.proofs.Common.{refl, ap, sym, ◌∙◌}
use Rattle.std.proofs.lemmas.Bool.{and_parts, ltb-true, false≢true}
use Rattle.std.proofs.lemmas.List.Elements.{All-nil, All-cons}
use Rattle.std.proofs.lemmas.Str.{IsUtf8-from_is_utf8}
use Rattle.bag_disk.specs.Disk.{Nodes, Node, is_plain_node, is_folder_node}
use Rattle.bag_disk.specs.DiskNodes.{IsDisk, is_plain_found}
use Rattle.bag_disk.specs.Disk.Node.{File, Folder, Other}
use Rattle.test_nodes.specs.Placing.{PassesAsDisk, are_bytes, has_bytes}

-- numbers that pass the test are below 256
pub below_256 : (bytes : List ℕ) → are_bytes bytes ≡ true → All (λ b. b < 256) bytes
below_256 [] e = All-nil (λ b. b < 256)
below_256 (b ∷ bytes) e =
    let parts =
    and_parts _ _ e in All-cons (λ b. b < 256) b bytes (ltb-true b 256 parts.0)
    (below_256 bytes parts.1)

pub plain_from : (n : Node) → n ≢ Other → is_plain_node n ≡ true
plain_from (File bytes) other = refl
plain_from Folder other = refl
plain_from Other other = absurd (other refl)

folder_from : (o : Option Node) → is_folder_node o ≡ true → o ≡ Some Folder
folder_from None e = absurd (false≢true e)
folder_from (Some (File bytes)) e = absurd (false≢true e)
folder_from (Some Folder) e = refl
folder_from (Some Other) e = absurd (false≢true e)

pub passing_is_disk : (nodes : Nodes) → PassesAsDisk nodes → IsDisk nodes
passing_is_disk nodes passes = record {
  paths = passes.paths;
  texts = λ path n is other.
      IsUtf8-from_is_utf8 path (passes.texts path (ap is_plain_found is ∙ plain_from n other));
  folders = λ path has folder rest e. folder_from _ (passes.folders path has folder rest e);
  bytes = λ path content is. below_256 content (sym (ap has_bytes is) ∙ passes.bytes path);
}
