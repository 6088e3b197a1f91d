-- The digests of a listed file (RFC 8493, 2.4).
use Rattle.std.specs.Prelude.{◌≡◌, ◌<◌, ◌++◌, ◌∷◌, [], List, All, IsTrue, Option, Some}
use Rattle.std.specs.Prelude.{length}
use Rattle.bag_text.specs.Bytes.{Content, Digest}
use Rattle.bag_text.specs.declared.alg.Alg.{Alg}
use Rattle.bag_tree.specs.Bag.{file}
use Rattle.bag_tree.specs.Tree.{TreeState}
use Rattle.bag_tree.specs.declared.listing.FileEntry.{FileEntry}
use Rattle.bag_tree.specs.DigestsOf.{AreSumsOf}

-- these are the digests of the bytes that the tree gave of the file: as many as were listed, and the
-- file's where the tree is honest
pub record AreSumsOfFile (old new : TreeState) (entry : FileEntry) (asked : List Alg)
    (sums : List (Option Digest)) : Type 0 where
  pub content : Content
  pub bytes : All (λ b. b < 256) content
  pub size : length content ≡ entry.size
  pub sums_of : AreSumsOf asked content sums
  pub gave : new.gave ≡ old.gave ++ (entry.path, content) ∷ []
  pub honest : IsTrue old.honest → file old.bag entry.path ≡ Some content
