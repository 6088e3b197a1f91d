-- A bag that passes the tests is a bag.
use Rattle.std.specs.Prelude.{◌≡◌, ◌<◌, true, ℕ, List, [], ◌∷◌, All}
use Rattle.std.proofs.lemmas.Bool.{and_parts, ltb-true}
use Rattle.std.proofs.lemmas.List.Elements.{All-nil, All-cons}
use Rattle.std.proofs.lemmas.Str.{IsUtf8-from_is_utf8}
use Rattle.bag_tree.specs.Bag.{Bag, IsBag}
use Rattle.bag_memory.specs.MemoryTree.{PassesAsBag, are_bytes}

-- numbers that pass the test are below 256
below_256 : (bytes : List ℕ) → are_bytes bytes ≡ true → All (λ b. b < 256) bytes
below_256 [] e = All-nil (λ b. b < 256)
below_256 (b ∷ bytes) e =
    let parts = and_parts _ _ e in
    All-cons (λ b. b < 256) b bytes (ltb-true b 256 parts.0) (below_256 bytes parts.1)

-- what passes the tests is a bag
pub passing_is_bag : (bag : Bag) → PassesAsBag bag → IsBag bag
passing_is_bag bag passes = record {
  paths = λ path has.
      let parts = and_parts _ _ (passes.paths path has) in
      (parts.0, IsUtf8-from_is_utf8 path parts.1);
  names = λ name has.
      let parts = and_parts _ _ (passes.names name has) in
      (parts.0, IsUtf8-from_is_utf8 name parts.1);
  parents = passes.parents;
  bytes = λ path content has. below_256 content (passes.bytes path content has);
}
