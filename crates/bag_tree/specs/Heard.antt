-- What is heard of a writer.
use Rattle.std.specs.Prelude.{◌≡◌, ℕ, List, Option, Some, is_some, IsTrue, ◌≤◌, length, take}
use Rattle.std.specs.Io.KnownBytes.{Appends}
use Rattle.bag_tree.specs.Out.{OutState}

-- the bytes of writers of this kind are always known
abbrev pub ExposesBytes : {W : Type 0} → (W → Option (List ℕ)) → Type 0
ExposesBytes {W} contents = (writer : W) → IsTrue (is_some (contents writer))

-- the known bytes of a writer are what was heard of it
abbrev pub HasReceived : {W : Type 0} → (W → Option (List ℕ)) → W → List ℕ → Type 0
HasReceived contents writer bytes = ExposesBytes contents → contents writer ≡ Some bytes

-- the first n bytes were taken
pub record Takes (old new : OutState) (bytes : List ℕ) (n : ℕ) : Type 0 where
  pub some : 1 ≤ n
  pub within : n ≤ length bytes
  pub appended : Appends old.taken new.taken (take n bytes)
