-- What a manifest gives for a file.
use Rattle.std.specs.Prelude.{ℕ, List}
use Rattle.bag_text.specs.declared.alg.Alg.{Alg}

-- the algorithm of the manifest, and the bytes that the digest spells
pub record Expected : Type 0 where
  pub alg : Alg
  pub digest : List ℕ

abbrev pub given : Alg → List ℕ → Expected
given alg digest = record { alg = alg; digest = digest }
