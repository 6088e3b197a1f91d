-- What a hasher holds.
use Rattle.std.specs.Prelude.{ℕ, List}
use Rattle.md5.specs.Md5.{Holds as HoldsMd5}
use Rattle.sha1.specs.Sha1.{Holds as HoldsSha1}
use Rattle.sha2.specs.Hashers.{Holds224, Holds256, Holds384, Holds512}
use Rattle.bag_text.specs.declared.alg.Alg.{Alg}
use Rattle.bag_text.specs.declared.alg.Alg.TheVariants.{Md5, Sha1, Sha224, Sha256, Sha384, Sha512}
use Rattle.bag_tree.specs.declared.hasher.Hasher.{Hasher}
use Rattle.bag_tree.specs.declared.hasher.Hasher.TheVariants as by

-- the hasher is of this algorithm, and holds this message
abbrev pub HoldsMessage : Alg → Hasher → List ℕ → Type 0
HoldsMessage Md5 (by.Md5 hasher) message = HoldsMd5 hasher message
HoldsMessage Sha1 (by.Sha1 hasher) message = HoldsSha1 hasher message
HoldsMessage Sha224 (by.Sha224 hasher) message = Holds224 hasher message
HoldsMessage Sha256 (by.Sha256 hasher) message = Holds256 hasher message
HoldsMessage Sha384 (by.Sha384 hasher) message = Holds384 hasher message
HoldsMessage Sha512 (by.Sha512 hasher) message = Holds512 hasher message
HoldsMessage alg hasher message = ⊥
