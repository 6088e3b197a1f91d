-- The bytes that a digest spells.
use Rattle.std.specs.Prelude.{ℕ, List}
use Rattle.bag_entries.specs.declared.digest.Spelled.{Spelled}
use Rattle.bag_entries.specs.declared.digest.Spelled.TheVariants.{Md5, Sha1, Sha224, Sha256, Sha384}
use Rattle.bag_entries.specs.declared.digest.Spelled.TheVariants.{Sha512}

abbrev pub spelled_bytes : Spelled → List ℕ
spelled_bytes (Md5 bytes) = bytes
spelled_bytes (Sha1 bytes) = bytes
spelled_bytes (Sha224 bytes) = bytes
spelled_bytes (Sha256 bytes) = bytes
spelled_bytes (Sha384 bytes) = bytes.value
spelled_bytes (Sha512 bytes) = bytes.value
