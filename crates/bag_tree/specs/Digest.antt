-- The digest of bytes, in lower-case hex (RFC 8493, 2.4).
use Rattle.std.specs.Prelude.{ℕ, List}
use Rattle.bag_text.specs.Bytes.{Digest}
use Rattle.hex.specs.Hex.{encode_lower}
use Rattle.md5.specs.Md5.{md5}
use Rattle.sha1.specs.Sha1.{sha1}
use Rattle.sha2.specs.Sha256.{sha224, sha256}
use Rattle.sha2.specs.Sha512.{sha384, sha512}
use Rattle.bag_text.specs.declared.alg.Alg.{Alg}
use Rattle.bag_text.specs.declared.alg.Alg.TheVariants.{Md5, Sha1, Sha224, Sha256, Sha384, Sha512}

-- the standard's function of the whole message
abbrev pub hash : Alg → List ℕ → List ℕ
hash Md5 bytes = md5 bytes
hash Sha1 bytes = sha1 bytes
hash Sha224 bytes = sha224 bytes
hash Sha256 bytes = sha256 bytes
hash Sha384 bytes = sha384 bytes
hash Sha512 bytes = sha512 bytes

-- its value as manifests spell it
abbrev pub digest : Alg → List ℕ → Digest
digest alg bytes = encode_lower (hash alg bytes)
