-- The value of each hash function has its length, and consists of bytes.
use Rattle.bag_tree.proofs.Common.{◌≡◌, ℕ, zero, suc, ◌+◌, ◌*◌, ◌/◌, ◌<◌, ◌≤◌, List, ◌++◌, length, take, refl, arith}
use Rattle.bag_tree.proofs.Common.{slice_index, length-append, length-take-le, All, All-nil, All-cons, All-append}
use Rattle.bag_tree.proofs.Common.{All-take, Alg, Md5, Sha1, Sha224, Sha256, Sha384, Sha512, hash, hash_len}
use Rattle.std.specs.Int.{w32, w64, byte_at, to_le_bytes, to_be_bytes, bytes_low_first, bytes_high_first}
use Rattle.md5.specs.Md5 as by_md5
use Rattle.sha1.specs.Sha1 as by_sha1
use Rattle.sha2.specs.Sha256 as by_sha256
use Rattle.sha2.specs.Sha512 as by_sha512

abbrev pub AreBytes : List ℕ → Type 0
AreBytes bytes = All (λ b. b < 256) bytes

byte_small : (i n : ℕ) → byte_at i n < 256
byte_small zero n = omega arith
byte_small (suc i) n = omega arith

low_first_small : (i k n : ℕ) → AreBytes (bytes_low_first i k n)
low_first_small i zero n = All-nil (λ b. b < 256)
low_first_small i (suc k) n =
    All-cons (λ b. b < 256) (byte_at i n) (bytes_low_first (suc i) k n) (byte_small i n) (low_first_small (suc i) k n)

high_first_small : (k n : ℕ) → AreBytes (bytes_high_first k n)
high_first_small zero n = All-nil (λ b. b < 256)
high_first_small (suc k) n =
    All-cons (λ b. b < 256) (byte_at k n) (bytes_high_first k n) (byte_small k n) (high_first_small k n)

-- what is known of a value: how many bytes it has, and that they are bytes
abbrev pub IsValue : ℕ → List ℕ → Type 0
IsValue n bytes = (length bytes ≡ n) × AreBytes bytes

more : (n m k : ℕ) (front back : List ℕ) → IsValue n front → length back ≡ m → AreBytes back → n + m ≡ k
    → IsValue k (front ++ back)
more n m k front back (long, small) e all sum =
    (omega (arith, length-append front back), All-append (λ b. b < 256) front back small all)

md5_words : (h : List ℕ) (n : ℕ) → IsValue (n * 4) (by_md5.digest_bytes h n)
unfolding by_md5.digest_bytes
md5_words h zero = (omega arith, All-nil (λ b. b < 256))
md5_words h (suc n) =
    more (n * 4) 4 _ (by_md5.digest_bytes h n) (to_le_bytes w32 (slice_index h n)) (md5_words h n) refl
    (low_first_small 0 4 (slice_index h n)) (omega arith)

sha1_words : (h : List ℕ) (n : ℕ) → IsValue (n * 4) (by_sha1.digest_bytes h n)
unfolding by_sha1.digest_bytes
sha1_words h zero = (omega arith, All-nil (λ b. b < 256))
sha1_words h (suc n) =
    more (n * 4) 4 _ (by_sha1.digest_bytes h n) (to_be_bytes w32 (slice_index h n)) (sha1_words h n) refl
    (high_first_small 4 (slice_index h n)) (omega arith)

sha256_words : (h : List ℕ) (n : ℕ) → IsValue (n * 4) (by_sha256.digest_bytes h n)
unfolding by_sha256.digest_bytes
sha256_words h zero = (omega arith, All-nil (λ b. b < 256))
sha256_words h (suc n) =
    more (n * 4) 4 _ (by_sha256.digest_bytes h n) (to_be_bytes w32 (slice_index h n)) (sha256_words h n) refl
    (high_first_small 4 (slice_index h n)) (omega arith)

sha512_words : (h : List ℕ) (n : ℕ) → IsValue (n * 8) (by_sha512.digest_bytes h n)
unfolding by_sha512.digest_bytes
sha512_words h zero = (omega arith, All-nil (λ b. b < 256))
sha512_words h (suc n) =
    more (n * 8) 8 _ (by_sha512.digest_bytes h n) (to_be_bytes w64 (slice_index h n)) (sha512_words h n) refl
    (high_first_small 8 (slice_index h n)) (omega arith)

-- the first bytes of a value
first_bytes : (k n : ℕ) (bytes : List ℕ) → IsValue n bytes → k ≤ n → IsValue k (take k bytes)
first_bytes k n bytes (long, small) fits =
    (length-take-le k bytes (omega (arith, long)), All-take (λ b. b < 256) k bytes small)

-- the value of each algorithm
pub value : (alg : Alg) (bytes : List ℕ) → IsValue (hash_len alg) (hash alg bytes)
unfolding by_md5.md5 by_sha1.sha1 by_sha256.sha224 by_sha256.sha256 by_sha512.sha384 by_sha512.sha512
value Md5 bytes =
    md5_words (by_md5.hash_after (by_md5.padded_message bytes) (length (by_md5.padded_message bytes) / 64)) 4
value Sha1 bytes =
    sha1_words (by_sha1.hash_after (by_sha1.padded_message bytes) (length (by_sha1.padded_message bytes) / 64)) 5
value Sha224 bytes =
    first_bytes 28 32 _ (sha256_words (by_sha256.final_hash by_sha256.initial_hash_224 bytes) 8) (omega arith)
value Sha256 bytes = sha256_words (by_sha256.final_hash by_sha256.initial_hash_256 bytes) 8
value Sha384 bytes =
    first_bytes 48 64 _ (sha512_words (by_sha512.final_hash by_sha512.initial_hash_384 bytes) 8) (omega arith)
value Sha512 bytes = sha512_words (by_sha512.final_hash by_sha512.initial_hash_512 bytes) 8
