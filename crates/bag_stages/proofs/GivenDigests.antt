-- A digest that a manifest gives has no more bytes than the longest one has.
use Rattle.bag_stages.proofs.Common.{◌≡◌, ◌≤◌, ℕ, List, length, take, ap, arith, length-map, take_all, encode_lower}
use Rattle.bag_stages.proofs.Common.{lower_digits, hex_len, Alg, Md5, Kind, ManifestEntry, lines_read, Bag, rules_in}
use Rattle.bag_stages.proofs.Common.{sym, Expected, IsEntryIn, IsSpelledBy}
use Rattle.std.specs.Char.{to_ascii_lowercase}
use Rattle.hex.proofs.HexLemmas.{length-encode_with}

at_most : (alg : Alg) → hex_len alg ≤ 128
at_most Md5 = omega arith
at_most _ = omega arith

module _ (bag : Bag) (kind : Kind) (alg : Alg) (entry : ManifestEntry) (listed : IsEntryIn bag kind alg entry) where
  short_text : length entry.digest ≤ 128
  short_text =
      let read = (lines_read (rules_in bag) kind alg listed.0 entry.digest entry.path).0 listed.2 in
      omega (arith, ap length read.in_lower_case, length-map read.hex to_ascii_lowercase, read.hex_length, at_most alg)

  -- so the first of them are all
  all_bytes : (bytes : List ℕ) → encode_lower bytes ≡ entry.digest → take 255 bytes ≡ bytes
  all_bytes bytes is =
      take_all 255 bytes (omega (arith, ap length is, length-encode_with lower_digits bytes, short_text))

pub spelled_bytes : (bag : Bag) (path : List ℕ) (kind : Kind) (one : Expected) → IsSpelledBy bag path kind one
    → take 255 one.digest ≡ one.digest
spelled_bytes bag path kind one spelled =
    all_bytes bag kind one.alg spelled.entry spelled.listed one.digest (sym spelled.digest_is)
