-- What is packed is unpacked again.
use Rattle.bag_stages.proofs.Common.{arith, ◌≡◌, ◌≤◌, ◌++◌, ◌∷◌, [], ℕ, zero, suc, List, length, take, drop}
use Rattle.bag_stages.proofs.Common.{refl, sym, ap, ◌∙◌, append-nil, take_all, take-append-le, rank, Alg, Md5, Expected}
use Rattle.bag_stages.proofs.Common.{◌-◌, min, take_min}
use Rattle.std.specs.Prelude.{slice_index_or}
use Rattle.std.proofs.lemmas.Grind.{flat_map-append}
use Rattle.std.proofs.lemmas.List.{drop-append-le, drop_all, drop_min}
use Rattle.bag_stages.specs.Expected.{given}
use Rattle.bag_stages.specs.Packed.{alg_ranked, packed, packed_one, unpacked, unpacked_after}
use Rattle.bag_text.specs.declared.alg.Alg.TheVariants.{Sha1, Sha224, Sha256, Sha384, Sha512}

-- bytes are left out one by one
pub left_out : (k : ℕ) (bytes : List ℕ) → unpacked_after k bytes ≡ unpacked (drop k bytes)
left_out zero bytes = refl
left_out (suc k) [] = refl
left_out (suc k) (b ∷ rest) = left_out k rest

pub rank_read : (alg : Alg) → alg_ranked (rank alg) ≡ alg
rank_read Md5 = refl
rank_read Sha1 = refl
rank_read Sha224 = refl
rank_read Sha256 = refl
rank_read Sha384 = refl
rank_read Sha512 = refl

-- what is packed first is unpacked first
first_unpacked : (one : Expected) (rest : List ℕ) → unpacked (packed_one one ++ rest) ≡ one ∷ unpacked rest
first_unpacked one rest =
    let front : take (length one.digest) (one.digest ++ rest) ≡ one.digest =
    take-append-le (length one.digest) one.digest rest (omega arith)
    ∙ take_all (length one.digest) one.digest (omega arith) in
    let behind : drop (length one.digest) (one.digest ++ rest) ≡ rest =
    drop-append-le (length one.digest) one.digest rest (omega arith)
    ∙ ap (λ l. l ++ rest) (drop_all (length one.digest) one.digest (omega arith)) in
    let left : unpacked_after (length one.digest) (one.digest ++ rest) ≡ unpacked rest =
    left_out (length one.digest) (one.digest ++ rest) ∙ ap unpacked behind in λ i.
    given (rank_read one.alg i) (front i) ∷ left i

-- and so one after another
pub all_unpacked : (expected : List Expected) → unpacked (packed expected) ≡ expected
all_unpacked [] = refl
all_unpacked (one ∷ expected) = first_unpacked one (packed expected) ∙ ap (λ l. one ∷ l) (all_unpacked expected)

-- one more is packed behind the others
pub one_packed : (expected : List Expected) (one : Expected)
    → packed (expected ++ one ∷ []) ≡ packed expected ++ packed_one one
one_packed expected one =
    flat_map-append packed_one expected (one ∷ []) ∙ ap (λ l. packed expected ++ l) (append-nil (packed_one one))

split_rest : (place n : ℕ) (rest front behind : List ℕ) (count : ℕ) → count ≡ min n (length rest)
    → front ≡ take count rest → behind ≡ drop count rest
    → unpacked (place ∷ n ∷ rest) ≡ given (alg_ranked place) front ∷ unpacked behind
split_rest place n rest front behind count is at after =
    let digest : take n rest ≡ front = sym (at ∙ ap (λ k. take k rest) is ∙ take_min n rest) in
    let left : unpacked_after n rest ≡ unpacked behind =
    left_out n rest ∙ ap unpacked (sym (after ∙ ap (λ k. drop k rest) is ∙ drop_min n rest)) in λ i.
    given (alg_ranked place) (digest i) ∷ left i

-- the first is cut off
pub split_bytes : (bytes front behind : List ℕ) (count : ℕ) → 2 ≤ length bytes
    → count ≡ min (slice_index_or bytes 1 0) (length bytes - 2)
    → front ≡ take count (take (length bytes - 2) (drop 2 bytes))
    → behind ≡ drop count (take (length bytes - 2) (drop 2 bytes))
    → unpacked bytes ≡ given (alg_ranked (slice_index_or bytes 0 0)) front ∷ unpacked behind
split_bytes [] front behind count two is at after = absurd (omega (arith, two))
split_bytes (_ ∷ []) front behind count two is at after = absurd (omega (arith, two))
split_bytes (place ∷ n ∷ rest) front behind count two is at after =
    let all : take (length (place ∷ n ∷ rest) - 2) rest ≡ rest =
    take_all (length (place ∷ n ∷ rest) - 2) rest (omega arith) in
    split_rest place n rest front behind count (omega (arith, is)) (at ∙ ap (take count) all)
    (after ∙ ap (drop count) all)
