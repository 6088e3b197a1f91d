-- Algorithms are reported apart by their ranks and by their fields.
use Rattle.bag_faults.proofs.Common.{◌≡◌, ◌≢◌, ℕ, nat_lt, Bool, true, false, not, List, Option, Some, None, bytes_eq}
use Rattle.bag_faults.proofs.Common.{codes, sym, ap, ◌∙◌, refl, arith, list_all, nat_tests, All-contains}
use Rattle.bag_faults.proofs.Common.{bytes_eq-Decides, algs, name, rank, rank_or_zero, alg_named, Alg, each_is_listed}
use Rattle.bag_faults.proofs.Common.{name_is_read_again, names_tell_apart, alg_field}
use Rattle.std.proofs.lemmas.List.Sums.{AllPass-from_list_all}
use Rattle.bag_text.specs.AlgTable.{same_rank}

-- what all of the list pass, each algorithm passes
pub each_alg : (test : Alg → Bool) → list_all test algs ≡ true → (alg : Alg) → test alg ≡ true
each_alg test all alg =
    All-contains (λ a. test a ≡ true) algs alg (AllPass-from_list_all test algs all) (each_is_listed alg)

has_rank : (alg : Alg) → 0 ≢ rank alg
has_rank alg e = let positive = each_alg (λ a. nat_lt 0 (rank a)) refl alg in grind (arith, nat_tests)

-- the order tells algorithms apart
pub same_alg : (a b : Option Alg) → rank_or_zero a ≡ rank_or_zero b → a ≡ b
same_alg None None e = refl
same_alg None (Some b) e = absurd (has_rank b e)
same_alg (Some a) None e = absurd (has_rank a (sym e))
same_alg (Some a) (Some b) e = ap Some (same_rank a b e)

pub other_texts : (s t : List ℕ) → bytes_eq s t ≡ false → s ≢ t
other_texts s t e same = let yes = (bytes_eq-Decides s t).1 same in cc

-- no algorithm is called -
no_hyphen : (alg : Alg) → name alg ≢ codes "-"
no_hyphen alg =
    other_texts (name alg) (codes "-")
    (let test = each_alg (λ a. not (bytes_eq (name a) (codes "-"))) refl alg in grind arith)

-- fields tell algorithms apart
pub same_alg_field : (a b : Option Alg) → alg_field a ≡ alg_field b → a ≡ b
same_alg_field None None e = refl
same_alg_field None (Some b) e = absurd (no_hyphen b (sym e))
same_alg_field (Some a) None e = absurd (no_hyphen a e)
same_alg_field (Some a) (Some b) e = ap Some (names_tell_apart a b e)

-- the algorithm of a field that isn't a hyphen
pub alg_written : (alg : Option Alg) (w : List ℕ) → alg_field alg ≡ w → bytes_eq w (codes "-") ≡ false
    → alg_named w ≡ alg
alg_written None w e other = absurd (other_texts w (codes "-") other (sym e))
alg_written (Some alg) w e other = ap alg_named (sym e) ∙ name_is_read_again alg

-- a field that isn't a hyphen is that of an algorithm
pub is_of_alg : (alg : Option Alg) (w : List ℕ) → alg_field alg ≡ w → bytes_eq w (codes "-") ≡ false → alg ≢ None
is_of_alg alg w e other none = other_texts w (codes "-") other (sym e ∙ ap alg_field none)
