-- Why the flags of a set and the list of its members give each other back.
use Rattle.std.proofs.Common.{◌≡◌, ◌+◌, ◌-◌, ℕ, suc, Bool, true, false, ◌&&◌, ◌==◌, List, [], ◌∷◌}
use Rattle.std.proofs.Common.{length, drop, filter, map, refl, sym, ap, ◌∙◌, arith, Some, get_or}
use Rattle.std.specs.List.{slice_get}
use Rattle.std.proofs.lemmas.Bool.{and_parts}
use Rattle.std.proofs.lemmas.Bool.Decides.{nat_tests}
use Rattle.std.proofs.lemmas.List.{drop_all}
use Rattle.std.proofs.lemmas.Map.Views.{any-filter_same}
use Rattle.std.proofs.Math.Seq.{drop-cons}
use Rattle.bag_text.specs.declared.alg.Alg.{Alg}
use Rattle.bag_text.specs.declared.alg.Alg.TheVariants.{Md5}
use Rattle.bag_text.specs.declared.alg_set.AlgSet.TheInside.{Inside}
use Rattle.bag_text.specs.Alg.{algs, rank}
use Rattle.bag_text.specs.AlgList.{same_alg, has_member}
use Rattle.bag_text.specs.AlgSet.{IsTable, flag_of, members, table}

-- each algorithm stands in the list at its rank
pub at_rank : (alg : Alg) → slice_get algs (rank alg - 1) ≡ Some alg
at_rank Md5 = refl
at_rank _ = refl

-- ranks tell algorithms apart
pub same_rank : (a b : Alg) → rank a ≡ rank b → a ≡ b
same_rank a b e = cc (at_rank a, at_rank b)

pub same_alg_same : (a b : Alg) → same_alg a b ≡ true → a ≡ b
same_alg_same a b e = same_rank a b (grind (arith, nat_tests))

pub has_each : (alg : Alg) → has_member algs alg ≡ true
has_each Md5 = refl
has_each _ = refl

and_true : (b c : Bool) → c ≡ true → (b && c) ≡ b
and_true true c e = e
and_true false c e = refl

-- the algorithms that pass a test are those that pass it
pub has_member-filter : (p : Alg → Bool) (alg : Alg) → has_member (filter p algs) alg ≡ p alg
has_member-filter p alg = any-filter_same (same_alg alg) p (p alg)
    (λ other same. ap p (sym (same_alg_same alg other same))) algs
    ∙ and_true (p alg) _ (has_each alg)

-- these algorithms have the ranks that follow k
abbrev ascends : ℕ → List Alg → Bool
ascends k [] = true
ascends k (x ∷ xs) = (rank x == suc k) && ascends (suc k) xs

-- the flags of the algorithms from one place on are the flags from there on
flags_from : (flags : List Bool) (xs : List Alg) (k : ℕ) → ascends k xs ≡ true
    → length flags ≡ k + length xs
    → map (λ alg. get_or flags (rank alg - 1) false) xs ≡ drop k flags
flags_from flags [] k up long = sym (drop_all k flags (omega arith))
flags_from flags (x ∷ xs) k up long =
    let both = and_parts (rank x == suc k) (ascends (suc k) xs) up in
    let here : rank x - 1 ≡ k = grind (arith, nat_tests, both.0) in
    rw (flags_from flags xs (suc k) both.1 (omega arith), here)
    (sym (drop-cons flags k false (omega arith)))

pub flags_are : (set : Inside) → IsTable set → map (flag_of set) algs ≡ set.flags
flags_are set long = flags_from set.flags algs 0 refl long

-- the flags are those of the members
pub table_of_members : (set : Inside) → IsTable set → table (members set) ≡ set
table_of_members set long i = record {
  flags = ((λ j. map (λ alg. has_member-filter (flag_of set) alg j) algs) ∙ flags_are set long) i;
}
