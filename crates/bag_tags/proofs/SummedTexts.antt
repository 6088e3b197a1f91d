-- Summing files one after another.
use Rattle.std.proofs.Common.{◌≡◌, ◌<◌, ◌+◌, ◌++◌, ◌∷◌, ℕ, List, [], arith, get_or, length, take}
use Rattle.bag_text.specs.declared.alg.Alg.{Alg}
use Rattle.bag_tree.proofs.OneMore.{take_one_more}
use Rattle.bag_tags.specs.Summed.{AreSummed, File, HasItsSums}
use Rattle.bag_tags.specs.declared.summed.SummedFile.{SummedFile}

pub summed_more : (algs : List Alg) (files : List File) (summed : List SummedFile) (e : File) (one : SummedFile)
    → AreSummed algs files summed → HasItsSums algs e one
    → AreSummed algs (files ++ e ∷ []) (summed ++ one ∷ [])
summed_more algs [] [] e one h s = (s, tt)
summed_more algs (x ∷ files) (y ∷ summed) e one h s = (h.0, summed_more algs files summed e one h.1 s)
summed_more algs _ _ e one h s = absurd h

-- the digests of the first of these files
pub sums_more : (algs : List Alg) (files : List File) (i : ℕ) (e : File) (summed : List SummedFile) (one : SummedFile)
    → i < length files → e ≡ get_or files i e
    → AreSummed algs (take i files) summed → HasItsSums algs e one
    → AreSummed algs (take (i + 1) files) (summed ++ one ∷ [])
sums_more algs files i e summed one lt is h s =
    grind (arith, take_one_more files i e lt is, summed_more algs (take i files) summed e one h s)
