-- Files with their digests: one more, some more, and those that pass a test.
use Rattle.bag_changes.proofs.Common.{◌≡◌, ◌++◌, ◌∷◌, ℕ, Bool, true, false, cond, List, []}
use Rattle.bag_changes.proofs.Common.{filter, refl, sym, ap, subst, ◌∙◌, false≢true, Alg, File}
use Rattle.bag_tags.specs.Summed as exact
use Rattle.bag_changes.specs.Composing.{of_path}
use Rattle.bag_checked.specs.Summed.{AreSummedBy, HasSumsBy}
use Rattle.bag_tags.specs.declared.summed.SummedFile.{SummedFile}

-- those that pass a test, of those that pass a wider one
module _ {A : Type 0} (narrow wide : A → Bool) (within : (x : A) → narrow x ≡ true → wide x ≡ true) where
  within_by : (b c : Bool) (x : A) (some xs : List A) → wide x ≡ b → narrow x ≡ c
      → filter narrow some ≡ filter narrow xs
      → filter narrow (cond b (x ∷ some) some) ≡ cond (narrow x) (x ∷ filter narrow xs) (filter narrow xs)
  within_by true c x some xs is passes rest = ap (λ ys. cond (narrow x) (x ∷ ys) ys) rest
  within_by false true x some xs is passes rest = absurd (false≢true (sym is ∙ within x passes))
  within_by false false x some xs is passes rest =
      rest ∙ sym (ap (λ b. cond b (x ∷ filter narrow xs) (filter narrow xs)) passes)

  pub filter_within : (xs : List A) → filter narrow (filter wide xs) ≡ filter narrow xs
  filter_within [] = refl
  filter_within (x ∷ xs) = within_by (wide x) (narrow x) x (filter wide xs) xs refl refl (filter_within xs)

module _ (algs : List Alg) where
  pub some_more : (files more : List File) (summed others : List SummedFile) → AreSummedBy algs files summed
      → AreSummedBy algs more others → AreSummedBy algs (files ++ more) (summed ++ others)
  some_more [] more [] others h k = k
  some_more [] more (y ∷ summed) others h k = absurd h
  some_more (x ∷ files) more [] others h k = absurd h
  some_more (x ∷ files) more (y ∷ summed) others h k = (h.0, some_more files more summed others h.1 k)

  filter_by : (test : List ℕ → Bool) (b : Bool) (e : File) (one : SummedFile) (files : List File)
      (summed : List SummedFile) → test one.path ≡ b → HasSumsBy algs e one → AreSummedBy algs files summed
      → AreSummedBy algs (cond (test e.0) (e ∷ files) files) (cond (test one.path) (one ∷ summed) summed)
  filter_by test b e one files summed is h rest =
      subst (λ t. AreSummedBy algs (cond t (e ∷ files) files) (cond (test one.path) (one ∷ summed) summed))
      (ap test h.path)
      (elim (test one.path) as (λ t. AreSummedBy algs (cond t (e ∷ files) files) (cond t (one ∷ summed) summed))
      [ true ↦ (h, rest) | false ↦ rest ])

  -- those whose paths pass a test
  pub passing_summed : (test : List ℕ → Bool) (files : List File) (summed : List SummedFile)
      → AreSummedBy algs files summed
      → AreSummedBy algs (filter (λ e. test e.0) files) (filter (of_path test) summed)
  passing_summed test [] [] h = tt
  passing_summed test [] (y ∷ summed) h = absurd h
  passing_summed test (x ∷ files) [] h = absurd h
  passing_summed test (x ∷ files) (y ∷ summed) h =
      filter_by test (test y.path) x y _ _ refl h.0 (passing_summed test files summed h.1)

  -- those whose digests by these algorithms are known, and no others, are among them
  pub summed_so : (files : List File) (summed : List SummedFile) → exact.AreSummed algs files summed
      → AreSummedBy algs files summed
  summed_so [] [] h = tt
  summed_so [] (y ∷ summed) h = absurd h
  summed_so (x ∷ files) [] h = absurd h
  summed_so (x ∷ files) (y ∷ summed) h =
      (record { path = h.0.0; sums = h.0.1.each }, summed_so files summed h.1)
