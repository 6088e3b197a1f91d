-- Sets of algorithms that are made one algorithm after another, of those that pass a test.
use Rattle.bag_renewed.proofs.Common.{Bool, true, false, not, IsTrue, List, [], ◌∷◌, ◌++◌, ◌&&◌, ◌||◌, ◌≡◌, ◌<◌, ◌≤◌}
use Rattle.bag_renewed.proofs.Common.{◌+◌, ◌∙◌, ℕ, cond, length, take, get_or, refl, sym, ap, arith, Contains, filter}
use Rattle.bag_renewed.proofs.Common.{list_any, algs, has_member, Alg, Bag, Renewal, has_payload_manifest, is_new_alg}
use Rattle.bag_renewed.proofs.Common.{keeps}
use Rattle.bag_renewed.specs.Target.{written_algs}
use Rattle.bag_renewed.specs.Renewed.{algs_where, is_kept_alg, new_algs, writes_payload_manifest}
use Rattle.bag_renewed.specs.Target.{has_some}
use Rattle.std.proofs.Common.{◌↔◌}
use Rattle.std.proofs.lemmas.List.{get_or_default, take_all}
use Rattle.std.proofs.lemmas.List.Folds.{list_any-append}
use Rattle.bag_text.specs.AlgList.{same_alg, with_member}
use Rattle.bag_text.specs.AlgTable.{has_each, has_member-filter, same_alg_same}
use Rattle.bag_text.proofs.AlgSets.{Contains-from_has_member, has_member-from_Contains, with_member-filter}
use Rattle.bag_text.specs.declared.alg.Alg.TheVariants.{Md5}
use Rattle.bag_facts.proofs.ListedPaths.{same_truth}
use Rattle.bag_facts.proofs.Mapped.{take_one_more}

-- the test of a set finds its members
pub is_member : (r : Bool) (set : List Alg) (alg : Alg) → (IsTrue r ↔ Contains set alg) → r ≡ has_member set alg
is_member r set alg h =
    same_truth r (has_member set alg) (λ is. has_member-from_Contains set alg (h.0 is))
    (λ is. h.1 (Contains-from_has_member set alg is))

pub is_next : (i : ℕ) → i < length algs → get_or algs i Md5 ≡ get_or algs i (get_or algs i Md5)
is_next i lt = sym (get_or_default algs i (get_or algs i Md5) Md5 lt)

pub has_member_where : (p : Alg → Bool) (alg : Alg) → has_member (algs_where p) alg ≡ p alg
unfolding algs_where
has_member_where p alg = has_member-filter p alg

pub same_where : (p q : Alg → Bool) → ((alg : Alg) → p alg ≡ q alg) → algs_where p ≡ algs_where q
same_where p q same = λ i. algs_where (λ alg. same alg i)

pub none_where : (p : Alg → Bool) → ((alg : Alg) → p alg ≡ false) → [] ≡ algs_where p
unfolding algs_where
none_where p none = sym (λ i. filter (λ alg. none alg i) algs)

with_where : (p : Alg → Bool) (alg : Alg) → with_member (algs_where p) alg ≡ algs_where (λ a. same_alg a alg || p a)
unfolding algs_where
with_where p alg = with_member-filter p alg

any_filter : (p q : Alg → Bool) (xs : List Alg) → list_any q (filter p xs) ≡ list_any (λ alg. p alg && q alg) xs
any_filter p q [] = refl
any_filter p q (x ∷ xs) = grind (arith, any_filter p q xs)

pub any_where : (p q : Alg → Bool) → list_any q (algs_where p) ≡ list_any (λ alg. p alg && q alg) algs
unfolding algs_where
any_where p q = any_filter p q algs

-- a set that isn't empty has a member
pub has_some_by : (set : List Alg) (b : Bool) → (IsTrue b ↔ (set ≡ [])) → not b ≡ has_some set
has_some_by [] true h = refl
has_some_by [] false h = sym (h.1 refl)
has_some_by (alg ∷ more) true h = let clash : alg ∷ more ≡ [] = h.0 refl in cc
has_some_by (alg ∷ more) false h = refl

some_by : (b : Bool) (alg : Alg) (passing : List Alg) (r : Bool) → has_some passing ≡ r
    → has_some (cond b (alg ∷ passing) passing) ≡ (b || r)
some_by true alg passing r is = refl
some_by false alg passing r is = is

some_filter : (p : Alg → Bool) (xs : List Alg) → has_some (filter p xs) ≡ list_any p xs
some_filter p [] = refl
some_filter p (x ∷ xs) = some_by (p x) x (filter p xs) (list_any p xs) (some_filter p xs)

pub some_where : (p : Alg → Bool) → has_some (algs_where p) ≡ list_any p algs
unfolding algs_where
some_where p = some_filter p algs

module _ (p : Alg → Bool) where
  -- those of these that pass
  abbrev pub passing : List Alg → Alg → Bool
  passing some alg = p alg && has_member some alg

  pub none_yet : [] ≡ algs_where (passing [])
  none_yet = none_where (passing []) (λ alg. grind arith)

  module _ (some : List Alg) (alg : Alg) where
    has_more : (a : Alg) → has_member (some ++ alg ∷ []) a ≡ (has_member some a || same_alg a alg)
    has_more a = grind (arith, list_any-append (same_alg a) some (alg ∷ []))

    more_by : (b : Bool) (a : Alg) → same_alg a alg ≡ b → p alg ≡ true
        → (b || passing some a) ≡ (p a && (has_member some a || b))
    more_by true a same passes = grind (arith, ap p (same_alg_same a alg same))
    more_by false a other passes = grind arith

    one_passes : p alg ≡ true → (a : Alg) → (same_alg a alg || passing some a) ≡ passing (some ++ alg ∷ []) a
    one_passes passes a =
        more_by (same_alg a alg) a refl passes ∙ ap (λ b. p a && b) (sym (has_more a))

    other_by : (b : Bool) (a : Alg) → same_alg a alg ≡ b → p alg ≡ false
        → passing some a ≡ (p a && (has_member some a || b))
    other_by true a same fails = grind (arith, ap p (same_alg_same a alg same))
    other_by false a other fails = grind arith

    one_fails : p alg ≡ false → (a : Alg) → passing some a ≡ passing (some ++ alg ∷ []) a
    one_fails fails a = other_by (same_alg a alg) a refl fails ∙ ap (λ b. p a && b) (sym (has_more a))

  module _ (i : ℕ) (alg : Alg) (lt : i < length algs) (is : alg ≡ get_or algs i alg) (set : List Alg)
      (so_far : set ≡ algs_where (passing (take i algs))) where
    next : take (i + 1) algs ≡ take i algs ++ alg ∷ []
    next = take_one_more algs i alg lt is

    -- one more passes
    pub one_more : (more : List Alg) → p alg ≡ true → more ≡ with_member set alg
        → more ≡ algs_where (passing (take (i + 1) algs))
    one_more more passes with_it =
        with_it ∙ ap (λ s. with_member s alg) so_far ∙ with_where (passing (take i algs)) alg
        ∙ same_where _ _ (one_passes (take i algs) alg passes)
        ∙ ap (λ some. algs_where (passing some)) (sym next)

    -- or it doesn't
    pub no_more : p alg ≡ false → set ≡ algs_where (passing (take (i + 1) algs))
    no_more fails =
        so_far ∙ same_where _ _ (one_fails (take i algs) alg fails)
        ∙ ap (λ some. algs_where (passing some)) (sym next)

  -- all of them
  pub all_passing : (i : ℕ) (set : List Alg) → length algs ≤ i → set ≡ algs_where (passing (take i algs))
      → set ≡ algs_where p
  all_passing i set le so_far =
      so_far ∙ ap (λ some. algs_where (passing some)) (take_all i algs le)
      ∙ same_where (passing algs) p (λ alg. grind (arith, has_each alg))

module _ (bag : Bag) (renewal : Renewal) where
  -- what is kept, where the bag keeps what needs no change
  kept_by : (had added dropped k : Bool) → k ≡ true
      → (((had || added) && not dropped) && (k && had)) ≡ (had && not dropped)
  kept_by true added dropped k is = grind arith
  kept_by false added dropped k is = grind arith

  pub kept_is : keeps bag renewal ≡ true → (alg : Alg)
      → is_kept_alg bag renewal alg ≡ (has_payload_manifest bag alg && not (has_member renewal.dropped alg))
  kept_is is alg =
      kept_by (has_payload_manifest bag alg) (has_member renewal.added alg) (has_member renewal.dropped alg) (keeps bag renewal)
      is

  -- a payload manifest is written where some new algorithm isn't kept
  pub writes_some : has_some (written_algs bag renewal) ≡ writes_payload_manifest bag renewal
  writes_some =
      some_where (λ alg. has_member (new_algs bag renewal) alg && not (has_member (algs_where (is_kept_alg bag renewal)) alg))
      ∙ (λ i. list_any (λ alg. has_member_where (is_new_alg bag renewal) alg i
      && not (has_member_where (is_kept_alg bag renewal) alg i)) algs)
      ∙ sym (any_where (is_new_alg bag renewal) (λ alg. not (is_kept_alg bag renewal alg)))
