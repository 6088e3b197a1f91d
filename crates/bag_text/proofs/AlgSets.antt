-- Sets of algorithms.
use Rattle.bag_text.proofs.Common.{Bool, IsTrue, List, [], ap, append-nil, arith, cond, false, filter, get_or, inl, inr}
use Rattle.bag_text.proofs.Common.{length, map, not, refl, rules, set, subst, sym, take, true, ℕ, ◌++◌, ◌+◌, ◌-◌, ◌<◌}
use Rattle.bag_text.proofs.Common.{◌||◌, ◌↔◌, ◌∙◌, ◌∷◌, ◌≡◌, ◌⊎◌, or_cases, or_right, nat_tests, get_or-set_at}
use Rattle.bag_text.proofs.Common.{get_or-set_other, filter_more, list_any_at, list_any, Contains, EachIsListed}
use Rattle.bag_text.proofs.Common.{ListAscends, NameIsReadAgain, NamesTellApart, algs, rank, has_member, same_alg}
use Rattle.bag_text.proofs.Common.{with_member, IsTable, flag_of, members, flags_are, has_each, has_member-filter}
use Rattle.bag_text.proofs.Common.{same_alg_same}
use Rattle.std.specs.Bool.{beq}
use Rattle.std.specs.List.Sorted.{IsStrictlySortedBy}
use Rattle.std.proofs.lemmas.Map.Views.{Contains-from_any}
use Rattle.bag_text.specs.declared.alg.Alg.{Alg}
use Rattle.bag_text.specs.declared.alg.Alg.TheVariants.{Md5}
use Rattle.bag_text.specs.declared.alg_set.AlgSet.TheInside.{Inside}

pub same_alg_self : (a : Alg) → same_alg a a ≡ true
same_alg_self a = grind (arith, nat_tests)

-- the test of a list finds its members alone
pub Contains-from_has_member : (set : List Alg) (alg : Alg) → has_member set alg ≡ true → Contains set alg
Contains-from_has_member set alg e = Contains-from_any {eq = same_alg} same_alg_same alg set e

pub has_member-from_Contains : (set : List Alg) (alg : Alg) → Contains set alg → has_member set alg ≡ true
has_member-from_Contains set alg (k, l, e) = list_any_at (same_alg alg) set k alg l
    (ap (same_alg alg) e ∙ same_alg_self alg)

-- a set that a test makes
pub Contains-filter : (p : Alg → Bool) (alg : Alg) → Contains (filter p algs) alg ↔ IsTrue (p alg)
Contains-filter p alg = (
  (λ h. sym (has_member-filter p alg) ∙ has_member-from_Contains (filter p algs) alg h),
  (λ h. Contains-from_has_member (filter p algs) alg (has_member-filter p alg ∙ h)),
)

-- one more member of a set that a test makes
pub with_member-filter : (p : Alg → Bool) (alg : Alg)
    → with_member (filter p algs) alg ≡ filter (λ a. same_alg a alg || p a) algs
with_member-filter p alg = λ i. filter (λ a. same_alg a alg || has_member-filter p a i) algs

pub rank_within : (alg : Alg) → rank alg - 1 < length algs
rank_within Md5 = omega arith
rank_within _ = omega arith

-- one more flag
flag_more : (s : Inside) (alg a : Alg) → IsTable s
    → flag_of (record { flags = set s.flags (rank alg - 1) true }) a ≡ (same_alg a alg || flag_of s a)
flag_more s alg a long = grind (arith, nat_tests, get_or-set_at, rank_within, get_or-set_other)

-- one more flag is one more member
pub members_more : (s : Inside) (alg : Alg) → IsTable s
    → members (record { flags = set s.flags (rank alg - 1) true }) ≡ with_member (members s) alg
members_more s alg long = (λ i. filter (λ a. flag_more s alg a long i) algs) ∙ sym (with_member-filter (flag_of s) alg)

-- the members of a set with one more
pub Contains-with_member : (p : Alg → Bool) (alg a : Alg)
    → Contains (with_member (filter p algs) alg) a ↔ (Contains (filter p algs) a ⊎ (a ≡ alg))
Contains-with_member p alg a =
    let here = Contains-filter (λ x. same_alg x alg || has_member (filter p algs) x) a in (
      (λ h. elim (or_cases (same_alg a alg) (has_member (filter p algs) a) (here.0 h))
          [ inl same ↦ inr (same_alg_same a alg same) | inr old ↦ inl (Contains-from_has_member _ a old) ]),
      (λ h. here.1 (elim h [
        | inl old ↦ or_right (same_alg a alg) _ (has_member-from_Contains _ a old)
        | inr same ↦ ap (λ b. b || has_member (filter p algs) a)
            (ap (λ x. same_alg x alg) same ∙ same_alg_self alg)
      ])),
    )

any_map : (p : Alg → Bool) (xs : List Alg) → list_any (λ b. beq b true) (map p xs) ≡ list_any p xs
any_map p [] = refl
any_map p (x ∷ xs) = grind (arith, any_map p xs)

no_member : (p : Alg → Bool) (xs : List Alg) → IsTrue (not (list_any p xs)) ↔ (filter p xs ≡ [])
no_member p [] = (λ _. refl, λ _. refl)
no_member p (x ∷ xs) = grind (arith, no_member p xs)

-- no flag is set where there is no member
pub no_flag : (s : Inside) → IsTable s → IsTrue (not (list_any (λ b. beq b true) s.flags)) ↔ (members s ≡ [])
no_flag s long =
    subst (λ b. IsTrue (not b) ↔ (members s ≡ []))
    (sym (any_map (flag_of s) algs) ∙ ap (list_any (λ b. beq b true)) (flags_are s long)) (no_member (flag_of s) algs)

-- each algorithm is listed
pub each_is_listed : EachIsListed
each_is_listed alg = Contains-from_has_member algs alg (has_each alg)

pub list_ascends : ListAscends
unfolding IsStrictlySortedBy
list_ascends = search rules

pub name_is_read_again : NameIsReadAgain
name_is_read_again Md5 = refl
name_is_read_again _ = refl

pub names_tell_apart : NamesTellApart
names_tell_apart a b e = cc (name_is_read_again a, name_is_read_again b)

-- the members among the first algorithms, and among one more
module _ (set : List Alg) (p : Alg → Bool) (i : ℕ) (some : List Alg) (is : filter p algs ≡ set) (lt : i < length algs)
    (so_far : some ≡ filter (has_member set) (take i algs)) where
  kept : (b : Bool) → p (get_or algs i Md5) ≡ b
      → filter (has_member set) (take (i + 1) algs) ≡ some ++ cond b (get_or algs i Md5 ∷ []) []
  kept b e =
      let test : has_member set (get_or algs i Md5) ≡ b =
      ap (λ s. has_member s (get_or algs i Md5)) (sym is) ∙ has_member-filter p (get_or algs i Md5) ∙ e in
      filter_more (has_member set) algs i Md5 lt ∙ rw (test, so_far) refl

  pub member_more : p (get_or algs i Md5) ≡ true
      → some ++ get_or algs i Md5 ∷ [] ≡ filter (has_member set) (take (i + 1) algs)
  member_more e = sym (kept true e)

  pub no_member_more : p (get_or algs i Md5) ≡ false → some ≡ filter (has_member set) (take (i + 1) algs)
  no_member_more e = sym (kept false e ∙ append-nil some)
