-- What is read of the matches.
use Rattle.std.proofs.lemmas.Grind.{common_steps}
use Rattle.bag_arguments.proofs.Common.{arith, ◌≡◌, ◌≢◌, ◌∙◌, ◌<◌, ◌+◌, ℕ, Bool, true, false, List, [], ◌∷◌, ◌++◌, ◌&&◌}
use Rattle.bag_arguments.proofs.Common.{◌||◌, Option, refl, sym, ap, filter, fold, take, length, if◌then◌else◌, filter_map}
use Rattle.bag_arguments.proofs.Common.{slice_index_or, take_more, filter_map-append, algs, Alg, option_to_list, or_default}
use Rattle.bag_text.specs.AlgList.{has_member, same_alg, with_member}
use Rattle.bag_text.specs.AlgTable.{has_each, has_member-filter, same_alg_same}

-- one item more
pub filter_map_more : {X Y : Type 0} (h : X → Option Y) (xs : List X) (i : ℕ) (d : X) → i < length xs
    → filter_map h (take (i + 1) xs) ≡ filter_map h (take i xs) ++ option_to_list (h (slice_index_or xs i d))
filter_map_more h xs i d below = grind (arith, common_steps, take_more, filter_map-append)

-- one algorithm more, where a test holds of it
abbrev pub with_if : (Alg → Bool) → List Alg → Alg → List Alg
with_if p set alg = if p alg then with_member set alg else set

module _ (p q : Alg → Bool) (alg : Alg) where
  taken_at : p alg ≡ true → (a : Alg) (same : Bool) → same_alg a alg ≡ same
      → (same || has_member (filter q algs) a) ≡ ((same && p a) || q a)
  taken_at is a true e = sym (ap (λ b. b || q a) (ap p (same_alg_same a alg e) ∙ is))
  taken_at is a false e = has_member-filter q a

  left_at : p alg ≡ false → (a : Alg) (same : Bool) → same_alg a alg ≡ same → q a ≡ ((same && p a) || q a)
  left_at is a true e = sym (ap (λ b. b || q a) (ap p (same_alg_same a alg e) ∙ is))
  left_at is a false e = refl

  one_more : (here : Bool) → p alg ≡ here
      → (if here then with_member (filter q algs) alg else filter q algs)
      ≡ filter (λ a. (same_alg a alg && p a) || q a) algs
  one_more here is = grind (arith, taken_at, left_at)

regrouped : (same later b c : Bool) → ((later && b) || ((same && b) || c)) ≡ (((same || later) && b) || c)
regrouped same later b c = grind arith

-- a set that a test makes, with those of some algorithms of which another test holds
with_if-each : (p q : Alg → Bool) (some : List Alg)
    → fold (with_if p) (filter q algs) some ≡ filter (λ a. (has_member some a && p a) || q a) algs
with_if-each p q [] = refl
with_if-each p q (alg ∷ rest) =
    ap (λ set. fold (with_if p) set rest) (one_more p q alg (p alg) refl)
    ∙ with_if-each p (λ a. (same_alg a alg && p a) || q a) rest
    ∙ (λ i. filter (λ a. regrouped (same_alg a alg) (has_member rest a) (p a) (q a) i) algs)

listed_passes : (listed b : Bool) → listed ≡ true → ((listed && b) || false) ≡ b
listed_passes listed b e = grind arith

-- algorithms that are added one by one
pub named_one_by_one : (p : Alg → Bool) → fold (with_if p) [] algs ≡ filter p algs
named_one_by_one p =
    with_if-each p (λ a. false) algs ∙ (λ i. filter (λ a. listed_passes (has_member algs a) (p a) (has_each a) i) algs)

pub or_default_kept : (set : List Alg) → set ≢ [] → set ≡ or_default set
or_default_kept set some = grind arith
