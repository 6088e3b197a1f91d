use Rattle.bag_text.proofs.Common.{Bool, List, [], arith, cond, false, length, refl, subst, suc, take, true, ℕ, ◌+◌}
use Rattle.bag_text.proofs.Common.{◌==◌, ◌∷◌, ◌≡◌, ◌≢◌, ◌≤◌, eqb-false, eqb-true, common_prefix_len}
use Rattle.bag_text.proofs.Common.{CommonFrontIsTheLongest, IsFront, IsLongestFront, common_front}
use Rattle.bag_text.proofs.laws.common_front_is_the_longest.Goals as goal

-- The longest front of two texts.

fronts_of_none : (other : List ℕ) → IsFront other [] → length other ≤ 0
fronts_of_none [] h = omega arith
fronts_of_none (c ∷ other) (rest, e) = cc

fronts_of_unlike : (x y : ℕ) (xs ys : List ℕ) → x ≢ y → (other : List ℕ) → IsFront other (x ∷ xs)
    → IsFront other (y ∷ ys) → length other ≤ 0
fronts_of_unlike x y xs ys h [] f g = omega arith
fronts_of_unlike x y xs ys h (c ∷ other) (r, e) (s, i) = grind arith

fronts_of_more : (x y : ℕ) (front xs ys : List ℕ)
    → ((other : List ℕ) → IsFront other xs → IsFront other ys → length other ≤ length front)
    → (other : List ℕ) → IsFront other (x ∷ xs) → IsFront other (y ∷ ys) → length other ≤ length (x ∷ front)
fronts_of_more x y front xs ys h [] f g = omega arith
fronts_of_more x y front xs ys h (c ∷ other) (r, e) (s, i) = grind arith

longest_more : (x y : ℕ) (front xs ys : List ℕ) → x ≡ y → IsLongestFront front xs ys
    → IsLongestFront (x ∷ front) (x ∷ xs) (y ∷ ys)
longest_more x y front xs ys same ((r, e), (s, i), h) = grind (arith, fronts_of_more x y front xs ys h)

longest_on : (x y : ℕ) (xs ys : List ℕ) (b : Bool) → (x == y) ≡ b → IsLongestFront (common_front xs ys) xs ys
    → IsLongestFront (take (cond b (1 + common_prefix_len (λ a b. a == b) xs ys) 0) (x ∷ xs)) (x ∷ xs) (y ∷ ys)
longest_on x y xs ys true e h =
    let on : suc (common_prefix_len (λ a b. a == b) xs ys) ≡ 1 + common_prefix_len (λ a b. a == b) xs ys =
    omega arith in
    subst (λ n. IsLongestFront (take n (x ∷ xs)) (x ∷ xs) (y ∷ ys)) on
    (longest_more x y (common_front xs ys) xs ys (eqb-true x y e) h)
longest_on x y xs ys false e h = ((x ∷ xs, refl), (y ∷ ys, refl), fronts_of_unlike x y xs ys (eqb-false x y e))

the_longest : CommonFrontIsTheLongest
the_longest [] second = (([], refl), (second, refl), λ other f g. fronts_of_none other f)
the_longest (x ∷ xs) [] = ((x ∷ xs, refl), ([], refl), λ other f g. fronts_of_none other g)
the_longest (x ∷ xs) (y ∷ ys) = longest_on x y xs ys (x == y) refl (the_longest xs ys)

pub returns : goal.returns
returns c = the_longest
