-- Paths that are read byte by byte.
use Rattle.bag_text.proofs.Common.{Bool, IsTrue, List, [], ap, append-nil, append_assoc, arith, cond, drop, eqb, false}
use Rattle.bag_text.proofs.Common.{get_or, length, not, refl, suc, true, ℕ, ◌&&◌, ◌++◌, ◌+◌, ◌<◌, ◌||◌, ◌∙◌, ◌∷◌, ◌≡◌}
use Rattle.bag_text.proofs.Common.{drop_all, subst, sym, ◌-◌, ◌≤◌}
use Rattle.bag_text.proofs.Common.{drop-cons, list_all, components, is_component, is_path, slash, PathPart, Empty, Name}
use Rattle.bag_text.specs.PathPart.{part_of, with_byte, is_name}
use Rattle.bag_text.proofs.Paths.{is_slash, some_component}

part_more : (p : List ℕ) (c : ℕ) → part_of (p ++ c ∷ []) ≡ with_byte (part_of p) c
part_more (x ∷ y ∷ z ∷ rest) c = refl
part_more p c = grind arith

more_bytes : (b d : Bool) → (not (b && false) && not (b && (d && false))) ≡ true
more_bytes b d = grind arith

name_test : (p : List ℕ) → is_component p ≡ is_name (part_of p)
name_test (x ∷ y ∷ z ∷ rest) = more_bytes (eqb x 46) (eqb y 46)
name_test p = grind arith

-- the components of a text after the front of its first one
abbrev behind : List ℕ → List (List ℕ) → List (List ℕ)
behind p [] = p ∷ []
behind p (part ∷ parts) = (p ++ part) ∷ parts

abbrev are_good : List ℕ → List ℕ → Bool
are_good p t = list_all is_component (behind p (components t))

good_start : (t : List ℕ) → is_path t ≡ are_good [] t
good_start t = grind (arith, some_component)

good_byte : (p : List ℕ) (c : ℕ) (t : List ℕ) → is_slash c ≡ false → are_good p (c ∷ t) ≡ are_good (p ++ c ∷ []) t
good_byte p c t e = grind (arith, append_assoc)

-- the components before place k are good, and the one that begins there is this so far
abbrev pub IsReadTo : PathPart → List ℕ → ℕ → Type 0
IsReadTo part t k = (p : List ℕ) × (part ≡ part_of p) × (is_path t ≡ are_good p (drop k t))

pub read_start : (t : List ℕ) → IsReadTo Empty t 0
read_start t = ([], refl, good_start t)

at : (t : List ℕ) (k : ℕ) → k < length t → drop k t ≡ get_or t k 0 ∷ drop (k + 1) t
at t k h = let step : suc k ≡ k + 1 = omega arith in drop-cons t k 0 h ∙ ap (λ j. get_or t k 0 ∷ drop j t) step

pub read_byte : (part : PathPart) (t : List ℕ) (k : ℕ) → k < length t → is_slash (get_or t k 0) ≡ false
    → IsReadTo part t k → IsReadTo (with_byte part (get_or t k 0)) t (k + 1)
read_byte part t k h other (p, is, good) = grind (arith, part_more, at, good_byte)

pub read_slash : (part : PathPart) (t : List ℕ) (k : ℕ) → k < length t → is_slash (get_or t k 0) ≡ true
    → is_name part ≡ true → IsReadTo part t k → IsReadTo Empty t (k + 1)
read_slash part t k h slash name read = grind (arith, at, append-nil, name_test, good_start)

-- of components that don't begin with a dot, what is read where one begins or after its first byte
plain_byte : (begins is_end is_dot : Bool) (t : List ℕ) (k : ℕ) → k < length t → is_slash (get_or t k 0) ≡ is_end
    → eqb (get_or t k 0) 46 ≡ is_dot
    → IsReadTo (cond begins Empty Name) t k → IsTrue (not (begins && (is_end || is_dot)))
    → IsReadTo (cond is_end Empty Name) t (k + 1)
plain_byte true false false t k h slash dot read w = grind (arith, read_byte Empty t k h slash read)
plain_byte true is_end is_dot t k h slash dot read w = cc
plain_byte false true is_dot t k h slash dot read w = read_slash Name t k h slash refl read
plain_byte false false is_dot t k h slash dot read w = read_byte Name t k h slash read

pub plain_more : (plain begins : Bool) (t : List ℕ) (k : ℕ) → k < length t
    → (IsTrue plain → IsReadTo (cond begins Empty Name) t k)
    → IsTrue (plain && not (begins && (is_slash (get_or t k 0) || eqb (get_or t k 0) 46)))
    → IsReadTo (cond (is_slash (get_or t k 0)) Empty Name) t (k + 1)
plain_more true begins t k h read w =
    plain_byte begins (is_slash (get_or t k 0)) (eqb (get_or t k 0) 46) t k h refl refl (read refl) w
plain_more false begins t k h read w = cc

-- what is read up to a place, after the byte before it
abbrev pub IsReadBehind : List ℕ → ℕ → Type 0
IsReadBehind t k = IsReadTo (cond (is_slash (get_or t k 0)) Empty Name) t (k + 1)

pub plain_first : (t : List ℕ) → 0 < length t → (k : ℕ) → 1 ≡ k + 1
    → IsTrue (not (is_slash (get_or t 0 0) || eqb (get_or t 0 0) 46)) → IsReadBehind t k
plain_first t some k is w =
    let here : 0 ≡ k = omega arith in
    subst (λ j. IsReadBehind t j) here (plain_more true true t 0 some (λ _. read_start t) w)

pub plain_next : (plain : Bool) (t : List ℕ) (place : ℕ) → 1 ≤ place → place < length t
    → ((k : ℕ) → place ≡ k + 1 → IsTrue plain → IsReadBehind t k)
    → (k : ℕ) → place + 1 ≡ k + 1
    → IsTrue (plain && not (is_slash (get_or t (place - 1) 0)
    && (is_slash (get_or t place 0) || eqb (get_or t place 0) 46)))
    → IsReadBehind t k
plain_next plain t place some within read k is w =
    let here : place ≡ k = omega arith in
    let before : place ≡ (place - 1) + 1 = omega arith in
    let begins = is_slash (get_or t (place - 1) 0) in
    subst (λ j. IsReadBehind t j) here
    (plain_more plain begins t place within
    (λ p. subst (λ j. IsReadTo (cond begins Empty Name) t j) (sym before) (read (place - 1) before p)) w)

read_end : (t : List ℕ) (k : ℕ) → length t ≤ k → IsReadTo Name t k → is_path t ≡ true
read_end t k all (p, is, good) = grind (arith, append-nil, name_test, drop_all)

end_case : (plain is_end : Bool) (t : List ℕ) (k : ℕ) → length t ≤ k
    → (IsTrue plain → IsReadTo (cond is_end Empty Name) t k) → IsTrue (plain && not is_end) → is_path t ≡ true
end_case true false t k all read w = read_end t k all (read refl)
end_case true true t k all read w = cc
end_case false is_end t k all read w = cc

pub plain_end : (plain : Bool) (t : List ℕ) (place : ℕ) → 1 ≤ place → length t ≤ place → place ≤ length t
    → ((k : ℕ) → place ≡ k + 1 → IsTrue plain → IsReadBehind t k)
    → IsTrue (plain && not (is_slash (get_or t (length t - 1) 0))) → is_path t ≡ true
plain_end plain t place some all within read w =
    let last : place ≡ (length t - 1) + 1 = omega arith in
    end_case plain (is_slash (get_or t (length t - 1) 0)) t ((length t - 1) + 1) (omega arith)
    (read (length t - 1) last) w
