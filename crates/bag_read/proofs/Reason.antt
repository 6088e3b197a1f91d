-- Steps that end with a reason why a line doesn't read.
use Rattle.bag_read.proofs.Common.{Bool, Err, List, None, Ok, Option, Result, Some, cond, false, inl, inr, refl, subst}
use Rattle.bag_read.proofs.Common.{sym, true, ℕ, ◌∙◌, ◌∷◌, ◌≡◌, both_ways, IfOk, ◌↔◌, spellings, is_path, Spells}
use Rattle.bag_read.proofs.Common.{unescaped, Code, Rules, IsFirst, Reason, decoded_or, ◌>>=◌, arith}
use Rattle.bag_read.specs.Reason.{IsReadOf}
use Rattle.bag_read.specs.declared.line_fault.Why.{Why}

pub ok_same : {A : Type 0} (x y : A) → ◌≡◌ {A = Result A Reason} (Ok x) (Ok y) → x ≡ y
ok_same x y e = cc

pub err_same : {A : Type 0} (x y : Reason) → ◌≡◌ {A = Result A Reason} (Err x) (Err y) → x ≡ y
err_same x y e = cc

pub never_ok : {A : Type 0} (x : A) (y : Reason) → ◌≡◌ {A = Result A Reason} (Ok x) (Err y) → ⊥
never_ok x y e = cc

pub clash : (b : Bool) → b ≡ true → b ≡ false → ⊥
clash b e f = both_ways b f e

-- two steps come to an end where each does
pub bind_ok : {A B : Type 0} (r : Result A Reason) (f : A → Result B Reason) (y : B) → (r >>= f) ≡ Ok y
    → (x : A) × (r ≡ Ok x) × (f x ≡ Ok y)
bind_ok r f y e = grind arith

-- a step that can't fail keeps the reason
pub bind_err : {A B : Type 0} (r : Result A Reason) (g : A → B) (why : Reason)
    → ◌≡◌ {A = Result B Reason} (r >>= λ x. Ok (g x)) (Err why) → r ≡ Err why
bind_err r g why e = grind arith

-- a spelling that spells a path
pub decoded_ok : (bad_escape : Code) (o : Option (List ℕ)) (spelling path : List ℕ)
    → decoded_or bad_escape o spelling ≡ Ok path → o ≡ Some path
decoded_ok bad_escape o spelling path e = grind arith

-- what two clauses say of one call
pub both_ok : {X Y : Type 0} (r : Result X Y) (P Q R : X → Type 0) → ((x : X) → P x → Q x → R x) → IfOk r P → IfOk r Q
    → IfOk r R
both_ok r P Q R f h k = grind (arith, f)

-- where a line has one spelling of a path: what it spells, and the first reason why it spells no path
module _ (rules : Rules) (IsSpelled : List ℕ → Type 0) (spelling : List ℕ) (is : IsSpelled spelling)
    (alone : (s : List ℕ) → IsSpelled s → spelling ≡ s) where
  abbrev pub IsWritten : List ℕ → Type 0
  IsWritten text = (s : List ℕ) × IsSpelled s × Spells rules s text

  pub is_written : (path : List ℕ) → unescaped rules spelling ≡ Some path → IsWritten path
  is_written path e = (spelling, is, (spellings rules spelling path).1 e)

  pub written_same : (path text : List ℕ) → unescaped rules spelling ≡ Some path → IsWritten text → path ≡ text
  written_same path text e (s, at, spells) = let same = alone s at in let told = (spellings rules s text).0 spells in cc

  abbrev BadEscape : List ℕ → Type 0
  BadEscape s = IsSpelled s × ((path : List ℕ) → ¬ (Spells rules s path))

  module _ {X : Type 0} (Holds : Code → List ℕ → Type 0) (escape unsafe : Code) (later : List Code)
      (F : List ℕ → Result X Reason) (reason : Reason)
      (bad : (s : List ℕ) → Holds escape s ↔ BadEscape s)
      (no_path : (t : List ℕ) → Holds unsafe t ↔ (IsWritten t × (is_path t ≡ false)))
      (stops : (path : List ℕ) → is_path path ≡ false → F path ≡ Err (unsafe, path))
      (more : (path : List ℕ) → unescaped rules spelling ≡ Some path → is_path path ≡ true → F path ≡ Err reason
      → IsFirst Holds later reason) where
    path_first : (path : List ℕ) (b : Bool) → is_path path ≡ b → unescaped rules spelling ≡ Some path
        → F path ≡ Err reason → IsFirst Holds (unsafe ∷ later) reason
    path_first path true safe e h =
        inr (
          λ t holds. let (written, other) = (no_path t).0 holds in let same = written_same path t e written
              in cc,
          more path e safe h,
        )
    path_first path false other e h =
        subst (IsFirst Holds (unsafe ∷ later)) (err_same {A = X} _ _ (sym (stops path other) ∙ h))
        (inl (refl, (no_path path).1 (is_written path e, other)))

    pub spelled_first : (o : Option (List ℕ)) → unescaped rules spelling ≡ o
        → (decoded_or escape o spelling >>= F) ≡ Err reason → IsFirst Holds (escape ∷ unsafe ∷ later) reason
    spelled_first None e h =
        subst (IsFirst Holds (escape ∷ unsafe ∷ later)) (err_same {A = X} _ _ h)
        (inl (
          refl,
          (bad spelling).1 (
            is,
            λ path spells.
                let told = (spellings rules spelling path).0 spells in cc,
          ),
        ))
    spelled_first (Some path) e h =
        inr (
          λ s holds. let (here, none) = (bad s).0 holds
              in none path ((spellings rules s path).1 (rw (alone s here) at e)),
          path_first path (is_path path) refl e h,
        )

-- the codes of the reasons that a step can end with
module _ (IsCode : Code → Type 0) where
  abbrev pub IsReasonOf : {A : Type 0} → Result A Reason → Type 0
  IsReasonOf (Ok x) = Unit {0}
  IsReasonOf (Err reason) = IsCode reason.0

  pub then_reason : {A B : Type 0} (r : Result A Reason) (f : A → Result B Reason) → IsReasonOf r
      → ((x : A) → IsReasonOf (f x)) → IsReasonOf (r >>= f)
  then_reason r f h k = grind (arith, k)

  pub chosen : {A : Type 0} (b : Bool) (r s : Result A Reason) → IsReasonOf r → IsReasonOf s → IsReasonOf (cond b r s)
  chosen b r s h k = grind arith

  pub decoded_reason : (bad_escape : Code) (o : Option (List ℕ)) (spelling : List ℕ) → IsCode bad_escape
      → IsReasonOf (decoded_or bad_escape o spelling)
  decoded_reason bad_escape o spelling is = grind arith

-- a step that goes on with what was read
pub read_on : {A B : Type 0} (says : Result A Reason) (x : A) (next : A → Result B Reason) (read : Result B Why)
    → IsReadOf says (Ok x) → IsReadOf (next x) read → IsReadOf (says >>= next) read
read_on says x next read h then = rw h then
