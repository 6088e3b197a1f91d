-- The folder that a path stands in.
use Rattle.bag_tree.proofs.Common.{◌≡◌, ℕ, ◌+◌, ◌<◌, ◌≤◌, ◌==◌, Bool, true, false, IsUtf8, List, [], ◌∷◌, ◌++◌}
use Rattle.bag_tree.proofs.Common.{append_assoc, front_rest, length, length-append, drop, take, nat_lt, subst, add_comm}
use Rattle.bag_tree.proofs.Common.{add-one, refl, ap, ◌∙◌, arith, ⊎_elim, position_or_len, before_first, and_parts}
use Rattle.bag_tree.proofs.Common.{and_from, ltb-true, lt-ltb, cases_lt, eqb-true, All-head, All-tail, slash}
use Rattle.bag_tree.proofs.Common.{components, is_path, is_base_name, first_component, under}
use Rattle.std.proofs.Common.{All}
use Rattle.std.specs.List.{list_any}
use Rattle.std.proofs.Math.Seq.{get_or-append_seam}
use Rattle.std.proofs.lemmas.List.Splits.{slice_split_none, slice_split_at, slice_split_first, length-slice_split}
use Rattle.std.proofs.lemmas.List.Sums.{passes_at_first, fails_before_first}
use Rattle.std.proofs.lemmas.Str.{IsUtf8-drop, IsUtf8-take, IsCharBoundary-after_ascii, IsCharBoundary-before_ascii}
use Rattle.std.proofs.lemmas.List.{get_or-take, length-take}

abbrev pub is_slash : ℕ → Bool
is_slash c = c == slash

-- a path of two or more components
abbrev pub is_in_folder : List ℕ → Bool
is_in_folder path = nat_lt 1 (length (components path))

-- where no place passes below the length, none passes
none_until : (p : ℕ → Bool) (xs : List ℕ) → length xs ≤ position_or_len p xs → All (λ x. p x ≡ false) xs
none_until p xs none k d within = fails_before_first p xs k d (omega arith)

none_before : (p : ℕ → Bool) (xs : List ℕ) → All (λ x. p x ≡ false) (before_first p xs)
none_before p xs k d within = grind (arith, length-take, get_or-take, fails_before_first)

first_before : (p : ℕ → Bool) (xs : List ℕ) (y : ℕ) (ys : List ℕ) → All (λ x. p x ≡ false) xs → p y ≡ true
    → before_first p (xs ++ y ∷ ys) ≡ xs
first_before p [] y ys none here = rw here refl
first_before p (x ∷ xs) y ys none here =
    let head : p x ≡ false = All-head (λ x. p x ≡ false) x xs none in
    rw head (ap (λ n. take n (x ∷ (xs ++ y ∷ ys)))
    (add_comm 1 (position_or_len p (xs ++ y ∷ ys)) ∙ add-one (position_or_len p (xs ++ y ∷ ys)))
    ∙ ap (λ zs. x ∷ zs) (first_before p xs y ys (All-tail (λ x. p x ≡ false) x xs none) here))

-- a slash parts a path in two or more
parted : (path : List ℕ) → position_or_len is_slash path < length path → 1 < length (components path)
parted path place = grind (arith, slice_split_first, length-slice_split)

-- a name has no slash
pub name_has_none : (name : List ℕ) → is_base_name name ≡ true → All (λ c. is_slash c ≡ false) name
name_has_none name is = grind (arith, eqb-true, and_parts, ⊎_elim, parted, none_until, cases_lt)

pub any_fails : (xs : List ℕ) → All (λ c. is_slash c ≡ false) xs → list_any is_slash xs ≡ false
any_fails [] none = refl
any_fails (x ∷ xs) none =
    let head =
    All-head (λ c. is_slash c ≡ false) x xs none
    in let tail = any_fails xs (All-tail (λ c. is_slash c ≡ false) x xs none) in grind arith

pub name_has_no_slash : (name : List ℕ) → is_base_name name ≡ true → list_any is_slash name ≡ false
name_has_no_slash name is = any_fails name (name_has_none name is)

-- so it is no path in a folder
pub base_not_under : (name folder rest : List ℕ) → is_base_name name ≡ true → name ≡ under folder rest → ⊥
base_not_under name folder rest is same =
    grind (
      arith,
      name_has_none name is (length folder) 0,
      get_or-append_seam folder slash rest 0,
      length-append folder (slash ∷ rest),
    )

-- what stands under a name is in the folder of that name
pub under_in_folder : (top rest : List ℕ) → is_base_name top ≡ true → is_in_folder (under top rest) ≡ true
under_in_folder top rest is = grind (arith, slice_split_at, name_has_none, length-slice_split, lt-ltb)

pub first-under : (top rest : List ℕ) → is_base_name top ≡ true → first_component (under top rest) ≡ top
first-under top rest is = first_before is_slash top slash rest (name_has_none top is) refl

-- a path in a folder has a slash
pub slash_within : (path : List ℕ) → is_in_folder path ≡ true → position_or_len is_slash path < length path
slash_within path within = grind (arith, ltb-true, ⊎_elim, slice_split_none, none_until, cases_lt)

-- a path with a slash is in a folder, and one with none isn't
pub in_folder : (path : List ℕ) → position_or_len is_slash path < length path → is_in_folder path ≡ true
in_folder path place = lt-ltb 1 (length (components path)) (parted path place)

pub not_in_folder : (path : List ℕ) → position_or_len is_slash path ≡ length path → is_in_folder path ≡ false
not_in_folder path past = grind (arith, slice_split_none, none_until, nat_lt)

-- the first component of a path in a folder is a name, and a text where the path is one
pub first_is_base_name : (path : List ℕ) → is_path path ≡ true → is_in_folder path ≡ true
    → is_base_name (first_component path) ≡ true
first_is_base_name path is within =
    grind (arith, slice_split_first, slash_within, and_parts, slice_split_none, none_before, and_from)

pub first_is_text : (path : List ℕ) → IsUtf8 path → is_in_folder path ≡ true → IsUtf8 (first_component path)
first_is_text path text within =
    let place = slash_within path within in
    IsUtf8-take path (position_or_len is_slash path) text
    (IsCharBoundary-before_ascii path (position_or_len is_slash path) place
    (omega (arith, eqb-true _ _ (passes_at_first is_slash path 0 place))))

past_mark : (top rest : List ℕ) → drop (length top + 1) (under top rest) ≡ rest
past_mark top rest =
    grind (
      arith,
      length-append top (slash ∷ []),
      front_rest (under top rest) (top ++ slash ∷ []) rest,
      append_assoc top (slash ∷ []) rest,
    )

-- what stands under a folder is a text where its path is one
pub text_under : (top rest : List ℕ) → IsUtf8 (under top rest) → IsUtf8 rest
text_under top rest text =
    let mark = get_or-append_seam top slash rest 0 in
    let within : length top < length (under top rest) = omega (arith, length-append top (slash ∷ rest)) in
    subst IsUtf8 (past_mark top rest)
    (IsUtf8-drop _ _ text (IsCharBoundary-after_ascii _ (length top) text within (omega (arith, mark))))
