-- Paths and their components.
use Rattle.bag_text.proofs.Common.{◌≡◌, ◌≢◌, ℕ, Bool, true, false, cond, List, [], ◌∷◌, length, refl, sym, ap, subst}
use Rattle.bag_text.proofs.Common.{◌∙◌, eqb, arith, All, onto_first, AllByRecursion, AllPass, join_with_byte, nat_tests}
use Rattle.bag_text.proofs.Common.{recursion_from_All, All-from_recursion, AllPass-from_list_all, list_all-from_AllPass}
use Rattle.bag_text.proofs.Common.{slash, components, is_component, PathsAreJoinedComponents}
use Rattle.std.proofs.lemmas.List.Splits.{slice_split_none, slice_split_at, length-slice_split}
use Rattle.std.proofs.lemmas.List.Splits.{join_with_byte-slice_split}

abbrev pub is_slash : ℕ → Bool
is_slash c = eqb c slash

-- no character of a component is a slash
abbrev IsClean : List ℕ → Type 0
IsClean part = All (λ c. c ≢ slash) part

pub not_slash : (c : ℕ) → c ≢ slash → is_slash c ≡ false
not_slash c h = grind (arith, nat_tests)

clean_fails : (part : List ℕ) → IsClean part → All (λ c. is_slash c ≡ false) part
clean_fails part clean k d l = not_slash _ (clean k d l)

-- components that are joined are cut again
split_join : (part : List ℕ) (parts : List (List ℕ)) → AllByRecursion IsClean (part ∷ parts)
    → components (join_with_byte slash (part ∷ parts)) ≡ part ∷ parts
split_join part [] clean = slice_split_none is_slash part (clean_fails part clean.0)
split_join part (next ∷ parts) clean = grind (arith, slice_split_at, clean_fails, split_join next parts clean.1)

joined_again : (parts : List (List ℕ)) → parts ≢ [] → AllByRecursion IsClean parts
    → components (join_with_byte slash parts) ≡ parts
joined_again [] some clean = absurd (some refl)
joined_again (part ∷ parts) some clean = split_join part parts clean

clean_nil : IsClean []
clean_nil k d l = absurd (omega arith)

clean_next : (c : ℕ) (parts : List (List ℕ)) (b : Bool) → is_slash c ≡ b → AllByRecursion IsClean parts
    → AllByRecursion IsClean (cond b ([] ∷ parts) (onto_first c parts))
clean_next c parts true e clean = (clean_nil, clean)
clean_next c parts false e clean = grind (arith, clean_nil, recursion_from_All, nat_tests)

-- no component has a slash
components_clean : (t : List ℕ) → AllByRecursion IsClean (components t)
components_clean [] = (clean_nil, tt)
components_clean (c ∷ t) = clean_next c (components t) _ refl (components_clean t)

pub some_component : (t : List ℕ) → components t ≢ []
some_component t e = absurd (omega (arith, length-slice_split is_slash t, ap length e))

-- a path is its components with a slash between each two
pub joined_components : PathsAreJoinedComponents
joined_components t = (
  (λ h. (
    components t,
    some_component t,
    AllPass-from_list_all is_component (components t) h,
    All-from_recursion IsClean (components t) (components_clean t),
    sym (join_with_byte-slice_split slash t),
  )),
  (λ (parts, some, good, clean, is).
      list_all-from_AllPass is_component (components t)
      (subst (AllPass is_component)
      (sym (ap components is ∙ joined_again parts some (recursion_from_All IsClean parts clean))) good)),
)
