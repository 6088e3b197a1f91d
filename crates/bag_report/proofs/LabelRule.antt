-- The faults of a rule are those of the elements of its label.
use Rattle.bag_report.proofs.Conforming.{◌≡◌, ◌≢◌, ◌⊎◌, ◌<◌, ◌≤◌, ◌↔◌, ◌++◌, ℕ, List, [], ◌∷◌, map, drop, filter, None}
use Rattle.bag_report.proofs.Conforming.{Bool, true, false, not, cond, refl, arith, Contains, nat_list_eq_equiv}
use Rattle.bag_report.proofs.Conforming.{list_any, bytes_eq, same_from_decides, bytes_eq-Decides, IsListOf, Code}
use Rattle.bag_report.proofs.Conforming.{LabelRequired, LabelRepeated, ValueNotAllowed, contains_cases, contains_first}
use Rattle.bag_report.proofs.Conforming.{contains_behind, contains_nothing, member_has, Element, Bag, Fault, kept}
use Rattle.bag_report.proofs.Conforming.{passed, LabelRule, At, bag_info_txt, HasElement, HasLater, pair, made_of}
use Rattle.bag_report.proofs.Conforming.{by_line, AreAll, in_info, later_fault, allows, required_faults}
use Rattle.bag_report.proofs.Conforming.{repeated_faults, has_other, value_fault, value_faults, rule_faults}
use Rattle.std.specs.List.Sorted.{IsStrictlySortedBy}
use Rattle.std.specs.Bool.{Decides}
use Rattle.std.proofs.lemmas.Bool.{both_ways, false_from_ne_true, not-true, not_from_false}
use Rattle.std.proofs.lemmas.Map.Views.{Contains-from_any, list_any-from_Contains}
use Rattle.bag_read.proofs.FaultOrder.{lower}
use Rattle.bag_report.proofs.FaultSets.{both_all, mapped_all, none_all, one_all}

-- the fields of a fault of the file
pub fields : (code : Code) (line : ℕ) (detail : List ℕ) → At (in_info code line detail) bag_info_txt None line detail
fields code line detail = record { path_is = refl; alg_is = refl; line_is = refl; detail_is = refl }

-- whether a value is among these
among : (value : List ℕ) (values : List (List ℕ)) → (list_any (bytes_eq value) values ≡ true) ↔ Contains values value
among value values = (
  Contains-from_any (λ x y is. (bytes_eq-Decides x y).0 is) value values,
  list_any-from_Contains nat_list_eq_equiv value values,
)

-- a value that isn't allowed
forbidden : (values : List (List ℕ)) (value : List ℕ)
    → (not (allows values value) ≡ true) ↔ ((values ≢ []) × (¬ (Contains values value)))
forbidden [] value = (λ e. cc, λ h. absurd (h.0 refl))
forbidden (v ∷ values) value =
    grind (arith, both_ways, not-true, not_from_false, false_from_ne_true, among value (v ∷ values))

-- whether a value is found among those that are allowed
pub found_allowed : (values : List (List ℕ)) (value : List ℕ) (r : Bool) → values ≢ []
    → Decides r (Contains values value) → r ≡ allows values value
found_allowed [] value r some found = absurd (some refl)
found_allowed (v ∷ values) value r some found =
    same_from_decides r (list_any (bytes_eq value) (v ∷ values)) found (among value (v ∷ values))

module _ (bag : Bag) where
  -- the elements of a label, in line order
  abbrev pub AreOf : List ℕ → List Element → Type 0
  AreOf label found = IsListOf by_line (HasElement bag label) found

  module _ (label : List ℕ) (first : Element) (later : List Element) (list : AreOf label (first ∷ later)) where
    below : (e : Element) → Contains later e → first.line < e.line
    unfolding IsStrictlySortedBy
    below e c = lower first.line e.line (member_has _ later e list.ascending.0 c)

    there : HasElement bag label first
    there = (list.members first).0 (contains_first first later)

    later_is : (e : Element) → Contains later e → HasLater bag label e
    later_is e c = ((list.members e).0 (contains_behind first later e c), (first, there, below e c))

    no_lower : (d : Element) → HasElement bag label d → first.line ≤ d.line
    no_lower d h = grind (arith, contains_cases first later d ((list.members d).1 h), below d)

    behind_first : (e : Element) → HasLater bag label e → Contains later e
    behind_first e (h, (d, k, low)) = grind (arith, contains_cases first later e ((list.members e).1 h), no_lower d k)

  -- what is a fault of one rule
  module _ (rule : LabelRule) where
    abbrev pub Lacks : Fault → Type 0
    Lacks f =
        (f.code ≡ LabelRequired) × At f bag_info_txt None 0 rule.label × (rule.required ≡ true)
        × ((e : Element) → ¬ (HasElement bag rule.label e))

    abbrev pub Repeats : Fault → Type 0
    Repeats f =
        (f.code ≡ LabelRepeated)
        × ((e : Element) × At f bag_info_txt None e.line rule.label × (rule.repeatable ≡ false)
        × HasLater bag rule.label e)

    abbrev pub Differs : Fault → Type 0
    Differs f =
        (f.code ≡ ValueNotAllowed)
        × ((e : Element) × At f bag_info_txt None e.line (pair rule.label e.value) × (rule.values ≢ [])
        × HasElement bag rule.label e × ¬ (Contains rule.values e.value))

    abbrev pub IsOfRule : Fault → Type 0
    IsOfRule f = (Lacks f ⊎ Repeats f) ⊎ Differs f

    lacking : (found : List Element) → AreOf rule.label found → AreAll Lacks (required_faults rule found)
    lacking [] list = grind (arith, contains_nothing, one_all, fields, made_of, none_all, both_ways)
    lacking (first ∷ later) list = none_all Lacks [] refl (λ f h. h.3 first (there rule.label first later list))

    repeated_by : (b : Bool) (found : List Element) → rule.repeatable ≡ b → AreOf rule.label found
        → AreAll Repeats (cond b [] (map (later_fault rule.label) (drop 1 found)))
    repeated_by true found e list = none_all Repeats [] refl (λ f h. both_ways _ h.1.2 e)
    repeated_by false [] e list =
        none_all Repeats [] refl (λ f h. contains_nothing h.1.0 ((list.members h.1.0).1 h.1.3.0))
    repeated_by false (first ∷ later) e list =
        mapped_all Repeats (later_fault rule.label) later
        (λ x c. (refl, (x, fields LabelRepeated x.line rule.label, e, later_is rule.label first later list x c)))
        (λ f h. (
          h.1.0,
          behind_first rule.label first later list h.1.0 h.1.3,
          made_of f LabelRepeated bag_info_txt None h.1.0.line rule.label h.0 h.1.1,
        ))

    differing : (found : List Element) → AreOf rule.label found → AreAll Differs (value_faults rule found)
    differing found list =
        mapped_all Differs (value_fault rule) (filter (has_other rule) found)
        (λ x c.
        let is = kept (has_other rule) found x c in
        let other = (forbidden rule.values x.value).0 is.0 in
        (refl, (x, fields ValueNotAllowed x.line (pair rule.label x.value), other.0, (list.members x).0 is.1, other.1)))
        (λ f h.
        let e : Element = h.1.0 in
        let there =
        passed (has_other rule) found e ((forbidden rule.values e.value).1 (h.1.2, h.1.4))
        ((list.members e).1 h.1.3) in
        (e, there, made_of f ValueNotAllowed bag_info_txt None e.line (pair rule.label e.value) h.0 h.1.1))

    -- the faults of a rule
    pub rule_faults_are : (found : List Element) → AreOf rule.label found → AreAll IsOfRule (rule_faults rule found)
    rule_faults_are found list =
        let of_count : List Fault = required_faults rule found ++ repeated_faults rule found in
        both_all (λ f. Lacks f ⊎ Repeats f) Differs of_count (value_faults rule found) (rule_faults rule found) refl
        (both_all Lacks Repeats (required_faults rule found) (repeated_faults rule found) of_count refl
        (lacking found list)
        (repeated_by rule.repeatable found refl list)) (differing found list)
