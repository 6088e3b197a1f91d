-- The faults of the elements are those of the bag.
use Rattle.bag_report.proofs.Conforming.{arith, ◌≡◌, ◌⊎◌, inl, inr, ◌||◌, ℕ, List, [], ◌∷◌, None, Bool, true, false}
use Rattle.bag_report.proofs.Conforming.{cond, refl, ap, Contains, list_any, IsStrictlySortedBy-filter}
use Rattle.bag_report.proofs.Conforming.{bytes_eq-Decides, IsListOf, same_label, ProfileIdentifier, LabelRequired}
use Rattle.bag_report.proofs.Conforming.{LabelRepeated, ValueNotAllowed, IsElement, Element, elements_of, any_from}
use Rattle.bag_report.proofs.Conforming.{from_any, Bag, file, Fault, rules_in, kept, passed, Profile, LabelRule}
use Rattle.bag_report.proofs.Conforming.{bag_info_txt, lines_in, made_of, by_line, AreAll, IsOfElements}
use Rattle.bag_report.proofs.Conforming.{LacksIdentifier, LacksLabel, RepeatsLabel, HasOtherValue, identifier_label}
use Rattle.bag_report.proofs.Conforming.{lent, labelled, in_info, has_value, identifier_faults, rule_faults}
use Rattle.bag_report.proofs.Conforming.{rules_faults, element_faults}
use Rattle.std.proofs.Common.{Bor}
use Rattle.bag_facts.specs.TagFacts.{IsReadOf, IsMetadataOf}
use Rattle.std.proofs.lemmas.Bool.{both_ways}
use Rattle.bag_report.proofs.FaultSets.{both_all, each_all, none_all, one_all, same_all}
use Rattle.bag_report.proofs.LabelRule.{AreOf, IsOfRule, fields, rule_faults_are}

-- a test of what is lent
pub lent_any : (p : Element → Bool) (xs : List (Bor Element)) → list_any p (lent xs) ≡ list_any (λ x. p x.now) xs
lent_any p [] = refl
lent_any p (x ∷ xs) = ap (λ b. p x.now || b) (lent_any p xs)

module _ (bag : Bag) where
  -- there are none where the file isn't there
  pub no_elements : IsReadOf (IsMetadataOf (rules_in bag)) (file bag bag_info_txt) None
      → IsListOf by_line (IsElement (rules_in bag) (lines_in bag bag_info_txt)) []
  no_elements read = grind (arith, elements_of (rules_in bag) [])

  -- the elements of a label among all
  pub labelled_are : (elements : List Element)
      → IsListOf by_line (IsElement (rules_in bag) (lines_in bag bag_info_txt)) elements → (label : List ℕ)
      → AreOf bag label (labelled label elements)
  labelled_are elements list label = record {
    ascending = IsStrictlySortedBy-filter by_line (λ e. same_label e.label label) elements list.ascending;
    members = λ e. (
      λ c. let k = kept (λ (d : Element). same_label d.label label) elements e c in ((list.members e).0 k.1, k.0),
      λ h. passed (λ (d : Element). same_label d.label label) elements e h.1 ((list.members e).1 h.0),
    );
  }

  module _ (profile : Profile) where
    -- that no element names the profile
    abbrev IsOfIdentifier : Fault → Type 0
    IsOfIdentifier f = (f.code ≡ ProfileIdentifier) × LacksIdentifier bag profile f

    identifier_by : (b : Bool) (naming : List Element) → list_any (has_value profile.identifier) naming ≡ b
        → AreOf bag identifier_label naming
        → AreAll IsOfIdentifier (cond b [] (in_info ProfileIdentifier 0 profile.identifier ∷ []))
    identifier_by true naming e list = none_all IsOfIdentifier [] refl (λ f h.
        let at = from_any (has_value profile.identifier) naming e in h.1.1 at.0 ((list.members at.0).0 at.1)
        ((bytes_eq-Decides at.0.value profile.identifier).0 at.2))
    identifier_by false naming e list =
        let fault = in_info ProfileIdentifier 0 profile.identifier in
        let test = has_value profile.identifier in
        let same = λ (d : Element). (bytes_eq-Decides d.value profile.identifier).1 in
        one_all IsOfIdentifier (fault ∷ []) fault refl (
          refl,
          (
            fields ProfileIdentifier 0 profile.identifier,
            λ d h is.
                both_ways _ e (any_from test naming d ((list.members d).1 h) (same d is)),
          ),
        )
        (λ f h. made_of f ProfileIdentifier bag_info_txt None 0 profile.identifier h.0 h.1.0)

    -- a fault of one of the rules
    abbrev IsOfRules : Fault → Type 0
    IsOfRules f =
        ((f.code ≡ LabelRequired) × LacksLabel bag profile f)
        ⊎ ((f.code ≡ LabelRepeated) × RepeatsLabel bag profile f)
        ⊎ ((f.code ≡ ValueNotAllowed) × HasOtherValue bag profile f)

    of_rule : (rule : LabelRule) → Contains profile.labels rule → (f : Fault) → IsOfRule bag rule f → IsOfRules f
    of_rule rule there f (inl (inl (code, at, required, none))) = inl (code, (rule, at, there, required, none))
    of_rule rule there f (inl (inr (code, (e, at, once, later)))) = inr (inl (code, (rule, e, at, there, once, later)))
    of_rule rule there f (inr (code, (e, at, some, has, other))) =
        inr (inr (code, (rule, e, at, there, some, has, other)))

    by_rule : (f : Fault) → IsOfRules f → (rule : LabelRule) × Contains profile.labels rule × IsOfRule bag rule f
    by_rule f (inl (code, (rule, at, there, required, none))) = (rule, there, inl (inl (code, at, required, none)))
    by_rule f (inr (inl (code, (rule, e, at, there, once, later)))) =
        (rule, there, inl (inr (code, (e, at, once, later))))
    by_rule f (inr (inr (code, (rule, e, at, there, some, has, other)))) =
        (rule, there, inr (code, (e, at, some, has, other)))

    module _ (elements : List Element) (list : (label : List ℕ) → AreOf bag label (labelled label elements)) where
      rules_are : AreAll IsOfRules (rules_faults elements profile.labels)
      rules_are =
          same_all _ IsOfRules (rules_faults elements profile.labels) (λ f h. of_rule h.0 h.1 f h.2) by_rule
          (each_all (IsOfRule bag) (λ rule. rule_faults rule (labelled rule.label elements))
          (λ rule. rule_faults_are bag rule (labelled rule.label elements) (list rule.label)) profile.labels)

      -- the faults of all elements
      pub elements_are : (faults : List Fault) → faults ≡ element_faults profile.identifier profile.labels elements
          → AreAll (IsOfElements bag profile) faults
      elements_are faults is =
          both_all IsOfIdentifier IsOfRules (identifier_faults profile.identifier (labelled identifier_label elements))
          (rules_faults elements profile.labels) faults is
          (identifier_by (list_any (has_value profile.identifier) (labelled identifier_label elements))
          (labelled identifier_label elements) refl
          (list identifier_label)) rules_are
