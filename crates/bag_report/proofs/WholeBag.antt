-- The faults of a bag as a whole.
use Rattle.bag_report.proofs.Conforming.{arith, ◌≡◌, inl, inr, ◌++◌, ℕ, List, [], ◌∷◌, Option, None, Some, refl}
use Rattle.bag_report.proofs.Conforming.{sym, ap, ◌∙◌, subst, option_and_then, Code, VersionNotAccepted}
use Rattle.bag_report.proofs.Conforming.{SerializationForbidden, SerializationRequired, declared_version, Bag, file}
use Rattle.bag_report.proofs.Conforming.{Fault, Profile, Form, Archive, Folder, Serialization, Forbidden, Optional}
use Rattle.bag_report.proofs.Conforming.{AcceptBagItVersion, Required, of_bag, bagit_txt, made_of, AreAll, IsOfForm}
use Rattle.bag_report.proofs.Conforming.{IsOfWhole, HasOtherVersion, other_version, wrong_form, Excludes}
use Rattle.bag_report.proofs.FaultSets.{same_all, both_all, none_all, one_all, whole_at, code_at}
use Rattle.std.proofs.lemmas.Option.{none-some, same_Some}

-- the version that a bag declares
abbrev pub version_in : Option (List ℕ) → Option (List ℕ)
version_in content = option_and_then declared_version content

-- the bytes that declare it
declares : (content : Option (List ℕ)) (version : List ℕ) → version_in content ≡ Some version
    → (bytes : List ℕ) × (content ≡ Some bytes) × (declared_version bytes ≡ Some version)
declares None version e = cc
declares (Some bytes) version e = (bytes, refl, e)

module _ (bag : Bag) (profile : Profile) where
  abbrev pub HasOther : Fault → Type 0
  HasOther f = (f.code ≡ VersionNotAccepted) × HasOtherVersion bag profile f

  declared_in : (bytes version : List ℕ) → file bag bagit_txt ≡ Some bytes → declared_version bytes ≡ Some version
      → version_in (file bag bagit_txt) ≡ Some version
  declared_in bytes version there e = ap version_in there ∙ e

  -- no version is declared
  pub undeclared_all : (faults : List Fault) → faults ≡ [] → None ≡ version_in (file bag bagit_txt)
      → AreAll HasOther faults
  undeclared_all faults made none = grind (arith, none_all, declared_in)

  -- a version is declared
  module _ (version : List ℕ) (is : Some version ≡ version_in (file bag bagit_txt)) where
    same_version : (f : Fault) → (h : HasOther f) → h.1.1 ≡ version
    same_version f h = let one : Some h.1.1 ≡ Some version = sym (is ∙ declared_in h.1.0 h.1.1 h.1.3 h.1.4) in cc

    -- that is accepted
    pub accepted_all : (faults : List Fault) → faults ≡ [] → ¬ (Excludes profile AcceptBagItVersion version)
        → AreAll HasOther faults
    accepted_all faults made accepts =
        none_all HasOther faults made (λ f h.
        accepts (subst (Excludes profile AcceptBagItVersion) (same_version f h) h.1.5))

    is_other : (x : Fault) → x ≡ other_version version → Excludes profile AcceptBagItVersion version → HasOther x
    is_other x e excluded = grind (arith, declares (file bag bagit_txt) version (sym is))

    only_other : (x f : Fault) → x ≡ other_version version → HasOther f → f ≡ x
    only_other x f e h = grind (arith, made_of, same_version)

    -- that isn't
    pub excluded_all : (faults : List Fault) (x : Fault) → faults ≡ x ∷ [] → x ≡ other_version version
        → Excludes profile AcceptBagItVersion version → AreAll HasOther faults
    excluded_all faults x made e excluded =
        one_all HasOther faults x made (is_other x e excluded) (λ f h. only_other x f e h)

  -- what is wrong with the form, by the profile
  form_by : (f : Fault) (s : Serialization) (form : Form) (c : Code) → s ≡ profile.terms.serialization
      → form ≡ profile.form → wrong_form s form ≡ Some c → f ≡ of_bag c → IsOfForm bag profile f
  form_by f Required Folder c s form is made =
      let same = made ∙ ap of_bag (sym (same_Some SerializationRequired c is)) in
      inl (code_at f SerializationRequired [] same, (whole_at f SerializationRequired [] same, sym s, sym form))
  form_by f Forbidden Archive c s form is made =
      let same = made ∙ ap of_bag (sym (same_Some SerializationForbidden c is)) in
      inr (code_at f SerializationForbidden [] same, (whole_at f SerializationForbidden [] same, sym s, sym form))
  form_by f Required Archive c s form is made = cc
  form_by f Forbidden Folder c s form is made = cc
  form_by f Optional _ c s form is made = cc

  by_form : (f : Fault) → IsOfForm bag profile f
      → (c : Code) × (wrong_form profile.terms.serialization profile.form ≡ Some c) × (f ≡ of_bag c)
  by_form f (inl (e, (at, s, form))) = (
    SerializationRequired,
    ap (λ x. wrong_form x profile.form) s ∙ ap (wrong_form Required) form,
    made_of f SerializationRequired [] None 0 [] e at,
  )
  by_form f (inr (e, (at, s, form))) = (
    SerializationForbidden,
    ap (λ x. wrong_form x profile.form) s ∙ ap (wrong_form Forbidden) form,
    made_of f SerializationForbidden [] None 0 [] e at,
  )

  -- something is
  pub wrong_form_all : (of_version faults : List Fault) (x : Fault) (c : Code) → AreAll HasOther of_version
      → x ≡ of_bag c → faults ≡ of_version ++ x ∷ []
      → wrong_form profile.terms.serialization profile.form ≡ Some c → AreAll (IsOfWhole bag profile) faults
  wrong_form_all of_version faults x c of_others is made wrong =
      both_all HasOther (IsOfForm bag profile) of_version (x ∷ []) faults made of_others
      (one_all (IsOfForm bag profile) (x ∷ []) x refl
      (form_by x profile.terms.serialization profile.form c refl refl wrong is)
      (λ f h. let by = by_form f h in
      by.2 ∙ ap of_bag (same_Some by.0 c (sym by.1 ∙ wrong)) ∙ sym is))

  -- nothing is
  pub right_form_all : (of_version faults : List Fault) → AreAll HasOther of_version → faults ≡ of_version
      → wrong_form profile.terms.serialization profile.form ≡ None → AreAll (IsOfWhole bag profile) faults
  right_form_all of_version faults of_others made right =
      subst (AreAll (IsOfWhole bag profile)) (sym made)
      (same_all HasOther (IsOfWhole bag profile) of_version (λ f h. inl h)
      (λ f h. elim h [ inl a ↦ a | inr b ↦ absurd (none-some (by_form f b).0 (sym right ∙ (by_form f b).1)) ])
      of_others)
