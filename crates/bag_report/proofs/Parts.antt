-- The faults of a profile are those of its parts.
use Rattle.bag_report.proofs.Conforming.{arith, ◌≡◌, ◌⊎◌, inl, inr, List, ◌++◌, refl, sym, subst, Code}
use Rattle.bag_report.proofs.Conforming.{ProfileIdentifier, LabelRequired, LabelRepeated, ValueNotAllowed}
use Rattle.bag_report.proofs.Conforming.{ManifestRequired, ManifestNotAllowed, TagmanifestRequired}
use Rattle.bag_report.proofs.Conforming.{TagmanifestNotAllowed, TagFileRequired, TagFileNotAllowed, FetchNotAllowed}
use Rattle.bag_report.proofs.Conforming.{VersionNotAccepted, SerializationForbidden, SerializationRequired}
use Rattle.bag_report.proofs.Conforming.{Payload, Tag, Bag, Fault, Profile}
use Rattle.bag_report.proofs.Conforming.{AreAll, IsOfElements, IsOfKind, IsOfTagFiles, IsOfWhole}
use Rattle.bag_report.specs.ConformanceStage.{ConformanceHolds, IsOfProfile}
use Rattle.bag_report.proofs.FaultSets.{both_all, same_all}

module _ (bag : Bag) (profile : Profile) where
  abbrev pub IsOfBothKinds : Fault → Type 0
  IsOfBothKinds f = IsOfKind bag profile f Payload ⊎ IsOfKind bag profile f Tag

  -- one set after the other, in the order in which they are found
  abbrev pub IsOfSome : Fault → Type 0
  IsOfSome f = ((IsOfElements bag profile f ⊎ IsOfBothKinds f) ⊎ IsOfTagFiles bag profile f) ⊎ IsOfWhole bag profile f

  module _ (f : Fault) where
    row : (c : Code) → f.code ≡ c → ConformanceHolds bag profile f c → IsOfProfile bag profile f
    unfolding IsOfProfile
    row c e h = subst (ConformanceHolds bag profile f) (sym e) h

    pub of_some : IsOfSome f → IsOfProfile bag profile f
    unfolding ConformanceHolds
    of_some (inl (inl (inl (inl (e, h))))) = row ProfileIdentifier e h
    of_some (inl (inl (inl (inr (inl (e, h)))))) = row LabelRequired e h
    of_some (inl (inl (inl (inr (inr (inl (e, h))))))) = row LabelRepeated e h
    of_some (inl (inl (inl (inr (inr (inr (e, h))))))) = row ValueNotAllowed e h
    of_some (inl (inl (inr (inl (inl (e, h)))))) = row ManifestRequired e h
    of_some (inl (inl (inr (inl (inr (e, h)))))) = row ManifestNotAllowed e h
    of_some (inl (inl (inr (inr (inl (e, h)))))) = row TagmanifestRequired e h
    of_some (inl (inl (inr (inr (inr (e, h)))))) = row TagmanifestNotAllowed e h
    of_some (inl (inr (inl (e, h)))) = row TagFileRequired e h
    of_some (inl (inr (inr (inl (e, h))))) = row TagFileNotAllowed e h
    of_some (inl (inr (inr (inr (e, h))))) = row FetchNotAllowed e h
    of_some (inr (inl (e, h))) = row VersionNotAccepted e h
    of_some (inr (inr (inl (e, h)))) = row SerializationRequired e h
    of_some (inr (inr (inr (e, h)))) = row SerializationForbidden e h

    some_by : (c : Code) → f.code ≡ c → ConformanceHolds bag profile f c → IsOfSome f
    unfolding ConformanceHolds
    some_by ProfileIdentifier e h = inl (inl (inl (inl (e, h))))
    some_by _ e h = grind arith

    pub is_of_some : IsOfProfile bag profile f → IsOfSome f
    unfolding IsOfProfile
    is_of_some h = some_by f.code refl h

  -- the parts together
  pub parts_all : (elements manifests tag_files whole two three all : List Fault) → two ≡ elements ++ manifests
      → three ≡ two ++ tag_files → all ≡ three ++ whole
      → AreAll (IsOfElements bag profile) elements → AreAll IsOfBothKinds manifests
      → AreAll (IsOfTagFiles bag profile) tag_files → AreAll (IsOfWhole bag profile) whole
      → AreAll (IsOfProfile bag profile) all
  parts_all elements manifests tag_files whole two three all make_two make_three make_all e m t w =
      same_all IsOfSome (IsOfProfile bag profile) all (λ f h. of_some f h) (λ f h. is_of_some f h)
      (both_all _ (IsOfWhole bag profile) three whole all make_all
      (both_all _ (IsOfTagFiles bag profile) two tag_files three make_three
      (both_all (IsOfElements bag profile) IsOfBothKinds elements manifests two make_two e m) t) w)
