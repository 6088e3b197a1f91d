-- The faults of other tag files that are lacking, or may not be there.
use Rattle.bag_report.proofs.Conforming.{arith, None, ◌≡◌, ◌↔◌, ℕ, List, [], ◌++◌, Contains, refl, sym, ap, subst}
use Rattle.bag_report.proofs.Conforming.{TagFileRequired, TagFileNotAllowed, FetchNotAllowed, Bag, HasFile, FileEntry}
use Rattle.bag_report.proofs.Conforming.{of_path, Fault, AreFilesOfBag, Profile, TagFilesRequired, made_of, AreAll}
use Rattle.bag_report.proofs.Conforming.{IsOfTagFiles, LacksTagFile, HasOtherTagFile, HasFetchFile, IsOtherTagFile}
use Rattle.bag_report.proofs.Conforming.{Lists}
use Rattle.bag_report.proofs.FaultSets.{FaultsOf, same_all, three_all, whole_at, code_at}
use Rattle.bag_report.proofs.FilesThere.{fault_of, HoldsOf, IsFaultOfAFile, files_all}

module _ (bag : Bag) (profile : Profile) where
  abbrev pub lacking_fault : List ℕ → Fault
  lacking_fault path = of_path TagFileRequired path None []

  abbrev pub IsLacking : List ℕ → Type 0
  IsLacking path = ¬ (HasFile bag path)

  abbrev pub Lacks : Fault → Type 0
  Lacks f = (f.code ≡ TagFileRequired) × LacksTagFile bag profile f

  to_lacking : (required : List (List ℕ))
      → ((path : List ℕ) → Contains required path ↔ Lists profile TagFilesRequired path) → (f : Fault)
      → FaultsOf lacking_fault IsLacking required f → Lacks f
  to_lacking required are f (path, c, is, lacks) =
      let at : f.path ≡ path = ap (λ (x : Fault). x.path) is in
      let fields = whole_at f TagFileRequired path is in (
        code_at f TagFileRequired path is,
        (
          record { path_is = refl; alg_is = fields.alg_is; line_is = fields.line_is; detail_is = fields.detail_is },
          subst (Lists profile TagFilesRequired) (sym at) ((are path).0 c),
          λ has. lacks (subst (HasFile bag) at has),
        ),
      )

  -- the files that must be there, and aren't
  pub lacking_all : (required : List (List ℕ)) (faults : List Fault)
      → ((path : List ℕ) → Contains required path ↔ Lists profile TagFilesRequired path)
      → AreAll (FaultsOf lacking_fault IsLacking required) faults → AreAll Lacks faults
  lacking_all required faults are all =
      same_all (FaultsOf lacking_fault IsLacking required) Lacks faults (to_lacking required are)
      (λ f h. (f.path, (are f.path).1 h.1.1, made_of f TagFileRequired f.path None 0 [] h.0 h.1.0, h.1.2))
      all

  abbrev pub HasOther : Fault → Type 0
  HasOther f = (f.code ≡ TagFileNotAllowed) × HasOtherTagFile bag profile f

  abbrev pub IsOther : Fault → Type 0
  IsOther = IsFaultOfAFile TagFileNotAllowed (IsOtherTagFile profile) bag

  pub to_other : (f : Fault) → IsOther f → HasOther f
  to_other f (path, has, is, other) = grind (arith, whole_at, code_at)

  pub from_other : (f : Fault) → HasOther f → IsOther f
  from_other f h = (f.path, h.1.1, made_of f TagFileNotAllowed f.path None 0 [] h.0 h.1.0, (h.1.2, h.1.3))

  -- the files that may not be there
  pub other_all : (files : List FileEntry) (faults : List Fault) → AreFilesOfBag bag files
      → AreAll (FaultsOf (fault_of TagFileNotAllowed (IsOtherTagFile profile))
      (HoldsOf TagFileNotAllowed (IsOtherTagFile profile)) files) faults → AreAll HasOther faults
  other_all files faults listed all =
      same_all IsOther HasOther faults to_other from_other
      (files_all TagFileNotAllowed (IsOtherTagFile profile) bag files listed faults all)

  abbrev pub HasSomeFetch : Fault → Type 0
  HasSomeFetch f = (f.code ≡ FetchNotAllowed) × HasFetchFile bag profile f

  -- the three together
  pub tag_files_all : (lacking others of_fetch two three : List Fault) → two ≡ lacking ++ others
      → three ≡ two ++ of_fetch → AreAll Lacks lacking → AreAll HasOther others → AreAll HasSomeFetch of_fetch
      → AreAll (IsOfTagFiles bag profile) three
  tag_files_all lacking others of_fetch two three make_two make_three l o t =
      three_all Lacks HasOther HasSomeFetch lacking others of_fetch two three make_two make_three l o t
