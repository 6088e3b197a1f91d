-- A bag that was made has no fault.
use Rattle.bag_make.proofs.Common.{◌≡◌, inl, inr, true, List, None, Alg, nothing_listed, Bag, Fault, NewElement}
use Rattle.bag_make.proofs.Common.{DeclarationIsReadAgain, InfoIsReadAgain, ManifestIsReadAgain, made, CanMake}
use Rattle.bag_make.proofs.Common.{MadeIsValid, full}
use Rattle.bag_faults.specs.FaultOrder.{fault_cmp}
use Rattle.bag_report.specs.Report.{asks, Is}
use Rattle.bag_report.specs.Valid.{IsFaultOf}
use Rattle.bag_make.proofs.DeclarationReads.{no_declaration_fault}
use Rattle.bag_make.proofs.FetchIsNotThere.{no_fetch_fault}
use Rattle.bag_make.proofs.FilesAreNamed.{no_completeness_fault}
use Rattle.bag_make.proofs.ManifestsRead.{no_manifest_fault}
use Rattle.bag_make.proofs.MetadataReads.{no_metadata_fault}
use Rattle.bag_make.proofs.PartsAreThere.{no_part_fault}
use Rattle.bag_make.proofs.SumsAreEqual.{no_validity_fault}
use Rattle.bag_make.proofs.Writable.{writable}

module _ (declaration_read : DeclarationIsReadAgain) (info_read : InfoIsReadAgain) (manifest_read : ManifestIsReadAgain)
  where
    module _ (bag : Bag) (algs : List Alg) (info : List NewElement) (can : CanMake bag algs info) (f : Fault) where
      -- stage by stage
      no_fault : Is (made bag algs info) None f → asks full f.code ≡ true → ⊥
      unfolding Is
      no_fault (inl h) asked = no_declaration_fault declaration_read bag algs info f h
      no_fault (inr (inl h)) asked = no_part_fault bag algs info can info_read manifest_read f h
      no_fault (inr (inr (inl h))) asked = no_metadata_fault bag algs info can info_read f h
      no_fault (inr (inr (inr (inl h)))) asked = no_fetch_fault bag algs info f h
      no_fault (inr (inr (inr (inr (inl h))))) asked =
          no_manifest_fault bag algs info manifest_read (writable bag algs info can) f h
      no_fault (inr (inr (inr (inr (inr (inl h)))))) asked =
          no_completeness_fault bag algs info manifest_read (writable bag algs info can) f h asked
      no_fault (inr (inr (inr (inr (inr (inr (inl h))))))) asked =
          no_validity_fault bag algs info manifest_read (writable bag algs info can) f h
      no_fault (inr (inr (inr (inr (inr (inr (inr h))))))) asked = h

    pub made_is_valid : MadeIsValid
    made_is_valid bag algs info can =
        nothing_listed fault_cmp (IsFaultOf (made bag algs info))
        (λ f reported. no_fault bag algs info can f reported.0 reported.1)
