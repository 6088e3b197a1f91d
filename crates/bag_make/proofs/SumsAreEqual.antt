-- Stage 7: the files of a made bag have the digests that its manifests give.
use Rattle.bag_make.proofs.Common.{◌≡◌, List, Some, sym, ap, ◌∙◌, Alg, Code, PayloadSumDiffers, Kind, Payload, Bag}
use Rattle.bag_make.proofs.Common.{digest, Fault, Differs, NewElement, ManifestIsReadAgain, made}
use Rattle.bag_stages.specs.ValidityStage.{ValidityHolds, IsOfValidity}
use Rattle.bag_make.proofs.Entries.{AreWritable, entry_listed}
use Rattle.bag_make.proofs.FilesAreNamed.{listed_at}

module _ (bag : Bag) (algs : List Alg) (info : List NewElement) (read : ManifestIsReadAgain)
    (writable : AreWritable bag algs info) (f : Fault) where
  none_differs : (kind : Kind) → Differs (made bag algs info) f kind → ⊥
  none_differs kind (alg, entry, content, at, is, held, other) =
      let l = (entry_listed bag algs info read writable kind alg entry is).1 in
      let both : Some l.0 ≡ Some content = sym (listed_at bag algs info kind entry.path l.0 l.1) ∙ held in
      let same : l.0 ≡ content = cc in
      other (l.2 ∙ ap (digest alg) same)

  by_code : (code : Code) → ValidityHolds (made bag algs info) f code → ⊥
  unfolding ValidityHolds
  by_code PayloadSumDiffers h = none_differs Payload h
  by_code _ h = search none_differs

  pub no_validity_fault : IsOfValidity (made bag algs info) f → ⊥
  unfolding IsOfValidity
  no_validity_fault h = by_code f.code h
