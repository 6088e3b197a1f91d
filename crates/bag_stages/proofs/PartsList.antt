-- Every bag has a list of the faults of its parts.
use Rattle.bag_stages.proofs.Common.{arith, ◌≡◌, ◌≢◌, inl, inr, ℕ, List, Bool, true, false, Option, None, Some, codes}
use Rattle.bag_stages.proofs.Common.{refl, sym, ◌∙◌, is_utf8, alg_named, Alg, NoPayloadFolder, NoPayloadManifest}
use Rattle.bag_stages.proofs.Common.{AlgorithmUnsupported, manifest_name, tag_path, Kind, Payload, TagName, Bag, file}
use Rattle.bag_stages.proofs.Common.{has_folder, of_path, of_bag, HasList, FaultsAreListed, HasManifest}
use Rattle.bag_read.specs.declared.tag_name.TagName.TheVariants.{Declaration}
use Rattle.bag_stages.specs.PartsStage.{IsOfParts}
use Rattle.bag_stages.proofs.BagLists.{manifests_listed, over_kinds, over_names}
use Rattle.bag_stages.proofs.HasLists.{Decided, false_or_not, both_decided, none_decided, one_where, same_set, either}
use Rattle.bag_stages.proofs.HasLists.{for_each}
use Rattle.bag_stages.proofs.PartFaults.{HasOther, OfFolder, OfKind, OfName, OfPart, OfPayload, from_part}
use Rattle.bag_stages.proofs.PartFaults.{textless_fault, to_part}

unnamed_or_not : (o : Option Alg) → Decided (o ≡ None)
unnamed_or_not None = inl refl
unnamed_or_not (Some alg) = inr (λ e. cc)

declaration_or_not : (name : TagName) → Decided (name ≢ Declaration)
declaration_or_not Declaration = inr (λ other. other refl)
declaration_or_not other = inl (λ e. cc)

module _ (bag : Bag) where
  text_or_not : (path bytes : List ℕ) (b : Bool) → file bag path ≡ Some bytes → is_utf8 bytes ≡ b
      → Decided (HasOther bag path)
  text_or_not path bytes false there e = inl (bytes, there, e)
  text_or_not path bytes true there e = grind arith

  content_or_not : (path : List ℕ) (content : Option (List ℕ)) → file bag path ≡ content → Decided (HasOther bag path)
  content_or_not path None e = inr (λ h. let clash : None ≡ Some h.0 = sym e ∙ h.1 in cc)
  content_or_not path (Some bytes) e = text_or_not path bytes (is_utf8 bytes) e refl

  kind_listed : (kind : Kind) → HasList (OfKind bag kind)
  kind_listed kind =
      for_each _ (λ alg.
      one_where (of_path AlgorithmUnsupported (manifest_name kind alg) None alg) (alg_named alg ≡ None)
      (unnamed_or_not (alg_named alg)))
      (HasManifest bag kind) (manifests_listed bag kind)

  name_listed : (name : TagName) → HasList (OfName bag name)
  name_listed name =
      one_where (textless_fault (tag_path name)) ((name ≢ Declaration) × HasOther bag (tag_path name))
      (both_decided _ _ (declaration_or_not name) (content_or_not (tag_path name) (file bag (tag_path name)) refl))

  each_listed : HasList (OfPart bag)
  each_listed =
      either (OfFolder bag) _
      (one_where (of_bag NoPayloadFolder) (has_folder bag (codes "data") ≡ false)
      (false_or_not (has_folder bag (codes "data"))))
      (either (OfPayload bag) _ (one_where (of_bag NoPayloadManifest) ((alg : List ℕ) → ¬ (HasManifest bag Payload alg))
      (none_decided (HasManifest bag Payload) (manifests_listed bag Payload)))
      (either _ _ (over_kinds (OfKind bag) kind_listed) (over_names (OfName bag) name_listed)))

pub part_faults_are_listed : FaultsAreListed IsOfParts
part_faults_are_listed bag = same_set (OfPart bag) (IsOfParts bag) (to_part bag) (from_part bag) (each_listed bag)
