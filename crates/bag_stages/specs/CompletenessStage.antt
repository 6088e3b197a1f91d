-- Stage 6: what keeps a bag from being complete (RFC 8493, 3), and names that differ by normal form
-- alone.
use Rattle.std.specs.Prelude.{ℕ, ◌≡◌, ◌⊎◌, true, List, [], None, Some}
use Rattle.bag_text.specs.Bytes.{Path}
use Rattle.bag_text.specs.Path.{is_payload_path}
use Rattle.bag_text.specs.declared.alg.Alg.{Alg}
use Rattle.bag_text.specs.declared.code.Code.{Code}
use Rattle.bag_text.specs.declared.code.Code.TheVariants as code
use Rattle.bag_read.specs.declared.kind.Kind.{Kind}
use Rattle.bag_read.specs.declared.kind.Kind.TheVariants.{Payload, Tag}
use Rattle.bag_tree.specs.Bag.{Bag, HasFile, LacksFile}
use Rattle.bag_faults.specs.declared.fault.Fault.{Fault}
use Rattle.bag_facts.specs.Facts.{rules_in}
use Rattle.bag_stages.specs.FaultFields.{AtPath}
use Rattle.bag_stages.specs.LeftOut.{IsLeftOut, IsNamedBySome}
use Rattle.bag_stages.specs.TagFiles.{Names}
use Rattle.bag_stages.specs.Clashes.{Clashes}

-- a file of the payload
abbrev pub IsPayloadFile : Bag → Path → Type 0
IsPayloadFile bag path = HasFile bag path × (is_payload_path path ≡ true)

-- a file of the payload, or a path that a payload manifest names
abbrev pub IsPayloadName : Bag → Path → Type 0
IsPayloadName bag path = IsPayloadFile bag path ⊎ IsNamedBySome bag path

-- what a code says of a bag and the other fields of the fault
module _ (bag : Bag) (f : Fault) where
  -- a manifest names a file that isn't there
  abbrev pub Missing : Kind → Type 0
  Missing kind =
      (alg : Alg) × AtPath f (Some alg) [] × Names bag kind alg f.path × LacksFile bag f.path

  unfoldable pub CompletenessHolds : Code → Type 0
  -- a payload manifest names a file that isn't there
  CompletenessHolds code.PayloadFileMissing = Missing Payload
  -- a tag manifest does
  CompletenessHolds code.TagFileMissing = Missing Tag
  -- payload manifests leave out a payload file
  CompletenessHolds code.PayloadFileNotListed =
      AtPath f f.alg [] × IsPayloadFile bag f.path × IsLeftOut (rules_in bag) bag f.alg f.path
  -- a name that isn't the least of those with its NFC form
  CompletenessHolds code.NameClash =
      (least : List ℕ) × AtPath f None least × Clashes (IsPayloadName bag) f.path least
  -- codes of other stages
  CompletenessHolds other = ⊥

-- the fault is one of the bag's completeness or of its names: what its code says holds
unfoldable pub IsOfCompleteness : Bag → Fault → Type 0
IsOfCompleteness bag f = CompletenessHolds bag f f.code
