-- The faults of a file whose digests aren't those that manifests give.
use Rattle.std.specs.Prelude.{◌≡◌, List, Option, None, Some, Contains, bytes_eq, filter_map}
use Rattle.std.specs.Prelude.{if◌then◌else◌}
use Rattle.bag_text.specs.Bytes.{Content, Digest, Path}
use Rattle.hex.specs.Hex.{encode_lower}
use Rattle.bag_text.specs.declared.code.Code.{Code}
use Rattle.bag_text.specs.declared.code.Code.TheVariants.{PayloadSumDiffers, TagSumDiffers}
use Rattle.bag_read.specs.declared.kind.Kind.{Kind}
use Rattle.bag_read.specs.declared.kind.Kind.TheVariants.{Payload, Tag}
use Rattle.bag_tree.specs.Digest.{digest}
use Rattle.bag_tree.specs.DigestsOf.{sum_at}
use Rattle.bag_faults.specs.FaultAt.{of_path}
use Rattle.bag_faults.specs.declared.fault.Fault.{Fault}
use Rattle.bag_stages.specs.Expected.{Expected}
use Rattle.bag_stages.specs.Given.{kind_of}
use Rattle.bag_stages.specs.ValidityStage.{expected_and_found, IsOfValidity}
use Rattle.bag_tree.specs.Bag.{Bag}

-- what a file is whose digest isn't the one that a manifest of this kind gives
abbrev pub differing_code : Kind → Code
differing_code Payload = PayloadSumDiffers
differing_code Tag = TagSumDiffers

-- the fault that a file's digest is this one, and not the expected one
abbrev pub sum_differs : Path → Expected → Digest → Fault
sum_differs path expected found =
    of_path (differing_code (kind_of path)) path (Some expected.alg)
    (expected_and_found (encode_lower expected.digest) found)

-- that fault of a file with these bytes, where its digest differs
abbrev pub differing : Path → Content → Expected → Option Fault
differing path content expected =
    if bytes_eq (encode_lower expected.digest) (digest expected.alg content) then None
    else Some (sum_differs path expected (digest expected.alg content))

-- the faults of a file with these bytes, one for each digest that differs
abbrev pub faults_of_bytes : Path → Content → List Expected → List Fault
faults_of_bytes path content expected = filter_map (differing path content) expected

-- these are the digests of the bytes, by each algorithm by which one is expected
abbrev pub AreSumsBy : List Expected → Content → List (Option Digest) → Type 0
AreSumsBy expected content sums = (one : Expected) → Contains expected one
    → sum_at sums one.alg ≡ Some (digest one.alg content)

-- such a fault of this file
abbrev pub IsFaultOfFile : Bag → Path → Fault → Type 0
IsFaultOfFile bag path f = IsOfValidity bag f × (f.path ≡ path)
