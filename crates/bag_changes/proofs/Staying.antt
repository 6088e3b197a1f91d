-- Which paths stay.
use Rattle.bag_changes.proofs.Common.{arith, ◌≡◌, ◌≢◌, ap, get_or, true, tag_path, Payload, Tag, TagName}
use Rattle.bag_changes.proofs.Common.{Declaration, Info, Fetch, Manifest, begun_file, stays}
use Rattle.bag_changes.proofs.NoManifest.{no_manifest}
pub use Rattle.bag_changes.proofs.NoPayload.{no_payload_name, no_payload_tag}
pub use Rattle.bag_changes.proofs.StaysSo.{itself, so_it_stays, stays_so}

-- a tag file that is written or removed
abbrev pub IsWritten : TagName → Type 0
IsWritten Fetch = ⊥
IsWritten tag = Unit {0}

-- isn't one that stays
pub written_goes : (tag : TagName) → IsWritten tag → stays (tag_path tag) ≡ true → ⊥
written_goes Declaration written e = itself (tag_path Declaration) (stays_so (tag_path Declaration) e).declaration
written_goes Info written e = itself (tag_path Info) (stays_so (tag_path Info) e).info
written_goes Fetch written e = written
written_goes (Manifest kind alg) written e = no_manifest kind alg e

-- no tag file has the name of the begun file
pub no_begun : (tag : TagName) → begun_file ≢ tag_path tag
no_begun (Manifest Payload alg) = λ same. absurd (omega (arith, ap (λ t. get_or t 0 0) same))
no_begun (Manifest Tag alg) = λ same. absurd (omega (arith, ap (λ t. get_or t 0 0) same))
no_begun Declaration = λ same. absurd (omega (arith, ap (λ t. get_or t 0 0) same))
no_begun Info = λ same. absurd (omega (arith, ap (λ t. get_or t 0 0) same))
no_begun Fetch = λ same. absurd (omega (arith, ap (λ t. get_or t 0 0) same))
