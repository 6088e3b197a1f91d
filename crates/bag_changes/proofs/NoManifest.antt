-- Manifests don't stay.
use Rattle.bag_changes.proofs.Common.{◌≡◌, true, not, refl, sym, ap, ◌∙◌, false≢true}
use Rattle.bag_changes.proofs.Common.{name, name_is_text, is_manifest_name, tag_path, Kind}
use Rattle.bag_changes.proofs.Common.{Payload, Tag, Manifest, Alg, stays}
use Rattle.bag_read.proofs.ManifestName.{named_is}
use Rattle.bag_changes.proofs.StaysSo.{stays_so}

-- a manifest has the name of one
manifest_named : (kind : Kind) (alg : Alg) → is_manifest_name kind (tag_path (Manifest kind alg)) ≡ true
manifest_named kind alg = named_is kind (tag_path (Manifest kind alg)) (name alg) (name_is_text alg, refl)

pub no_manifest : (kind : Kind) (alg : Alg) → stays (tag_path (Manifest kind alg)) ≡ true → ⊥
no_manifest Payload alg e =
    false≢true (sym (ap not (manifest_named Payload alg)) ∙ (stays_so (tag_path (Manifest Payload alg)) e).payload_manifest)
no_manifest Tag alg e =
    false≢true (sym (ap not (manifest_named Tag alg)) ∙ (stays_so (tag_path (Manifest Tag alg)) e).tag_manifest)
