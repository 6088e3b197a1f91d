-- The names of tag files: none is that of another, and which of them tag manifests are to name.
use Rattle.bag_renew.proofs.Common.{arith, ◌≡◌, ℕ, true, false, not, List, get_or, refl, ap}
use Rattle.bag_renew.proofs.Common.{and_from, false_from_ne_true, is_payload_path, is_manifest_name, manifest_name}
use Rattle.bag_renew.proofs.Common.{tag_path, Kind, Payload, Tag, TagName, Declaration, Info, Fetch, Manifest, name}
use Rattle.std.specs.Char.{encode_utf8}
use Rattle.std.specs.Str.{is_utf8, chars}
use Rattle.bag_text.specs.Text.{IsText}
use Rattle.bag_text.specs.declared.alg.Alg.TheVariants.{Md5, Sha1, Sha224, Sha256, Sha384, Sha512}
use Rattle.bag_read.proofs.ManifestName.{is_named}
use Rattle.bag_text.specs.declared.rules.Rules.{Rules}
use Rattle.bag_text.specs.declared.rules.Rules.TheVariants.{V10, V097}
use Rattle.bag_tags.specs.Writable.{is_unnameable}
use Rattle.bag_changes.specs.Telling.{is_to_name}
use Rattle.bag_changes.proofs.NoPayload.{no_payload_tag}

-- no manifest has the name of another tag file
abbrev pub IsPlain : TagName → Type 0
IsPlain (Manifest kind alg) = ⊥
IsPlain tag = Unit {0}

pub no_manifest_name : (tag : TagName) → IsPlain tag → (kind : Kind) (alg : List ℕ)
    → tag_path tag ≡ manifest_name kind alg → ⊥
no_manifest_name (Manifest k a) plain kind alg same = plain
no_manifest_name Declaration plain Payload alg same = absurd (omega (arith, ap (λ t. get_or t 0 0) same))
no_manifest_name Declaration plain Tag alg same = absurd (omega (arith, ap (λ t. get_or t 0 0) same))
no_manifest_name Info plain Payload alg same = absurd (omega (arith, ap (λ t. get_or t 0 0) same))
no_manifest_name Info plain Tag alg same = absurd (omega (arith, ap (λ t. get_or t 0 0) same))
no_manifest_name Fetch plain Payload alg same = absurd (omega (arith, ap (λ t. get_or t 0 0) same))
no_manifest_name Fetch plain Tag alg same = absurd (omega (arith, ap (λ t. get_or t 0 0) same))

-- no payload manifest has the name of a tag manifest
pub one_kind : (a b : List ℕ) → manifest_name Payload a ≡ manifest_name Tag b → ⊥
one_kind a b same = absurd (omega (arith, ap (λ t. get_or t 0 0) same))

-- a tag file that tag manifests are to name
abbrev pub IsNamed : TagName → Type 0
IsNamed (Manifest Tag alg) = ⊥
IsNamed tag = Unit {0}

pub not_tag_manifest : (tag : TagName) → IsNamed tag → is_manifest_name Tag (tag_path tag) ≡ false
not_tag_manifest tag named = false_from_ne_true _ (λ is.
    let n = is_named Tag (tag_path tag) is in by_tag tag named n.0 n.2)
  where
    by_tag : (tag : TagName) → IsNamed tag → (alg : List ℕ) → tag_path tag ≡ manifest_name Tag alg → ⊥
    by_tag (Manifest Tag a) named alg same = named
    by_tag (Manifest Payload a) named alg same = one_kind (name a) alg same
    by_tag Declaration named alg same = no_manifest_name Declaration tt Tag alg same
    by_tag Info named alg same = no_manifest_name Info tt Tag alg same
    by_tag Fetch named alg same = no_manifest_name Fetch tt Tag alg same

pub named_so : (tag : TagName) → IsNamed tag → is_to_name Tag (tag_path tag) ≡ true
named_so tag named =
    and_from (not (is_payload_path (tag_path tag))) (not (is_manifest_name Tag (tag_path tag)))
    (ap not (false_from_ne_true _ (λ is. no_payload_tag tag is))) (ap not (not_tag_manifest tag named))

pub tag_text : (tag : TagName) → IsText (tag_path tag)
unfolding is_utf8 chars encode_utf8
tag_text Declaration = refl
tag_text Info = refl
tag_text Fetch = refl
tag_text (Manifest Payload Md5) = refl
tag_text (Manifest Payload Sha1) = refl
tag_text (Manifest Payload Sha224) = refl
tag_text (Manifest Payload Sha256) = refl
tag_text (Manifest Payload Sha384) = refl
tag_text (Manifest Payload Sha512) = refl
tag_text (Manifest Tag Md5) = refl
tag_text (Manifest Tag Sha1) = refl
tag_text (Manifest Tag Sha224) = refl
tag_text (Manifest Tag Sha256) = refl
tag_text (Manifest Tag Sha384) = refl
tag_text (Manifest Tag Sha512) = refl

-- a line of a manifest can name each by either rules
pub tag_nameable : (rules : Rules) (tag : TagName) → is_unnameable rules (tag_path tag) ≡ false
tag_nameable V10 (Manifest Payload alg) = refl
tag_nameable V10 (Manifest Tag alg) = refl
tag_nameable V10 Declaration = refl
tag_nameable V10 Info = refl
tag_nameable V10 Fetch = refl
tag_nameable V097 (Manifest Payload Md5) = refl
tag_nameable V097 (Manifest Payload Sha1) = refl
tag_nameable V097 (Manifest Payload Sha224) = refl
tag_nameable V097 (Manifest Payload Sha256) = refl
tag_nameable V097 (Manifest Payload Sha384) = refl
tag_nameable V097 (Manifest Payload Sha512) = refl
tag_nameable V097 (Manifest Tag Md5) = refl
tag_nameable V097 (Manifest Tag Sha1) = refl
tag_nameable V097 (Manifest Tag Sha224) = refl
tag_nameable V097 (Manifest Tag Sha256) = refl
tag_nameable V097 (Manifest Tag Sha384) = refl
tag_nameable V097 (Manifest Tag Sha512) = refl
tag_nameable V097 Declaration = refl
tag_nameable V097 Info = refl
tag_nameable V097 Fetch = refl
