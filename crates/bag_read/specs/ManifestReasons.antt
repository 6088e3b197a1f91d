-- The reasons why a line of a manifest doesn't read, each by itself (RFC 8493, 2.1.3 and 2.2.1),
-- and the law of the first.
use Rattle.std.specs.Prelude.{ℕ, ◌≡◌, ◌≢◌, ◌⊎◌, false, List, [], ◌∷◌, length, IsTrue}
use Rattle.std.specs.Char.{is_ascii_hexdigit}
use Rattle.std.specs.List.{list_all}
use Rattle.bag_text.specs.Bytes.{Line}
use Rattle.bag_text.specs.Alg.{hex_len}
use Rattle.bag_text.specs.Path.{is_path, is_payload_path}
use Rattle.bag_text.specs.Spells.{Spells}
use Rattle.bag_text.specs.declared.rules.Rules.{Rules}
use Rattle.bag_text.specs.declared.alg.Alg.{Alg}
use Rattle.bag_text.specs.declared.code.Code.{Code}
use Rattle.bag_text.specs.declared.code.Code.TheVariants.{ManifestLine, TagmanifestNamesTagmanifest}
use Rattle.bag_text.specs.declared.code.Code.TheVariants.{ManifestEscape, TagmanifestNamesPayload}
use Rattle.bag_text.specs.declared.code.Code.TheVariants.{DigestLength, ManifestOutsidePayload}
use Rattle.bag_text.specs.declared.code.Code.TheVariants.{ManifestUnsafePath}
use Rattle.bag_read.specs.LineParts.{IsFronted}
use Rattle.bag_read.specs.Manifest.{HasManifestReason}
use Rattle.bag_read.specs.ManifestLine.{IsSpelling}
use Rattle.bag_read.specs.ManifestName.{manifest_name, is_alg_text}
use Rattle.bag_read.specs.Reason.{Reason}
use Rattle.bag_read.specs.FetchReasons.{IsFirst}
use Rattle.bag_read.specs.declared.kind.Kind.{Kind}
use Rattle.bag_read.specs.declared.kind.Kind.TheVariants.{Payload, Tag}

-- after the digest and the blanks the path is spelled so
abbrev pub IsManifestSpelled : Line → List ℕ → Type 0
IsManifestSpelled line spelling =
    (hex rest : List ℕ) × IsFronted line hex rest × IsSpelling rest spelling

-- and this text is what is spelled
abbrev pub IsManifestWritten : Rules → Line → List ℕ → Type 0
IsManifestWritten rules line text =
    (spelling : List ℕ) × IsManifestSpelled line spelling × Spells rules spelling text

-- a reason, with its detail, by cases on the code
abbrev pub ManifestReasonHolds : Code → Rules → Kind → Alg → Line → List ℕ → Type 0
-- the front is empty or isn't hex, or nothing follows it
ManifestReasonHolds ManifestLine rules kind alg line detail =
    (detail ≡ []) × ((hex rest : List ℕ) × IsFronted line hex rest
    × ((hex ≡ []) ⊎ (list_all is_ascii_hexdigit hex ≡ false) ⊎ (rest ≡ [])))
-- the front hasn't the length of the algorithm's digests
ManifestReasonHolds DigestLength rules kind alg line detail =
    (rest : List ℕ) × IsFronted line detail rest × (length detail ≢ hex_len alg)
-- the spelling of the path has a bad escape
ManifestReasonHolds ManifestEscape rules kind alg line detail =
    IsManifestSpelled line detail × ((path : List ℕ) → ¬ (Spells rules detail path))
-- what is spelled isn't a path
ManifestReasonHolds ManifestUnsafePath rules kind alg line detail =
    IsManifestWritten rules line detail × (is_path detail ≡ false)
-- in a payload manifest: it isn't the path of a payload file
ManifestReasonHolds ManifestOutsidePayload rules Payload alg line detail =
    IsManifestWritten rules line detail × (is_payload_path detail ≡ false)
-- in a tag manifest: it is
ManifestReasonHolds TagmanifestNamesPayload rules Tag alg line detail =
    IsManifestWritten rules line detail × IsTrue (is_payload_path detail)
-- in a tag manifest: it has the form of a tag manifest's name
ManifestReasonHolds TagmanifestNamesTagmanifest rules Tag alg line detail =
    IsManifestWritten rules line detail
    × ((text : List ℕ) × IsTrue (is_alg_text text) × (detail ≡ manifest_name Tag text))
ManifestReasonHolds other rules kind alg line detail = ⊥

-- in the order in which they count: of several that hold the first is reported
abbrev pub manifest_reasons : List Code
manifest_reasons =
    ManifestLine ∷ DigestLength ∷ ManifestEscape ∷ ManifestUnsafePath ∷ ManifestOutsidePayload
    ∷ TagmanifestNamesPayload
    ∷ TagmanifestNamesTagmanifest ∷ []

-- the law: the reason of a line holds, and none of those before it does
abbrev pub FirstManifestReasonIsReported : Type 0
FirstManifestReasonIsReported =
    (rules : Rules) (kind : Kind) (alg : Alg) (line : Line) (reason : Reason)
    → HasManifestReason rules kind alg line reason
    → IsFirst (λ code detail. ManifestReasonHolds code rules kind alg line detail) manifest_reasons
    reason
