-- One line of a manifest.
use Rattle.bag_read.proofs.Common.{Err, List, Ok, Result, arith, subst, ℕ, ◌>>=◌, ◌≡◌, is_path, is_payload_path}
use Rattle.bag_read.proofs.Common.{unescaped}
use Rattle.bag_read.proofs.Common.{after_blanks, before_blank, Alg, Code, DigestLength, ManifestEscape, ManifestLine}
use Rattle.bag_read.proofs.Common.{ManifestOutsidePayload, ManifestUnsafePath, TagmanifestNamesPayload}
use Rattle.bag_read.proofs.Common.{TagmanifestNamesTagmanifest, Rules, checked_digest, digest_of, line_by_spelling}
use Rattle.bag_read.proofs.Common.{named_path, placed, spelled_path, without_marks, is_manifest_name, Reason}
use Rattle.bag_read.proofs.Common.{decoded_or, Kind, Payload, Tag, manifest_line}
use Rattle.bag_read.specs.Reason.{IsReadOf}
use Rattle.bag_read.specs.declared.line_fault.Why.{Why}
use Rattle.bag_read.proofs.Reason.{IsReasonOf, then_reason, chosen, decoded_reason}

-- what was read of a line, by its digest and what follows it
pub line_by_parts : (rules : Rules) (kind : Kind) (alg : Alg) (line digits rest : List ℕ) → digits ≡ before_blank line
    → rest ≡ after_blanks line → (read : Result (List ℕ × List ℕ) Why)
    → IsReadOf (checked_digest alg digits rest >>= λ digest.
    line_by_spelling rules kind digest (without_marks rest)) read
    → IsReadOf (manifest_line rules kind alg line) read
unfolding manifest_line
line_by_parts rules kind alg line digits rest first back read h = rw (first, back) at h

-- the codes of the reasons why a line doesn't read
abbrev pub IsReasonCode : Code → Type 0
IsReasonCode ManifestLine = Unit {0}
IsReasonCode DigestLength = Unit {0}
IsReasonCode ManifestEscape = Unit {0}
IsReasonCode ManifestUnsafePath = Unit {0}
IsReasonCode ManifestOutsidePayload = Unit {0}
IsReasonCode TagmanifestNamesPayload = Unit {0}
IsReasonCode TagmanifestNamesTagmanifest = Unit {0}
IsReasonCode other = ⊥

placed_reason : (kind : Kind) (path : List ℕ) → IsReasonOf IsReasonCode (placed kind path)
placed_reason Payload path = chosen IsReasonCode (is_payload_path path) (Ok path) _ tt tt
placed_reason Tag path =
    chosen IsReasonCode (is_payload_path path) (Err (TagmanifestNamesPayload, path)) _ tt
    (chosen IsReasonCode (is_manifest_name Tag path) (Err (TagmanifestNamesTagmanifest, path)) _ tt tt)

digest_reason : (alg : Alg) (digest rest : List ℕ) → IsReasonOf IsReasonCode (checked_digest alg digest rest)
digest_reason alg digest rest = grind (arith, chosen)

line_reason : (rules : Rules) (kind : Kind) (alg : Alg) (line : List ℕ)
    → IsReasonOf IsReasonCode (manifest_line rules kind alg line)
unfolding manifest_line
line_reason rules kind alg line =
    then_reason IsReasonCode (digest_of alg line) _ (digest_reason alg (before_blank line) (after_blanks line))
    (λ digest. then_reason IsReasonCode
    (decoded_or ManifestEscape (unescaped rules (spelled_path line)) (spelled_path line)) _
    (decoded_reason IsReasonCode ManifestEscape (unescaped rules (spelled_path line)) (spelled_path line) tt)
    (λ path. then_reason IsReasonCode (named_path kind path) _
    (chosen IsReasonCode (is_path path) (placed kind path) (Err (ManifestUnsafePath, path))
    (placed_reason kind path) tt)
    (λ named. tt)))

pub reason_code : (rules : Rules) (kind : Kind) (alg : Alg) (line : List ℕ) (reason : Reason)
    → manifest_line rules kind alg line ≡ Err reason → IsReasonCode reason.0
reason_code rules kind alg line reason e = subst (IsReasonOf IsReasonCode) e (line_reason rules kind alg line)
