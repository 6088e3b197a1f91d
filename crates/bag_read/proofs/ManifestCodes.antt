-- The codes of a manifest's faults, their stages and their lines.
use Rattle.bag_read.proofs.Common.{List, arith, inl, inr, refl, ℕ, ◌<◌, ◌≡◌, ◌≢◌, ◌⊎◌, stage, Alg, Code, NamedAgain}
use Rattle.bag_read.proofs.Common.{NotUtf8, Rules, IsManifestFault, ManifestFault, Kind, LineFault, DigestLength}
use Rattle.bag_read.proofs.Common.{ManifestEscape, ManifestLine, ManifestOutsidePayload, ManifestUnsafePath}
use Rattle.bag_read.proofs.Common.{TagmanifestNamesPayload, TagmanifestNamesTagmanifest}
use Rattle.bag_read.proofs.ManifestLine.{IsReasonCode, reason_code}
use Rattle.bag_read.specs.Manifest.{HasUnreadLine}

-- the codes of faults of a manifest's lines
abbrev pub IsManifestCode : Code → Type 0
IsManifestCode NamedAgain = Unit {0}
IsManifestCode code = IsReasonCode code

module _ (rules : Rules) (kind : Kind) (alg : Alg) (bytes : List ℕ) where
  -- a fault of a line, or the one fault of bytes that aren't UTF-8
  abbrev pub OfLine : Code → ℕ → Type 0
  OfLine code line = IsManifestCode code × (0 < line)

  abbrev pub OfFile : Code → ℕ → Type 0
  OfFile code line = (code ≡ NotUtf8) × (line ≡ 0)

  -- a fault that isn't of all bytes, nor of a path that is named again, is of a line that doesn't read
  pub unread_line : (code : Code) (f : LineFault) → code ≢ NotUtf8 → code ≢ NamedAgain
      → ManifestFault code rules kind alg bytes f → HasUnreadLine code rules kind alg bytes f
  unread_line NotUtf8 f whole again h = absurd (whole refl)
  unread_line NamedAgain f whole again h = absurd (again refl)
  unread_line ManifestLine f whole again h = h
  unread_line DigestLength f whole again h = h
  unread_line ManifestEscape f whole again h = h
  unread_line ManifestUnsafePath f whole again h = h
  unread_line ManifestOutsidePayload f whole again h = h
  unread_line TagmanifestNamesPayload f whole again h = h
  unread_line TagmanifestNamesTagmanifest f whole again h = h
  unread_line other f whole again h = absurd h

  fault_code : (code : Code) (f : LineFault) → ManifestFault code rules kind alg bytes f
      → OfFile code f.line ⊎ OfLine code f.line
  fault_code NotUtf8 f h = inl (refl, h.0)
  fault_code NamedAgain f h = inr (tt, h.2.0)
  fault_code code f h =
      let unread = unread_line code f (λ e. cc) (λ e. cc) h in
      inr (reason_code rules kind alg unread.0 (code, f.detail) unread.2.1, unread.1.0)

  -- a fault is of a line, with a code of manifests, or the fault of bytes that aren't UTF-8
  pub manifest_fault_code : (f : LineFault) → IsManifestFault rules kind alg bytes f
      → OfFile f.code f.line ⊎ OfLine f.code f.line
  manifest_fault_code f h = fault_code f.code f h

  -- a fault of another code than NotUtf8 is of stage 5
  pub manifest_fault_stage : (f : LineFault) → IsManifestFault rules kind alg bytes f → f.code ≢ NotUtf8
      → stage f.code ≡ 5
  manifest_fault_stage f h other = grind (arith, manifest_fault_code)

  -- and of a line
  pub manifest_fault_line : (f : LineFault) → IsManifestFault rules kind alg bytes f → f.code ≢ NotUtf8 → 0 < f.line
  manifest_fault_line f h other = grind (arith, manifest_fault_code)
