-- The faults of a declaration: first of the whole file, then of each line.
use Rattle.bag_read.proofs.Common.{Bool, List, None, Option, Some, [], arith, codes, cond, false, inl, length, lit<}
use Rattle.bag_read.proofs.Common.{refl, true, ℕ, ◌-◌, ◌<◌, ◌==◌, ◌∷◌, ◌≡◌, ◌⊎◌, both_ways, nat_tests}
use Rattle.bag_read.proofs.Common.{option_and_then_some, slice_get-get_or, slice_get_past, slice_get, decimal}
use Rattle.bag_read.proofs.Common.{option_and_then, Less, one_listed, one_more, only_from_some, only_listed}
use Rattle.bag_read.proofs.Common.{same_members, lines_of_file, IsOnly, IsNoText, IsText, has_mark, same_label, Code}
use Rattle.bag_read.proofs.Common.{DeclarationLine, DeclarationLineCount, DeclarationNotUtf8, EncodingUnsupported}
use Rattle.bag_read.proofs.Common.{VersionUnsupported, DeclarationFault, IsDeclarationFault, IsUnreadLine, encoding_of}
use Rattle.bag_read.proofs.Common.{is_supported_version, version_of, AreFaults, line_fault, line_fault_cmp, LineFault}
use Rattle.bag_read.proofs.FaultOrder.{is_fault, line_below}
use Rattle.bag_read.specs.DeclarationFaults.{utf8_fault, mark_fault, count_fault, version_fault, encoding_fault}
use Rattle.bag_read.specs.DeclarationFaults.{on_line, text_faults}

-- a fault that there is where a test passes, and one where it fails
only_if : (b : Bool) (g : LineFault) → IsOnly (λ f. (f ≡ g) × (b ≡ true)) (cond b (Some g) None)
only_if b g = grind (arith, both_ways)

only_unless : (b : Bool) (g : LineFault) → IsOnly (λ f. (f ≡ g) × (b ≡ false)) (cond b None (Some g))
only_unless b g = grind (arith, both_ways)

-- the fault of a line, where the line is there
is_there : (fault : Option (List ℕ) → Option LineFault) (reading : List ℕ → Option (List ℕ)) (n : ℕ)
    (all : List (List ℕ)) → 0 < n
    → on_line n (length all) (fault (option_and_then reading (slice_get all (n - 1))))
    ≡ option_and_then (λ line. fault (reading line)) (slice_get all (n - 1))
is_there fault reading n all some =
    grind (arith, nat_tests, slice_get_past all (n - 1), slice_get-get_or all (n - 1) [])

module _ (bytes : List ℕ) (text : IsText bytes) where
  abbrev lines : List (List ℕ)
  lines = lines_of_file bytes

  -- the faults of the whole file
  abbrev Mark : LineFault → Type 0
  Mark f = (f ≡ line_fault 0 DeclarationNotUtf8 (codes "bom")) × (has_mark bytes ≡ true)

  abbrev Count : LineFault → Type 0
  Count f = (f ≡ line_fault 0 DeclarationLineCount (decimal (length lines))) × ((length lines == 2) ≡ false)

  -- the fault of a line that doesn't read, or that declares what isn't good
  module _ (n : ℕ) (some : 0 < n) (code : Code) (reading : List ℕ → Option (List ℕ)) (good : List ℕ → Bool) where
    abbrev OfLine : LineFault → Type 0
    OfLine f =
        ((f ≡ line_fault n DeclarationLine []) × IsUnreadLine reading bytes n)
        ⊎ ((t : List ℕ) × (f ≡ line_fault n code t) × (option_and_then reading (slice_get lines (n - 1)) ≡ Some t)
        × (good t ≡ false))

    module _ (fault : Option (List ℕ) → Option LineFault) (none : fault None ≡ Some (line_fault n DeclarationLine []))
        (one : (t : List ℕ) → fault (Some t) ≡ cond (good t) None (Some (line_fault n code t))) where
      by_reading : (line : List ℕ) (r : Option (List ℕ)) (f : LineFault) → slice_get lines (n - 1) ≡ Some line
          → reading line ≡ r → fault r ≡ Some f → OfLine f
      by_reading line o f there r made = grind (arith, nat_tests)

      is_of_line : (f : LineFault) → option_and_then (λ line. fault (reading line)) (slice_get lines (n - 1)) ≡ Some f
          → OfLine f
      is_of_line f h =
          option_and_then_some (λ line. fault (reading line)) (slice_get lines (n - 1)) f h (λ line there made.
          by_reading line (reading line) f there refl made)

      of_line_is : (f : LineFault) → OfLine f
          → option_and_then (λ line. fault (reading line)) (slice_get lines (n - 1)) ≡ Some f
      of_line_is f h = grind (arith, slice_get, none, one)

      only_of_line : IsOnly OfLine
          (on_line n (length lines) (fault (option_and_then reading (slice_get lines (n - 1)))))
      only_of_line = rw (is_there fault reading n lines some) (only_from_some OfLine _ is_of_line of_line_is)

  abbrev First : LineFault → Type 0
  First = OfLine 1 (lit< tt) VersionUnsupported version_of is_supported_version

  abbrev Second : LineFault → Type 0
  Second = OfLine 2 (lit< tt) EncodingUnsupported encoding_of (λ t. same_label t (codes "UTF-8"))

  -- each kind stands below the next
  mark_count : (f g : LineFault) → Mark f → Count g → line_fault_cmp f g ≡ Less
  mark_count f g h k = rw (h.0, k.0) refl

  before_first : (f g : LineFault) → Mark f ⊎ Count f → First g → line_fault_cmp f g ≡ Less
  before_first f g h k = grind (arith, line_below)

  before_second : (f g : LineFault) → (Mark f ⊎ Count f) ⊎ First f → Second g → line_fault_cmp f g ≡ Less
  before_second f g h k = grind (arith, line_below)

  to_fault : (f : LineFault) → ((Mark f ⊎ Count f) ⊎ First f) ⊎ Second f → IsDeclarationFault bytes f
  to_fault f h = grind (arith, nat_tests)

  from_fault : (code : Code) (f : LineFault) → f.code ≡ code → DeclarationFault code bytes f
      → ((Mark f ⊎ Count f) ⊎ First f) ⊎ Second f
  from_fault other f c h = grind (arith, is_fault, nat_tests)

  -- the faults of a file that is UTF-8
  pub faults_of_text : AreFaults (IsDeclarationFault bytes) (text_faults bytes lines)
  faults_of_text =
      let one = only_listed line_fault_cmp Mark (mark_fault bytes) (only_if (has_mark bytes) _) in
      let two =
      one_more line_fault_cmp Mark Count _ (count_fault (length lines)) one (only_unless (length lines == 2) _)
      mark_count in
      let three =
      one_more line_fault_cmp (λ f. Mark f ⊎ Count f) First _ _ two
      (only_of_line 1 (lit< tt) VersionUnsupported version_of is_supported_version version_fault refl
      (λ t. refl)) before_first in
      let four =
      one_more line_fault_cmp (λ f. (Mark f ⊎ Count f) ⊎ First f) Second _ _ three
      (only_of_line 2 (lit< tt) EncodingUnsupported encoding_of (λ t. same_label t (codes "UTF-8"))
      encoding_fault refl (λ t. refl)) before_second in
      same_members line_fault_cmp _ (IsDeclarationFault bytes) _ to_fault (λ f h. from_fault f.code f refl h) four

module _ (bytes : List ℕ) (other : IsNoText bytes) where
  no_line : (k : ℕ) → slice_get (lines_of_file bytes) k ≡ None
  no_line k = rw other refl

  only : (f : LineFault) → IsDeclarationFault bytes f → f ≡ utf8_fault
  only f h = grind (arith, is_fault, no_line 0, no_line 1)

  -- the one fault of a file that isn't UTF-8
  pub faults_of_no_text : AreFaults (IsDeclarationFault bytes) (utf8_fault ∷ [])
  faults_of_no_text = one_listed line_fault_cmp (IsDeclarationFault bytes) utf8_fault (inl (refl, refl, other)) only
