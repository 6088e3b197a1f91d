-- The entries and the faults of a manifest.
use Rattle.bag_read.proofs.Common.{Bool, Err, List, Ok, Result, Some, [], arith, bytes_eq, false, inl, inr, refl, subst}
use Rattle.bag_read.proofs.Common.{sym, true, ℕ, ◌∙◌, ◌∷◌, ◌≡◌, ◌⊎◌, false_from_ne_true, bytes_eq-Decides, list_any}
use Rattle.bag_read.proofs.Common.{nat_cmp, on, is_utf8, nothing_listed, one_listed, same_members, IsLine, lines}
use Rattle.bag_read.proofs.Common.{lines_of_file, lines_of_text, IsListOf, IsNoText, IsText, text_of, Alg, Code}
use Rattle.bag_read.proofs.Common.{NamedAgain, NotUtf8, Rules, AreFaults, entries_read, faults_read, line_fault_cmp}
use Rattle.bag_read.proofs.Common.{not_utf8, IsEntry, IsManifestFault, ManifestFault, named, named_before, Reason}
use Rattle.bag_read.proofs.Common.{IsReadOnce, FindsRepeats, Kind, LineFault, ManifestEntry, manifest_line}
use Rattle.bag_read.specs.Manifest.{HasManifestReason}
use Rattle.bag_read.specs.ReadEntries.{manifest_entry_in}
use Rattle.bag_read.proofs.FaultOrder.{is_fault}
use Rattle.bag_read.proofs.LinesRead.{IsRead, IsUnread, entries_listed, faults_listed}
use Rattle.bag_read.proofs.ManifestLine.{IsReasonCode, reason_code}
use Rattle.bag_read.proofs.PickedOut.{any_from, from_any}
use Rattle.bag_read.proofs.Reason.{bind_ok, err_same, clash}
use Rattle.bag_read.proofs.Utf8.{no_line, is_text}

abbrev pub line_of : ManifestEntry → ℕ
line_of e = e.line

module _ (rules : Rules) (kind : Kind) (alg : Alg) where
  -- by a test whether a line names a path again
  module _ (names_again : ℕ → List ℕ → Bool) where
    abbrev pub reads : ℕ → List ℕ → Result ManifestEntry Reason
    reads = manifest_entry_in names_again rules kind alg

    -- what a line that is an entry says
    pub entry_parts : (n : ℕ) (line : List ℕ) (e : ManifestEntry) → reads n line ≡ Ok e
        → (manifest_line rules kind alg line ≡ Ok (e.digest, e.path)) × (names_again n e.path ≡ false) × (e.line ≡ n)
    entry_parts n line e h = grind (arith, bind_ok)

    pub numbered : (n : ℕ) (line : List ℕ) (e : ManifestEntry) → reads n line ≡ Ok e → line_of e ≡ n
    numbered n line e h = (entry_parts n line e h).2

    -- why a line is no entry
    why : (n : ℕ) (line : List ℕ) (reason : Reason) → reads n line ≡ Err reason
        → (manifest_line rules kind alg line ≡ Err reason)
        ⊎ ((said : List ℕ × List ℕ) × (manifest_line rules kind alg line ≡ Ok said) × (names_again n said.1 ≡ true)
        × (reason.0 ≡ NamedAgain) × (reason.1 ≡ said.1))
    why n line reason h = grind (arith, manifest_line, err_same)

    module _ (all : List (List ℕ)) (tells : FindsRepeats rules kind alg all names_again) where
      entry_read : (e : ManifestEntry) → IsRead reads all line_of e → IsEntry rules kind alg all e
      entry_read e (line, at, (some, is)) =
          let p = entry_parts e.line line e is in (
            line,
            at,
            (some, p.0),
            λ c.
                clash (names_again e.line e.path) ((tells e.line line e.digest e.path at (some, p.0)).1 c) p.1,
          )

      is_entry : (e : ManifestEntry) → IsEntry rules kind alg all e → IsRead reads all line_of e
      is_entry e (line, at, reads, first) =
          let again = tells e.line line e.digest e.path at reads in
          let none : names_again e.line e.path ≡ false = false_from_ne_true _ (λ t. first (again.0 t)) in
          (line, at, (reads.0, rw (reads.1, none) refl))

      -- the entries of a file's lines
      pub entries_of_lines : IsListOf (on (λ e. e.line) nat_cmp) (IsEntry rules kind alg all) (entries_read reads all)
      entries_of_lines =
          same_members (on line_of nat_cmp) (IsRead reads all line_of) (IsEntry rules kind alg all) _ entry_read
          is_entry (entries_listed reads all line_of numbered)

    module _ (bytes : List ℕ) (is_utf8 : IsText bytes)
        (tells : FindsRepeats rules kind alg (lines_of_file bytes) names_again) where
      abbrev all : List (List ℕ)
      all = lines_of_file bytes

      row : (code : Code) (f : LineFault) → IsReasonCode code
          → (line : List ℕ) × IsLine all f.line line × HasManifestReason rules kind alg line (code, f.detail)
          → ManifestFault code rules kind alg bytes f
      row other f r h = grind arith

      fault_read : (f : LineFault) → IsUnread reads all f → IsManifestFault rules kind alg bytes f
      fault_read f (line, at, (some, is)) =
          elim (why f.line line (f.code, f.detail) is) [
            | inl reason ↦ row f.code f (reason_code rules kind alg line (f.code, f.detail) reason)
                (line, at, (some, reason))
            | inr (said, ok, again, code, detail) ↦ rw (is_fault f f.line NamedAgain said.1 refl code detail)
                (line, said.0, at, (some, ok), (tells f.line line said.0 said.1 at (some, ok)).0 again)
          ]

      from_code : (code : Code) (f : LineFault) → f.code ≡ code → ManifestFault code rules kind alg bytes f
          → IsUnread reads all f
      from_code NotUtf8 f e h = let none : true ≡ false = sym is_utf8 ∙ h.2 in cc
      from_code NamedAgain f e (line, digest, at, read, named) =
          let again = (tells f.line line digest f.detail at read).1 named in
          (line, at, (read.0, rw (read.1, again, e) refl))
      from_code code f e h = grind arith

      -- the faults of a file that is UTF-8
      pub faults_of_lines : AreFaults (IsManifestFault rules kind alg bytes) (faults_read reads all)
      faults_of_lines =
          same_members line_fault_cmp (IsUnread reads all) (IsManifestFault rules kind alg bytes) _ fault_read
          (λ f h. from_code f.code f refl h) (faults_listed reads all)

  -- what is read of a text, each path once, is what the bytes say
  module _ (bytes text : List ℕ) (is : text_of bytes ≡ Some text) (items : List ManifestEntry) (faults : List LineFault)
      (once : IsReadOnce rules kind alg (lines text) items faults) where
    once_in_file : IsReadOnce rules kind alg (lines_of_file bytes) items faults
    once_in_file = subst (λ t. IsReadOnce rules kind alg (lines_of_text t) items faults) (sym is) once

    pub entries_of_text : IsListOf (on (λ e. e.line) nat_cmp) (IsEntry rules kind alg (lines_of_file bytes)) items
    entries_of_text =
        rw once_in_file.items_are (entries_of_lines once_in_file.names_again (lines_of_file bytes) once_in_file.tells)

    pub faults_of_text : AreFaults (IsManifestFault rules kind alg bytes) faults
    faults_of_text =
        rw once_in_file.faults_are
        (faults_of_lines once_in_file.names_again bytes (is_text bytes text is) once_in_file.tells)

  module _ (bytes : List ℕ) (other : IsNoText bytes) where
    -- a file that isn't UTF-8 has no entry and one fault
    pub entries_of_no_text : IsListOf (on (λ e. e.line) nat_cmp) (IsEntry rules kind alg (lines_of_file bytes)) []
    entries_of_no_text =
        nothing_listed (on (λ e. e.line) nat_cmp) (IsEntry rules kind alg (lines_of_file bytes)) (λ e h.
        no_line bytes other e.line h.0 h.1)

    only : (f : LineFault) → IsManifestFault rules kind alg bytes f → f ≡ not_utf8
    only f h = grind (arith, is_fault, no_line bytes other)

    pub faults_of_no_text : AreFaults (IsManifestFault rules kind alg bytes) (not_utf8 ∷ [])
    faults_of_no_text =
        one_listed line_fault_cmp (IsManifestFault rules kind alg bytes) not_utf8 (refl, refl, other) only

  -- the test by the lines themselves
  module _ (all : List (List ℕ)) where
    abbrev pub is_named_before : ℕ → List ℕ → Bool
    is_named_before n path = list_any (bytes_eq path) (named_before rules kind alg all n)

    pub named_before_tells : FindsRepeats rules kind alg all is_named_before
    named_before_tells n line digest path at reads = (
      λ t. let (p, c, e) =
          from_any (bytes_eq path) (named_before rules kind alg all n) t in rw ((bytes_eq-Decides path p).0 e) c,
      λ c. any_from (bytes_eq path) (named_before rules kind alg all n) path c ((bytes_eq-Decides path path).1 refl),
    )

  -- the entries and the faults of any bytes
  pub some_entries : (bytes : List ℕ) (b : Bool) → is_utf8 bytes ≡ b
      → (entries : List ManifestEntry)
      × IsListOf (on (λ e. e.line) nat_cmp) (IsEntry rules kind alg (lines_of_file bytes)) entries
  some_entries bytes true e =
      let all =
      lines_of_file bytes
      in (
        entries_read (reads (is_named_before all)) all,
        entries_of_lines (is_named_before all) all (named_before_tells all),
      )
  some_entries bytes false e = ([], entries_of_no_text bytes e)

  pub some_faults : (bytes : List ℕ) (b : Bool) → is_utf8 bytes ≡ b
      → (faults : List LineFault) × AreFaults (IsManifestFault rules kind alg bytes) faults
  some_faults bytes true e =
      let all =
      lines_of_file bytes
      in (
        faults_read (reads (is_named_before all)) all,
        faults_of_lines (is_named_before all) bytes e (named_before_tells all),
      )
  some_faults bytes false e = (not_utf8 ∷ [], faults_of_no_text bytes e)
