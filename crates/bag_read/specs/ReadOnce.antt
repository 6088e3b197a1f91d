-- Lines of a manifest that are read in one go (RFC 8493, 2.1.3).
use Rattle.std.specs.Prelude.{ℕ, ◌≡◌, ◌↔◌, Bool, List, IsTrue, Contains}
use Rattle.bag_text.specs.Bytes.{Line, Path}
use Rattle.bag_text.specs.Lines.{IsLine}
use Rattle.bag_text.specs.declared.rules.Rules.{Rules}
use Rattle.bag_text.specs.declared.alg.Alg.{Alg}
use Rattle.bag_entries.specs.declared.entry.ManifestEntry.{ManifestEntry}
use Rattle.bag_read.specs.LineFault.{entries_read, faults_read}
use Rattle.bag_read.specs.Manifest.{ReadsManifest, named_before}
use Rattle.bag_read.specs.ReadEntries.{manifest_entry_in}
use Rattle.bag_read.specs.declared.kind.Kind.{Kind}
use Rattle.bag_read.specs.declared.line_fault.LineFault.{LineFault}

-- the test says of each line that reads whether an earlier line names its path
abbrev pub FindsRepeats : Rules → Kind → Alg → List Line → (ℕ → Path → Bool) → Type 0
FindsRepeats rules kind alg all names_again =
    (n : ℕ) (line digest path : List ℕ) → IsLine all n line
    → ReadsManifest rules kind alg line digest path
    → IsTrue (names_again n path) ↔ Contains (named_before rules kind alg all n) path

-- what is read of lines by such a test
pub record IsReadOnce (rules : Rules) (kind : Kind) (alg : Alg) (all : List Line)
    (items : List ManifestEntry) (faults : List LineFault) : Type 0 where
  pub names_again : ℕ → Path → Bool
  pub tells : FindsRepeats rules kind alg all names_again
  pub items_are : items ≡ entries_read (manifest_entry_in names_again rules kind alg) all
  pub faults_are : faults ≡ faults_read (manifest_entry_in names_again rules kind alg) all
