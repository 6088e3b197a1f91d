-- Where a fault is: its fields beside its code.
use Rattle.std.specs.Prelude.{ℕ, ◌≡◌, List, Option, Some}
use Rattle.bag_text.specs.Bytes.{Content, Path}
use Rattle.bag_text.specs.declared.alg.Alg.{Alg}
use Rattle.bag_read.specs.declared.line_fault.LineFault.{LineFault}
use Rattle.bag_tree.specs.Bag.{Bag, file}
use Rattle.bag_faults.specs.declared.fault.Fault.{Fault}

-- the fault is about this path, with the algorithm of its manifest, a line or 0, and this detail
pub record At (f : Fault) (path : Path) (alg : Option Alg) (line : ℕ)
    (detail : List ℕ) : Type 0 where
  pub path_is : f.path ≡ path
  pub alg_is : f.alg ≡ alg
  pub line_is : f.line ≡ line
  pub detail_is : f.detail ≡ detail

-- so it is about its own path, whatever that is, and no line
abbrev pub AtPath : Fault → Option Alg → List ℕ → Type 0
AtPath f alg detail = At f f.path alg 0 detail

-- a fault without its file and its algorithm
abbrev pub in_line : Fault → LineFault
in_line f = record { line = f.line; code = f.code; detail = f.detail }

-- the fault is about this file, with this algorithm; the file is there, and its bytes are wrong as
-- the fault's code, line and detail say
abbrev pub InFile : Bag → Fault → Path → Option Alg → (Content → LineFault → Type 0) → Type 0
InFile bag f path alg IsWrong =
    (f.path ≡ path) × (f.alg ≡ alg)
    × ((bytes : List ℕ) × (file bag path ≡ Some bytes) × IsWrong bytes (in_line f))
