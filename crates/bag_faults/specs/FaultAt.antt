-- A fault by what it is about.
use Rattle.std.specs.Prelude.{ℕ, List, [], Option, None}
use Rattle.bag_text.specs.Bytes.{Path}
use Rattle.bag_text.specs.declared.alg.Alg.{Alg}
use Rattle.bag_text.specs.declared.code.Code.{Code}
use Rattle.bag_faults.specs.declared.fault.Fault.{Fault}

-- the fault of a line of the file at a path; with an algorithm, that of its manifest
abbrev pub of_line : Code → Path → Option Alg → ℕ → List ℕ → Fault
of_line code path alg line detail =
    record { code = code; path = path; alg = alg; line = line; detail = detail }

-- the fault of a path, which is about no single line
abbrev pub of_path : Code → Path → Option Alg → List ℕ → Fault
of_path code path alg detail = of_line code path alg 0 detail

-- a fault that is about no file
abbrev pub of_bag : Code → Fault
of_bag code = of_path code [] None []
