-- The line of a fault, in the parts in which it is written.
use Rattle.std.specs.Prelude.{ℕ, List, ◌++◌, codes}
use Rattle.bag_faults.specs.FaultLine.{alg_field, field, line_field}
use Rattle.bag_faults.specs.declared.fault.Fault.{Fault}

-- its line and its detail, with the line end
abbrev pub end : Fault → List ℕ
end f = line_field f.line ++ (codes " " ++ (field f.detail ++ codes "\n"))

-- the same after its path and its algorithm
abbrev pub place : Fault → List ℕ
place f = field f.path ++ (codes " " ++ (alg_field f.alg ++ (codes " " ++ end f)))
