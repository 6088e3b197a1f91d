-- What ends the program before all is done.
use Rattle.std.specs.Prelude.{ℕ, List, codes, Result, unwrap_or}
use Rattle.std.specs.Result.{result_ok}
use Rattle.bag_program.specs.declared.halt.Halt.{Halt}
use Rattle.bag_program.specs.declared.halt.Halt.TheVariants.{Memory, Unwritten}

-- what is said of it, after the program's name
abbrev pub halt_line : Halt → List ℕ
halt_line Unwritten = codes "output refused\n"
halt_line Memory = codes "out of memory\n"

-- the exit status: that of what was done, or 3 where it was ended
abbrev pub status_of : {E : Type 0} → Result ℕ E → ℕ
status_of done = unwrap_or (result_ok done) 3
