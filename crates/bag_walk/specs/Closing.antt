-- The line that ends a report.
use Rattle.std.specs.Prelude.{ℕ, List, [], ◌++◌, codes, decimal, if◌then◌else◌}
use Rattle.bag_tree.specs.Tree.{cause_word}
use Rattle.bag_tree.specs.declared.tree_fault.Stop.{Stop}
use Rattle.bag_faults.specs.FaultLine.{field}
use Rattle.bag_faults.specs.declared.options.Depth.{Depth}
use Rattle.bag_faults.specs.declared.options.Depth.TheVariants.{Declaration, Fast, Complete, Full}
use Rattle.bag_walk.specs.declared.outcome.Outcome.{Outcome}
use Rattle.bag_walk.specs.declared.outcome.Outcome.TheVariants.{Clean, Faults, Stopped, Rest}
use Rattle.bag_walk.specs.declared.outcome.Outcome.TheVariants.{Unread, Unwritten}
use Rattle.bag_walk.specs.declared.outcome.Request.{Request}

-- what is said of a bag without faults
abbrev pub verdict : Depth → List ℕ
verdict Full = codes " is valid"
verdict Complete = codes " is complete"
verdict Fast = codes " agrees with its oxum"
verdict Declaration = codes " has a good declaration"

-- a line about the bag of this name, with its end
abbrev pub about : List ℕ → List ℕ → List ℕ
about name text = field name ++ (text ++ codes "\n")

-- a line that ends with a number of faults
abbrev pub about_count : List ℕ → List ℕ → ℕ → List ℕ
about_count name text n = field name ++ (text ++ (decimal n ++ codes "\n"))

-- the file and the cause of a stop, and a number of faults
abbrev pub stopped_at : Stop → ℕ → List ℕ
stopped_at stop n =
    field stop.path ++ (codes " " ++ (cause_word stop.cause
    ++ (codes ", faults: " ++ (decimal n ++ codes "\n"))))

-- the line for a refused read
abbrev pub unread_line : List ℕ → Stop → ℕ → List ℕ
unread_line name stop n = field name ++ (codes " unread " ++ stopped_at stop n)

-- the closing line with its end, or nothing where there is none
abbrev pub closing : Request → Outcome → List ℕ
closing request Clean =
    if request.quiet then [] else about request.name (verdict request.options.depth)
closing request (Faults n) = about_count request.name (codes " has faults: ") n
closing request (Stopped n) = about_count request.name (codes " stopped, faults: ") n
closing request (Rest n) = about_count request.name (codes " rest done, faults: ") n
closing request (Unread n stop) = unread_line request.name stop n
closing request (Unwritten n) = []

-- how many fault lines were written
abbrev pub count_of : Outcome → ℕ
count_of Clean = 0
count_of (Faults n) = n
count_of (Stopped n) = n
count_of (Rest n) = n
count_of (Unread n stop) = n
count_of (Unwritten n) = n
