use Rattle.bag_stages.proofs.Common.{IfOk-weaker, file, IsDeclarationOf, bagit_txt}
use Rattle.bag_stages.proofs.DeclarationFaults.{declared_listed, missing_listed}
use Rattle.bag_stages.proofs.InFile.{not_there, read_bytes}
use Rattle.bag_stages.proofs.declaration.declaration_faults.Goals as goal

pub returns-in-Some : goal.returns-in-Some
returns-in-Some c = IfOk-weaker c.faults_in_file.result _ _
    (λ all e bag facts.
    let read =
    read_bytes IsDeclarationOf (file bag bagit_txt) c.in-Some.declaration.now (c.in-Some.ensures bag facts) in
    let is = rw (c.as_slice.ensures, c.in_ok-path.ensures) at e in
    rw is (declared_listed bag read.0 c.in-Some.declaration.now.faults read.1 read.2.faults))
    c.faults_in_file.ensures

pub returns-in_ok-vec-in-None : goal.returns-in_ok-vec-in-None
returns-in_ok-vec-in-None c bag facts =
    rw (c.in_ok-vec-in-None.ensures.items, rw c.in_ok-path.ensures at c.new.ensures)
    (missing_listed bag (not_there IsDeclarationOf (file bag bagit_txt) (c.in-None.ensures bag facts)))
