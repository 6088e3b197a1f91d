use Rattle.bag_read.proofs.Common.{arith}
use Rattle.bag_read.specs.DeclarationFaults.{text_faults}
use Rattle.bag_read.proofs.DeclarationFaults.{faults_of_text, faults_of_no_text}
use Rattle.bag_read.proofs.Utf8.{is_text, is_no_text, listed_of_text}
use Rattle.bag_read.proofs.declaration.read_declaration.Goals as goal

pub returns-in-Ok-clause-faults : goal.returns-in-Ok-clause-faults
returns-in-Ok-clause-faults c =
    let bytes = c.args.bytes.now in
    let text = c.in-Ok.ensures.text in
    listed_of_text _ _ c.read_text.result (λ d. d.faults) bytes c.in-Ok.text.now (text_faults bytes) text
    (faults_of_text bytes (is_text bytes _ text)) c.read_text.ensures.faults

pub returns-in-Err-clause-faults : goal.returns-in-Err-clause-faults
returns-in-Err-clause-faults c = grind (arith, faults_of_no_text, is_no_text)
