use Rattle.bag_read.proofs.Common.{arith, false, enumerate_from, faults}
use Rattle.bag_read.proofs.InfoElements.{elements_of}
use Rattle.bag_read.proofs.InfoFaults.{faults_of_text, elements_of_no_text, faults_of_no_text}
use Rattle.bag_read.proofs.Utf8.{is_text, is_no_text, listed_so, listed_of_text}
use Rattle.bag_read.proofs.info.read_info.Goals as goal

pub returns-in-Ok : goal.returns-in-Ok
returns-in-Ok c =
    let bytes = c.args.bytes.now in
    let text = c.in-Ok.ensures.text in
    let faults_is =
    listed_of_text _ _ c.read_text.result (λ parsed. parsed.faults) bytes c.in-Ok.text.now
    (λ all. faults c.args.rules false (enumerate_from 1 all)) text
    (faults_of_text c.args.rules bytes (is_text bytes _ text)) c.read_text.ensures.faults in
    record { items = grind (arith, listed_of_text, elements_of); faults = faults_is }

pub returns-in-Err : goal.returns-in-Err
returns-in-Err c =
    let other = is_no_text _ c.in-Err.ensures.text in
    record {
      items =
          listed_so _ _ c.unread.result (λ parsed. parsed.items) _
          (elements_of_no_text c.args.rules c.args.bytes.now other) c.unread.ensures.items;
      faults =
          listed_so _ _ c.unread.result (λ parsed. parsed.faults) _
          (faults_of_no_text c.args.rules c.args.bytes.now other) c.unread.ensures.faults;
    }
