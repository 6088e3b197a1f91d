use Rattle.bag_read.proofs.Common.{arith}
use Rattle.bag_read.proofs.ManifestFaults.{entries_of_text, faults_of_text, entries_of_no_text, faults_of_no_text}
use Rattle.bag_read.proofs.Utf8.{is_no_text, listed_so}
use Rattle.bag_read.proofs.manifest.read_manifest_among.Goals as goal

pub returns-in-Ok : goal.returns-in-Ok
returns-in-Ok c = record { items = grind (arith, entries_of_text); faults = grind (arith, faults_of_text) }

pub returns-in-Err : goal.returns-in-Err
returns-in-Err c =
    let other = is_no_text _ c.in-Err.ensures.text in
    record {
      items =
          listed_so _ _ c.unread.result (λ parsed. parsed.items) _
          (entries_of_no_text c.args.rules c.args.kind c.args.alg c.args.bytes.now other) c.unread.ensures.items;
      faults =
          listed_so _ _ c.unread.result (λ parsed. parsed.faults) _
          (faults_of_no_text c.args.rules c.args.kind c.args.alg c.args.bytes.now other) c.unread.ensures.faults;
    }
