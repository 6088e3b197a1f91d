use Rattle.bag_read.proofs.Common.{lines_of_file, fetch_entry_in, entries_read, faults_read}
use Rattle.bag_read.proofs.FetchFaults.{entries_of_lines, faults_of_text, entries_of_no_text, faults_of_no_text}
use Rattle.bag_read.proofs.Utf8.{is_text, is_no_text, listed_so, listed_of_text}
use Rattle.bag_read.proofs.fetch.read_fetch.Goals as goal

pub returns-in-Ok : goal.returns-in-Ok
returns-in-Ok c =
    let rules = c.args.rules in
    let bytes = c.args.bytes.now in
    let text = c.in-Ok.ensures.text in
    record {
      items =
          listed_of_text _ _ c.read_lines.result (λ parsed. parsed.items) bytes c.in-Ok.text.now
          (entries_read (fetch_entry_in rules)) text (entries_of_lines rules (lines_of_file bytes))
          c.read_lines.ensures.items;
      faults =
          listed_of_text _ _ c.read_lines.result (λ parsed. parsed.faults) bytes c.in-Ok.text.now
          (faults_read (fetch_entry_in rules)) text (faults_of_text rules bytes (is_text bytes _ text))
          c.read_lines.ensures.faults;
    }

pub returns-in-Err : goal.returns-in-Err
returns-in-Err c =
    let other = is_no_text _ c.in-Err.ensures.text in
    record {
      items =
          listed_so _ _ c.unread.result (λ parsed. parsed.items) _
          (entries_of_no_text c.args.rules c.args.bytes.now other) c.unread.ensures.items;
      faults =
          listed_so _ _ c.unread.result (λ parsed. parsed.faults) _
          (faults_of_no_text c.args.rules c.args.bytes.now other) c.unread.ensures.faults;
    }
