use Rattle.bag_read.proofs.Common.{◌++◌, ◌≡◌, filter_map, lines, numbered_rest, entries_read, entry_of, fault_of}
use Rattle.bag_read.proofs.Common.{faults_read}
use Rattle.bag_read.proofs.line_fault.read_lines.Given as goal

abbrev pub invariant-loop-line : goal.invariant-loop-line
invariant-loop-line g l = record {
  entries : l.items ++ filter_map (entry_of (g.F.LineForm.reads l.form)) (numbered_rest l.line-iterator)
      ≡ entries_read (g.F.LineForm.reads l.form) (lines l.text);
  wrong : l.faults ++ filter_map (fault_of (g.F.LineForm.reads l.form)) (numbered_rest l.line-iterator)
      ≡ faults_read (g.F.LineForm.reads l.form) (lines l.text);
}
