use Rattle.std.specs.Prelude.{[]}
use Rattle.std.specs.Option.{unwrap_or}
use Rattle.bag_tree.proofs.writer_out.WriterOut.new.Given as goal

abbrev pub ghost-holding : goal.ghost-holding
ghost-holding g a = unwrap_or (g.W.Write.contents a.writer) []
