use Rattle.bag_tree.proofs.writer_out.WriterOut.holding.Given as goal

abbrev pub ghost-new : goal.ghost-new
ghost-new g a = g.held
