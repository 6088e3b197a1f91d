use Rattle.bag_tree.proofs.given_files.GivenFiles.after_bytes.Given as goal

abbrev pub ghost-of : goal.ghost-of
ghost-of g a = g.given
