use Rattle.std.specs.Prelude.{[], None}
use Rattle.bag_tree.proofs.given_files.GivenFiles.nothing.Given as goal

abbrev pub ghost-of : goal.ghost-of
ghost-of a = record { listed = None; gave = [] }
