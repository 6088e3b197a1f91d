use Rattle.std.specs.Prelude.{[]}
use Rattle.bag_store.proofs.answered.Answered.nothing.Given as goal

abbrev pub ghost-new : goal.ghost-new
ghost-new a = []
