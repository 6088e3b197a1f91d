use Rattle.std.proofs.Common.{[], ◌∷◌, ◌++◌}
use Rattle.bag_reports.proofs.noted.Noted.note_of.Given as goal

abbrev pub ghost-after : goal.ghost-after
ghost-after g a = a.self.now.items ++ g.item ∷ []
