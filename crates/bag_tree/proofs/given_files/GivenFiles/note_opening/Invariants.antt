use Rattle.std.specs.Prelude.{◌++◌, ◌∷◌, []}
use Rattle.bag_tree.proofs.given_files.GivenFiles.note_opening.Given as goal

abbrev pub ghost-after_bytes : goal.ghost-after_bytes
ghost-after_bytes a = record { listed = a.self.now.what.listed; gave = a.self.now.what.gave ++ (a._bytes.now, []) ∷ [] }
