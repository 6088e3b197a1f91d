use Rattle.std.specs.Prelude.{Some}
use Rattle.bag_tree.proofs.given_files.GivenFiles.note_listing.Given as goal

abbrev pub ghost-after_listing : goal.ghost-after_listing
ghost-after_listing a = record { listed = Some a._listing.now; gave = a.self.now.what.gave }
