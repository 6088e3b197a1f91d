use Rattle.bag_tree.specs.FileReads.{gave_more}
use Rattle.bag_tree.proofs.given_files.GivenFiles.note_read.Given as goal

abbrev pub ghost-after_bytes : goal.ghost-after_bytes
ghost-after_bytes a = record { listed = a.self.now.what.listed; gave = gave_more a.self.now.what.gave a._bytes.now }
