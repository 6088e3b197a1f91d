use Rattle.bag_program.proofs.Common.{Read}
use Rattle.std.specs.Result.{result_map_both}
use Rattle.bag_program.proofs.folders.Folders.read_file.Given as goal

abbrev pub ghost-note_of : goal.ghost-note_of
ghost-note_of g a = let read = a._value.now
    in Read read.0.now (result_map_both (λ bytes. bytes.items) (λ fault. fault) read.1.now)
