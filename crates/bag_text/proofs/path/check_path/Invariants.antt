use Rattle.bag_text.proofs.PathReading.{IsReadTo}
use Rattle.bag_text.proofs.path.check_path.Given as goal

abbrev pub invariant-loop-byte : goal.invariant-loop-byte
invariant-loop-byte l = IsReadTo l.part l.text l.byte-index
