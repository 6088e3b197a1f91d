use Rattle.bag_read.proofs.Common.{◌≡◌, take, is_ascii_hexdigit, list_all}
use Rattle.bag_read.proofs.manifest.is_hex.Given as goal

abbrev pub invariant-loop-b : goal.invariant-loop-b
invariant-loop-b l = l.all ≡ list_all is_ascii_hexdigit (take l.b-index l.bytes)
