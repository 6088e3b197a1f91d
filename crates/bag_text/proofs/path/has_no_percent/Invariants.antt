use Rattle.bag_text.proofs.Common.{◌≡◌, not, take, eqb, list_all, percent}
use Rattle.bag_text.proofs.path.has_no_percent.Given as goal

abbrev pub invariant-loop-byte : goal.invariant-loop-byte
invariant-loop-byte l = l.all ≡ list_all (λ c. not (eqb c percent)) (take l.byte-index l.bytes)
