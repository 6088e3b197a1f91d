use Rattle.bag_facts.proofs.Common.{arith}
use Rattle.bag_facts.proofs.Parsed.{one_more_parsed}
use Rattle.bag_facts.proofs.facts.parse_all.Goals as goal

pub loop-file-preserved : goal.loop-file-preserved
loop-file-preserved c = grind (arith, one_more_parsed)
