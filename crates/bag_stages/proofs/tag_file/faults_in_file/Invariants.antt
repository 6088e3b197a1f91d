use Rattle.bag_stages.proofs.Common.{◌≡◌, take, map, in_file}
use Rattle.bag_stages.proofs.tag_file.faults_in_file.Given as goal

abbrev pub invariant-loop-fault : goal.invariant-loop-fault
invariant-loop-fault l = l.all.items ≡ map (in_file l.path l.alg) (take l.fault-index l.faults)
