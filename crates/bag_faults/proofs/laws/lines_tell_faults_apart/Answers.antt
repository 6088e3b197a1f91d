use Rattle.bag_faults.proofs.Lines.{lines_tell_faults_apart}
use Rattle.bag_faults.proofs.laws.lines_tell_faults_apart.Goals as goal

pub returns : goal.returns
returns c = lines_tell_faults_apart
