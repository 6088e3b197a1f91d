use Rattle.bag_cli.proofs.Common.{arith}
use Rattle.bag_cli.proofs.making.make_and_report.Goals as goal

pub returns : goal.returns
returns g c = grind arith
