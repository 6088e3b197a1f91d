use Rattle.bag_stages.proofs.Common.{arith}
use Rattle.bag_stages.proofs.LeastNames.{ascii_itself}
use Rattle.bag_stages.proofs.clashes.nfc_form.Goals as goal

pub returns-then-is_ascii : goal.returns-then-is_ascii
returns-then-is_ascii c = grind (arith, ascii_itself)
