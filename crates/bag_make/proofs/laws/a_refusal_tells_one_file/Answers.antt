use Rattle.bag_make.proofs.OneFile.{tells_one_file}
use Rattle.bag_make.proofs.laws.a_refusal_tells_one_file.Goals as goal

pub returns : goal.returns
returns c = tells_one_file
