use Rattle.bag_read.proofs.Common.{manifest_line, refl}
use Rattle.bag_read.proofs.ManifestLineParts.{result_by}
use Rattle.bag_read.proofs.laws.manifest_lines_read_or_have_one_reason.Goals as goal

pub returns : goal.returns
returns c = λ rules kind alg line some. result_by rules kind alg line (manifest_line rules kind alg line) some refl
