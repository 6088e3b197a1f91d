use Rattle.bag_read.proofs.Common.{fetch_line, refl}
use Rattle.bag_read.proofs.FetchLineParts.{result_by}
use Rattle.bag_read.proofs.laws.fetch_lines_read_or_have_one_reason.Goals as goal

pub returns : goal.returns
returns c = λ rules line some. result_by rules line (fetch_line rules line) some refl
