use Rattle.bag_read.proofs.ManifestLineParts.{lines_read}
use Rattle.bag_read.proofs.laws.manifest_lines_read_as_their_parts.Goals as goal

pub returns : goal.returns
returns c = lines_read
