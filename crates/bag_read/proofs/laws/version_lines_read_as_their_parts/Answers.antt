use Rattle.bag_read.proofs.DeclarationLineParts.{version_lines}
use Rattle.bag_read.proofs.laws.version_lines_read_as_their_parts.Goals as goal

pub returns : goal.returns
returns c = version_lines
