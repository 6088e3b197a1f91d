use Rattle.bag_read.proofs.DeclarationLineParts.{encoding_lines}
use Rattle.bag_read.proofs.laws.encoding_lines_read_as_their_parts.Goals as goal

pub returns : goal.returns
returns c = encoding_lines
