use Rattle.bag_text.proofs.Common.{is_line_end}
use Rattle.bag_text.proofs.FirstByte.{first_byte, no_byte}
use Rattle.bag_text.proofs.line_cut.line_end.Goals as goal

pub returns : goal.returns
returns c =
    let bytes = c.args.bytes.now in
    let found = c.first_of_two in
    record {
      found = first_byte is_line_end bytes found.result found.ensures;
      none = no_byte is_line_end bytes found.result found.ensures;
    }
