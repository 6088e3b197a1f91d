use Rattle.bag_text.proofs.Common.{arith}
use Rattle.bag_text.proofs.code.word_in.Goals as goal
use Rattle.bag_text.proofs.Codes.{row_read, row_there, row_word}

pub unreachable-requires : goal.unreachable-requires
unreachable-requires c =
    row_there c.args.code _
    (row_read c.args.codes.now c.args.code _ _ c.requires c.number.ensures c.first_numbered.ensures) c.in_default.is

pub returns : goal.returns
returns c =
    grind (
      arith,
      row_word c.args.code _ _ _
          (row_read c.args.codes.now c.args.code _ _ c.requires c.number.ensures c.first_numbered.ensures) c.in-Some.is,
      row_read,
    )
