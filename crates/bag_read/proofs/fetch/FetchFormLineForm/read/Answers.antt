use Rattle.bag_read.proofs.Common.{Ok, rules, sym}
use Rattle.bag_read.proofs.FetchLine.{line_lacking, line_read}
use Rattle.bag_read.proofs.fetch.FetchFormLineForm.read.Goals as goal

pub returns-then-lacks_part : goal.returns-then-lacks_part
returns-then-lacks_part c =
    let first = c.split_at_blanks.ensures in
    let next = c.split_at_blanks-2.ensures in
    line_lacking c.args.self.now.rules c.args.line.now _ _ _ _ first.front first.back next.front next.back
    c.args.number c.refuse.result (sym c.if-lacks_part.ensures) c.refuse.ensures

pub returns-in_err-path : goal.returns-in_err-path
returns-in_err-path c =
    let first = c.split_at_blanks.ensures in
    let next = c.split_at_blanks-2.ensures in
    line_read c.args.self.now.rules c.args.line.now _ _ _ _ first.front first.back next.front next.back
    c.args.number c.from_residual.result (sym c.if-lacks_part.ensures) (search rules)

pub returns : goal.returns
returns c =
    let first = c.split_at_blanks.ensures in
    let next = c.split_at_blanks-2.ensures in
    line_read c.args.self.now.rules c.args.line.now _ _ _ _ first.front first.back next.front next.back
    c.args.number (Ok c.in_ok-entry.field-0) (sym c.if-lacks_part.ensures) (search rules)
