use Rattle.bag_text.proofs.Common.{◌≡◌, ◌∙◌, sym, ◌+◌, ◌-◌, ◌≤◌, arith, rules, length, is_byte2}
use Rattle.bag_text.proofs.FirstByte.{block_fails}
use Rattle.bag_text.proofs.line_cut.len_without.Goals as goal

pub loop-end-preserved : goal.loop-end-preserved
loop-end-preserved c =
    let within : c.loop-end.end + 32 ≤ length c.args.bytes.now = search rules in
    let size : c.loop-end.end + 32 - c.loop-end.end ≡ 32 = omega arith in
    let none = rw size at (sym c.has_neither.ensures ∙ c.if-has_neither.true) in
    record {
      within = within;
      nowhere =
          block_fails (is_byte2 c.args.a c.args.b) c.args.bytes.now c.loop-end.end 32 within
          c.loop-end.invariant.nowhere none;
    }
