use Rattle.std.proofs.Common.{arith, sym, subst}
use Rattle.std.specs.Prelude.{IsUtf8}
use Rattle.bag_reports.proofs.Other.{AreSmall, done_is_text}
use Rattle.bag_join.proofs.plan.said_in.Goals as goal

pub returns-in_default : goal.returns-in_default
returns-in_default c said is =
    let small : AreSmall said.subject said.part said.count =
    let below = is.said_so.part.below in
    let most = is.said_so.part.most in
    record {
      number = omega arith;
      of = omega arith;
      told = is.said_so.subject;
      count = is.said_so.count;
    } in
    absurd (c.in_default.ensures.cases.0
    (subst IsUtf8 (sym is.text_is) (done_is_text said.subject said.part said.count small)))
