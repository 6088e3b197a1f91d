use Rattle.bag_walk.proofs.Common.{◌++◌, sym, ap, codes, ◌∙◌}
use Rattle.bag_walk.proofs.RunLines.{read_cursor}
use Rattle.bag_walk.proofs.segment.LineBuffers.last_fault.Goals as goal

pub returns-in-Ok : goal.returns-in-Ok
returns-in-Ok c = λ last is.
    let cut = c.in-Some.ensures.cases in
    read_cursor last c.in-Ok.fault _ c.in-Some.line.now is
    (sym c.as_str.ensures.value ∙ cut.1.1 ∙ ap (λ line. line ++ codes "\n") (sym cut.2)) c.in-Ok.ensures.ok
