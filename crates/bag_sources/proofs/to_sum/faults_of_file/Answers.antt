use Rattle.bag_sources.proofs.Common.{◌∙◌, inr, sym, ap, option_copied, nothing_asked, above, faults_at}
use Rattle.bag_sources.proofs.Refusing.{anyway_of_memory, anyway_of_refusal, filling_of_memory, filling_of_refusal}
use Rattle.bag_sources.proofs.Summing.{named_at}
use Rattle.bag_sources.proofs.to_sum.faults_of_file.Goals as goal

pub returns-in-Ok-faults_by-clause-faults : goal.returns-in-Ok-faults_by-clause-faults
returns-in-Ok-faults_by-clause-faults g c = λ honest.
    let sums = c.in-Ok-digest_file.ensures.sums in
    c.above.ensures
    ∙ ap (above (option_copied c.args.after))
    (c.in-Ok-faults_by.ensures sums.content (λ one d. sums.sums_of.each one.alg (c.algs_of-algs.ensures one d)))
    ∙ ap (λ o. above (option_copied c.args.after) (faults_at c.args.to_sum.now o)) (sym (sums.honest honest))

pub returns-in-Err-clause-refused : goal.returns-in-Err-clause-refused
returns-in-Err-clause-refused g c =
    named_at (g.T.Tree.state c.args.tree.now).openings c.in-Err.cause c.args.to_sum.now.file.path
    (g.T.Tree.state c.digest_file.new.tree) c.of_file.result
    (rw c.in-Ok.ensures at c.of_file.ensures) c.in-Err.ensures.refused_at

pub returns-in_default-clause-stop : goal.returns-in_default-clause-stop
returns-in_default-clause-stop g c = λ rest is.
    filling_of_memory c.out_of_memory.result c.out_of_memory.ensures (inr (nothing_asked _))

pub returns-in_default-clause-anyway : goal.returns-in_default-clause-anyway
returns-in_default-clause-anyway g c = λ rest.
    anyway_of_memory c.out_of_memory.result c.out_of_memory.ensures (inr (nothing_asked _))

pub returns-in-Err-clause-stop : goal.returns-in-Err-clause-stop
returns-in-Err-clause-stop g c = λ rest.
    let stop = c.in-Err.ensures in
    filling_of_refusal c.args.to_sum.now.file rest c.in-Err.cause c.of_file.result stop.refused stop.answered
    (rw c.in-Ok.ensures at c.of_file.ensures)

pub returns-in-Err-clause-anyway : goal.returns-in-Err-clause-anyway
returns-in-Err-clause-anyway g c = λ rest.
    let stop = c.in-Err.ensures in
    anyway_of_refusal c.args.to_sum.now.file rest c.in-Err.cause c.of_file.result stop.refused stop.answered
    (rw c.in-Ok.ensures at c.of_file.ensures)
