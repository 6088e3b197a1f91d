use Rattle.bag_sources.proofs.Common.{◌≡◌, None, option_copied, same_members, fault_cmp, stage, IsAbove, IsReported}
use Rattle.bag_sources.proofs.Common.{is_of_completeness, of_completeness}
use Rattle.bag_report.specs.Report.{check_with}
use Rattle.bag_sources.proofs.completeness.Completeness.new.Goals as goal

pub returns-clause-reported : goal.returns-clause-reported
returns-clause-reported c = λ profile bag facts.
    let options = c.args.facts.now.options in
    rw c.of.ensures
    (same_members fault_cmp
    (IsAbove (option_copied c.args.after) (λ f. IsReported (check_with bag None options) f × (stage f.code ≡ 6)))
    (IsAbove (option_copied c.args.after) (λ f. IsReported (check_with bag profile options) f × (stage f.code ≡ 6)))
    c.in_ok-faults.faults.items
    (λ f h. (((is_of_completeness bag profile f (of_completeness bag None f h.0.0.0 h.0.1), h.0.0.1), h.0.1), h.1))
    (λ f h. (((is_of_completeness bag None f (of_completeness bag profile f h.0.0.0 h.0.1), h.0.0.1), h.0.1), h.1))
    (c.in_ok-faults.ensures.faults bag facts))
