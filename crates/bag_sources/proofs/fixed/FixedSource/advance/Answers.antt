use Rattle.bag_sources.proofs.Common.{sym, subst, IsStrictlySortedBy, fault_cmp}
use Rattle.bag_sources.proofs.Places.{rest_ascends}
use Rattle.bag_sources.proofs.fixed.FixedSource.advance.Goals as goal

pub returns-clause-rest : goal.returns-clause-rest
returns-clause-rest g c = λ bag h. (
  subst (IsStrictlySortedBy fault_cmp) (sym c.leave_first.ensures) (rest_ascends c.args.self.now.faults h),
  c.leave_first.ensures,
)
