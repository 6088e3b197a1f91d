use Rattle.bag_sources.proofs.Common.{◌≡◌, ◌∙◌, ◌++◌, sym, ap, subst, IsStrictlySortedBy, fault_cmp, rest_of}
use Rattle.bag_sources.proofs.Common.{faults_of_files}
use Rattle.bag_sources.proofs.Places.{rest_ascends}
use Rattle.bag_sources.proofs.Summing.{rest_front}
use Rattle.bag_sources.proofs.validity.ValiditySource.advance.Goals as goal

pub returns-clause-rest : goal.returns-clause-rest
returns-clause-rest g c = λ bag h.
    let found = c.args.self.now.found in
    let others = faults_of_files bag c.args.self.now.after c.args.self.now.pending in
    let e : c.leave_first.new.self ++ others ≡ rest_of (found ++ others) =
    ap (λ l. l ++ others) c.leave_first.ensures ∙ rest_front found others c.requires in (
      record {
        files = h.files;
        ascends = subst (IsStrictlySortedBy fault_cmp) (sym e) (rest_ascends (found ++ others) h.ascends);
      },
      e,
    )
