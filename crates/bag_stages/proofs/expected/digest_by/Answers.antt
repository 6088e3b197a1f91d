use Rattle.bag_stages.proofs.Common.{refl, sym}
use Rattle.bag_stages.proofs.SumFaults.{listed, not_named}
use Rattle.bag_stages.proofs.expected.digest_by.Goals as goal

pub returns-in_default : goal.returns-in_default
returns-in_default c = λ bag facts deep.
    let are = c.entries.ensures.entries bag facts deep in
    not_named bag c.args.path.now c.args.kind c.args.alg c.entries.result.now are
    (c.in_default.ensures (listed bag c.args.path.now c.args.kind c.args.alg _ are).ascending)

pub returns : goal.returns
returns c = λ bag facts deep.
    let all =
    listed bag c.args.path.now c.args.kind c.args.alg c.entries.result.now
    (c.entries.ensures.entries bag facts deep) in
    let found = c.in-Some.ensures all.ascending in
    let entry = c.in-Some.entry.now in (
      refl,
      record {
        entry = entry;
        listed = (all.members entry).0 found.0;
        path_is = found.1;
        digest_is = sym c.bytes.ensures;
      },
    )
