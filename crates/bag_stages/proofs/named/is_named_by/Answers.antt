use Rattle.bag_stages.proofs.Common.{arith}
use Rattle.bag_stages.proofs.ReadManifest.{by_path, entry_names, names_entry, names_nothing}
use Rattle.bag_stages.proofs.named.is_named_by.Goals as goal

pub returns-in-Some : goal.returns-in-Some
returns-in-Some c = λ bag facts deep.
    let read = c.in-Some.ensures bag facts deep in
    let m = c.in-Some.manifest.now in
    grind (
      arith,
      c.names.ensures (by_path bag c.args.kind c.args.alg m read),
      entry_names bag c.args.kind c.args.alg m read c.args.path.now,
      names_entry bag c.args.kind c.args.alg m read c.args.path.now,
    )

pub returns-in-None : goal.returns-in-None
returns-in-None c = λ bag facts deep. (
  λ yes. cc,
  λ named. absurd (names_nothing bag c.args.kind c.args.alg (c.in-None.ensures bag facts deep) c.args.path.now named),
)
