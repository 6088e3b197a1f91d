use Rattle.bag_store.proofs.Common.{refl, other_seen}
use Rattle.bag_store.proofs.standing.standing_at.Goals as goal

pub returns-in-Ok-Other-clause-refused : goal.returns-in-Ok-Other-clause-refused
returns-in-Ok-Other-clause-refused g c = (
  refl,
  λ honest reached.
      other_seen (g.D.Disk.state c.args.disk.now).nodes c.args.path.now c.in-Ok-Other.field-0 c.utf8.path
      (c.in-Ok-Other.ensures.found honest reached) c.in-Ok-Other.field-0-is,
)
