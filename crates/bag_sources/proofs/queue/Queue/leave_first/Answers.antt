use Rattle.bag_sources.proofs.Common.{◌∙◌, ap, rest_of}
use Rattle.bag_sources.proofs.Places.{drop_rest}
use Rattle.bag_sources.proofs.queue.Queue.leave_first.Goals as goal

pub returns : goal.returns
returns g c = drop_rest c.self.inside.items.items c.self.inside.next ∙ ap rest_of c.self.view_is
