use Rattle.bag_sources.proofs.StartPart.{whole_started}
use Rattle.bag_sources.proofs.steps.Walk+T.start.Goals as goal

pub returns-in-Ok-clause-started : goal.returns-in-Ok-clause-started
returns-in-Ok-clause-started g c =
    let begun = rw c.only_part.ensures at c.in-Ok.ensures.started in
    record {
      no_failure = begun.no_failure;
      plain = begun.plain;
      opened = begun.opened;
      shown = begun.shown;
      started = whole_started begun.started;
    }
