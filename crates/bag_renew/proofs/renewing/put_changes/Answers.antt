use Rattle.bag_renew.proofs.renewing.put_changes.Goals as goal

pub returns-in-Ok-clause-any_moment : goal.returns-in-Ok-clause-any_moment
returns-in-Ok-clause-any_moment g c = rw c.deref.ensures.value at c.in-Ok.ensures.resumed

pub returns-in-Err-clause-stopped : goal.returns-in-Err-clause-stopped
returns-in-Err-clause-stopped g c =
    let stopped = rw c.deref.ensures.value at c.in-Err.ensures.stopped in record {
      refused = c.in-Err.refused;
      stopped = stopped;
      change = stopped.change;
      place = stopped.place;
      told = c.refused_change.ensures stopped.change stopped.place;
    }

pub returns-in-Err-clause-any_moment : goal.returns-in-Err-clause-any_moment
returns-in-Err-clause-any_moment g c = rw c.deref.ensures.value at c.in-Err.ensures.resumed

pub returns-in-Ok-clause-lasting : goal.returns-in-Ok-clause-lasting
returns-in-Ok-clause-lasting g c = rw c.deref.ensures.value at c.in-Ok.ensures.resumed_lasting
