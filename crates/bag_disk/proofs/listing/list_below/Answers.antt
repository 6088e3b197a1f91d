use Rattle.bag_disk.proofs.Common.{arith, err_from_is_err_and}
use Rattle.bag_disk.proofs.Plain.{walked_plain}
use Rattle.bag_disk.proofs.Refusals.{counted_quietly, due_in_listing, listed_for_err}
use Rattle.bag_disk.proofs.WholeWalk.{whole_listing}
use Rattle.bag_disk.specs.FolderWalk.{Contradiction, HasTooMuch}
use Rattle.bag_disk.specs.Refusal.{MeetsSpecial, MeetsUnnamed}
use Rattle.bag_disk.proofs.listing.list_below.Goals as goal

pub returns-clause-honest : goal.returns-clause-honest
returns-clause-honest g c = grind (
  arith,
  whole_listing (g.D.Disk.state c.args.disk.now).nodes c.in_ok-found.found.files.items
      c.in_ok-found.found.listed.items,
  g.met.D.Disk.is_disk c.args.disk.now,
)

pub returns-clause-plain : goal.returns-clause-plain
returns-clause-plain g c = grind (
  arith,
  walked_plain (g.D.Disk.state c.args.disk.now).nodes c.in_ok-found.found.files.items
      c.in_ok-found.found.listed.items (g.met.D.Disk.is_disk c.args.disk.now),
)

pub returns-clause-refused : goal.returns-clause-refused
returns-clause-refused g c = grind (arith, listed_for_err)

pub returns-clause-failures : goal.returns-clause-failures
returns-clause-failures g c = counted_quietly c.listing_of.result (g.D.Disk.state c.args.disk.now)
    (g.D.Disk.state c.walk.new.disk) c.in_ok-found.ensures.failures c.listing_of.ensures.quiet

pub returns-in_err-found-clause-refused : goal.returns-in_err-found-clause-refused
returns-in_err-found-clause-refused g c =
    let p = err_from_is_err_and c.from_residual.result c.from_residual.ensures.1 in
    let old = g.D.Disk.state c.args.disk.now in
    rw (p.1, p.2) (due_in_listing (MeetsSpecial old) (MeetsUnnamed old) (HasTooMuch old) (Contradiction old) _
    c.in_err-found.ensures.refused)
