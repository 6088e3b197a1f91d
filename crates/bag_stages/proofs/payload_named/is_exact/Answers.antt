use Rattle.bag_stages.proofs.Common.{arith}
use Rattle.bag_stages.proofs.PayloadNamed.{exactly_read, none_exact, read_exactly}
use Rattle.bag_stages.proofs.payload_named.is_exact.Goals as goal

pub returns-in-Some : goal.returns-in-Some
returns-in-Some c = λ bag facts deep.
    let m = c.in-Some.manifest.now in
    let files = c.args.facts.now.listing.files in
    let read = c.in-Some.ensures bag facts deep in
    let same = rw (c.as_slice.ensures, c.files.ensures) at c.are_named.ensures in (
      λ holds. read_exactly bag c.args.alg m files read facts.listing.files (same.0 holds),
      λ exact. same.1 (exactly_read bag c.args.alg m files read facts.listing.files facts.ordered exact),
    )

pub returns-in-None : goal.returns-in-None
returns-in-None c = λ bag facts deep. grind (arith, none_exact bag c.args.alg (c.in-None.ensures bag facts deep))
