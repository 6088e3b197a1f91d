use Rattle.bag_sources.proofs.Common.{◌≡◌, ◌∙◌, ap}
use Rattle.bag_sources.specs.Parts.{bounds_of}
use Rattle.bag_sources.proofs.steps.Walk+T.sources_of_part.Goals as goal

pub returns : goal.returns
returns g c =
    let bounds : c.in_ok-bounds.bounds ≡ bounds_of c.args.facts.now.listing.files c.args.part =
    c.in_ok-bounds.ensures ∙ ap (λ files. bounds_of files c.args.part) c.files.ensures in
    rw bounds at c.sources_within.ensures
