use Rattle.bag_sources.proofs.Common.{◌∙◌, ap, arith, option_copied, refl, opens_all_first}
use Rattle.bag_sources.specs.Parts.{listed_of}
use Rattle.bag_facts.proofs.Refusing.{facts_stop_of_memory}
use Rattle.bag_sources.proofs.StartPart.{part_started}
use Rattle.bag_sources.proofs.steps.Walk+T.start_part.Goals as goal

pub returns-in-Ok-sources_of_part-clause-started : goal.returns-in-Ok-sources_of_part-clause-started
returns-in-Ok-sources_of_part-clause-started g c =
    let facts = c.in-Ok.facts in
    let read = c.in-Ok.ensures in
    rw (c.new.ensures, ← c.as_ref.ensures.value) (record {
      no_failure = read.no_failure;
      plain = read.plain;
      opened = (facts.listing, read.seen.2.ordered, (λ honest. (read.facts honest).listing), read.opened);
      shown = refl;
      started =
          part_started (option_copied c.args.profile) _ (g.T.Tree.state c.args.tree) c.args.options _ c.args.part facts _
          (g.met.T.Tree.is_bag c.args.tree) read.facts read.seen read.options c.in-Ok-sources_of_part.ensures;
    })

pub returns-clause-refused : goal.returns-clause-refused
returns-clause-refused g c =
    let memory = c.out_of_memory.ensures in
    record {
      opened_first = grind (arith, opens_all_first);
      refused_at = λ some. absurd (some memory.1);
      stop =
          facts_stop_of_memory c.args.options _ _ c.out_of_memory.result memory
          c.in-Ok.ensures.no_failure;
    }

pub returns-in-Ok-sources_of_part-clause-listed : goal.returns-in-Ok-sources_of_part-clause-listed
returns-in-Ok-sources_of_part-clause-listed g c =
    let facts = c.in-Ok.facts in
    let read = c.in-Ok.ensures in (
      facts.listing,
      read.seen.2.ordered,
      (λ honest. (read.facts honest).listing),
      c.of-listed.ensures ∙ ap listed_of c.files.ensures,
    )
