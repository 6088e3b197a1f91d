use Rattle.bag_changes.proofs.Common.{◌∙◌, ap, filter}
use Rattle.std.proofs.Common.{rules}
use Rattle.std.proofs.lemmas.Fn.{filter_same}
use Rattle.bag_changes.specs.Composing.{keeps_bytes, of_path}
use Rattle.bag_changes.proofs.named.parted.Goals as goal

pub returns-clause-tags : goal.returns-clause-tags
returns-clause-tags c =
    filter_same _ (of_path (keeps_bytes c.args.kept.now)) _ (λ one b after call. search rules) _ _
    c.retain.ensures.filtered
    ∙ ap (filter (of_path (keeps_bytes c.args.kept.now))) c.in_ok-payload.ensures.tags
