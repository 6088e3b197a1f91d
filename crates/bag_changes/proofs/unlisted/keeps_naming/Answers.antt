use Rattle.bag_changes.proofs.Common.{◌∙◌, ◌&&◌, ap, sym, bytes_eq, has_member, is_kept_alg, list_any, Payload}
use Rattle.bag_stages.specs.TagFiles.{named_in}
use Rattle.bag_changes.specs.Obstacles.{keeps_naming}
use Rattle.bag_renewed.proofs.AlgsMade.{has_member_where}
use Rattle.bag_changes.proofs.Obstructed.{names_by}
use Rattle.bag_changes.proofs.unlisted.keeps_naming.Goals as goal

pub returns-then-has : goal.returns-then-has
unfolding keeps_naming
returns-then-has c = λ bag of deep renewal aim.
    let names = named_in bag Payload c.args.alg in
    let named = c.is_named_by.ensures bag of deep in
    let kept = ap (λ set. has_member set c.args.alg) aim.kept ∙ has_member_where (is_kept_alg bag renewal) c.args.alg in
    names_by c.args.path.now names c.is_named_by.result named.0 named.1
    ∙ ap (λ b. b && list_any (bytes_eq c.args.path.now) names) (sym c.if-has.true ∙ c.has.ensures ∙ kept)

pub returns-else-has : goal.returns-else-has
unfolding keeps_naming
returns-else-has c = λ bag of deep renewal aim.
    let kept = ap (λ set. has_member set c.args.alg) aim.kept ∙ has_member_where (is_kept_alg bag renewal) c.args.alg in
    c.if-has.false
    ∙ ap (λ b. b && list_any (bytes_eq c.args.path.now) (named_in bag Payload c.args.alg))
    (sym c.if-has.false ∙ c.has.ensures ∙ kept)
