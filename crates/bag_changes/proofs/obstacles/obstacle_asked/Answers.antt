use Rattle.bag_changes.proofs.Common.{◌&&◌, false≢true, has_file, inr, not, subst, sym, tag_path, ◌∙◌, Fetch}
use Rattle.bag_changes.proofs.Obstructed.{free_to_change}
use Rattle.bag_changes.specs.Obstacles.{IsNamedAsTag}
use Rattle.bag_changes.proofs.obstacles.obstacle_asked.Goals as goal

pub returns : goal.returns
returns c = λ bag of deep renewal aim.
    free_to_change bag renewal
    ((λ i. not (sym aim.keeps i) && has_file bag (tag_path Fetch)) ∙ sym (c.has_old_fetch.ensures bag of deep)
    ∙ c.if-has_old_fetch.false)
    (λ e. false≢true (sym c.if-is_empty.false ∙ c.is_empty.ensures.1 (aim.algs ∙ e)))
    (λ named. false≢true (sym c.if-is_named.false
    ∙ c.is_named.ensures.unnamed bag of deep (subst (IsNamedAsTag bag) (sym c.in_ok-begun.ensures) named)))
    (sym (c.in_ok-path.ensures bag of) ∙ c.in-None.is)

pub returns-then-is_named : goal.returns-then-is_named
returns-then-is_named c = λ bag of deep renewal aim.
    inr (
      c.in_ok-begun.ensures,
      subst (IsNamedAsTag bag) c.in_ok-begun.ensures (c.is_named.ensures.named bag of deep c.if-is_named.true),
    )
