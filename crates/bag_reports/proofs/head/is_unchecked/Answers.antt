use Rattle.std.proofs.Common.{◌∙◌, codes, subst, sym}
use Rattle.std.proofs.lemmas.Bool.Decides.{Decides-eqb}
use Rattle.std.proofs.lemmas.List.{append_cancel_left}
use Rattle.std.proofs.lemmas.Slice.Eq.{strip_prefix_is}
use Rattle.bag_reports.specs.Head.{IsKey}
use Rattle.bag_reports.proofs.head.is_unchecked.Goals as goal

pub returns-in-Some : goal.returns-in-Some
returns-in-Some c =
    let cut = rw (c.in-Some.is, c.as_bytes.ensures.value) at
    (strip_prefix_is Decides-eqb c.args.line.now c.as_bytes.result.now c.strip_prefix.result c.strip_prefix.ensures.cases) in (
      λ truth. (c.in-Some.key.now, sym c.is_key.ensures ∙ truth, cut),
      λ is. c.is_key.ensures
          ∙ (subst IsKey (append_cancel_left (codes "unchecked ") is.0 c.in-Some.key.now (sym is.2 ∙ cut)) is.1),
    )

pub returns-in-None : goal.returns-in-None
returns-in-None c =
    let lacks = rw (c.in-None.is, c.as_bytes.ensures.value) at
    (strip_prefix_is Decides-eqb c.args.line.now c.as_bytes.result.now c.strip_prefix.result c.strip_prefix.ensures.cases) in (
      λ falsity. cc,
      λ is. absurd (lacks is.0 is.2),
    )
