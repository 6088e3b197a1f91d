use Rattle.bag_report.proofs.Conforming.{arith, ◌≡◌, true, false, sym, ◌∙◌, Payload, Tag}
use Rattle.std.proofs.lemmas.Bool.{both_ways}
use Rattle.bag_report.proofs.ListRules.{at_none, free_from, named_none, none_at, none_named}
use Rattle.bag_report.proofs.profile_rules.is_free_tag_file.Goals as goal
use Rattle.bag_report.proofs.profile_rules.is_free_tag_file.Goals.{then-not-is_payload, else-not-is_payload}
use Rattle.bag_report.proofs.profile_rules.is_free_tag_file.Goals.{then-is_none, else-is_none}

pub returns-then-is_none-2 : goal.returns-then-is_none-2
returns-then-is_none-2 c =
    let path = c.args.path.now in
    let alg = c.manifest_alg-then-is_none-2 in
    let none = c.is_none-then-is_none-2 in (
      λ is. grind (arith, free_from path, none_at path, none_named path),
      λ free.
          named_none path Tag alg.result none.result alg.ensures.alg none.ensures free,
    )

pub returns-else-is_none-2 : goal.returns-else-is_none-2
returns-else-is_none-2 c =
    let path = c.args.path.now in (
      λ is. absurd (both_ways _ c.if-is_none-2.false is),
      λ free. elim c.if-is_none.branch [
        | then-is_none w ↦ w.value-is
            ∙ named_none path Payload w.manifest_alg.result w.is_none-then-is_none.result w.manifest_alg.ensures.alg
            w.is_none-then-is_none.ensures free
        | else-is_none w ↦ elim c.if-not-is_payload.branch [
          | then-not-is_payload u ↦ absurd (both_ways _ w.if-is_none.false
              (u.value-is ∙ at_none path u.at.result u.is_none.result u.at.ensures u.is_none.ensures free))
          | else-not-is_payload
              u ↦ (let clash : true ≡ false = sym u.if-not-is_payload.false ∙ c.is_payload.ensures
              ∙ free.outside_payload in cc)
        ]
      ],
    )
