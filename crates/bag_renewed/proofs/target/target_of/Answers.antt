use Rattle.bag_renewed.proofs.Common.{◌≡◌, ◌∙◌, ◌&&◌, ap, has_file, not, tag_path, algs_where}
use Rattle.bag_renewed.proofs.Common.{is_kept_alg, new_algs, Declaration}
use Rattle.bag_renewed.specs.Target.{in_first, written_algs}
use Rattle.bag_renewed.specs.Elements.{asks_nothing}
use Rattle.bag_renewed.specs.Renewed.{is_dropped_alg}
use Rattle.bag_renewed.proofs.Targets.{dropped_are, kept_are, new_are, reads_are}
use Rattle.bag_renewed.proofs.target.target_of.Goals as goal

pub returns : goal.returns
returns c = λ bag of deep.
    let renewal = c.args.renewal.now in
    let had = c.algs_there-had.result in
    let there = c.algs_there-had.ensures bag of deep in
    let keeps = c.keeps-keeps.ensures bag of in
    let algs : c.members_of_first-algs.result ≡ new_algs bag renewal =
    c.members_of_first-algs.ensures ∙ ap (λ some. in_first some renewal.dropped) c.members_of_either.ensures
    ∙ new_are bag renewal had there in
    let kept : c.kept_algs-kept.result ≡ algs_where (is_kept_alg bag renewal) =
    c.kept_algs-kept.ensures ∙ kept_are bag renewal had there c.keeps-keeps.result keeps in
    let written : c.members_of_first-written.result ≡ written_algs bag renewal =
    c.members_of_first-written.ensures ∙ (λ i. in_first (algs i) (kept i)) in
    let dropped : c.members_of_first-dropped.result ≡ algs_where (is_dropped_alg bag renewal) =
    c.members_of_first-dropped.ensures ∙ ap (in_first had) algs ∙ dropped_are bag renewal had there in record {
      algs = algs;
      kept = kept;
      written = written;
      dropped = dropped;
      rules = c.new_rules.ensures bag of;
      keeps = keeps;
      keeps_declaration =
          c.keeps_declaration.ensures bag of ∙ ap (λ b. b && has_file bag (tag_path Declaration)) keeps;
      writes_info = c.writes_info.ensures ∙ ap (λ b. not (b && asks_nothing renewal.elements)) keeps;
      reads_payload =
          c.reads_payload.ensures
          ∙ reads_are bag renewal c.members_of_first-written.result c.members_of_first-dropped.result written dropped;
    }
