use Rattle.bag_tree.proofs.Common.{◌∙◌, rules, sym, ap, bytes_eq-Decides, IsBytes, encode_lower}
use Rattle.bag_tree.proofs.Spelled.{one_spelled}
use Rattle.bag_tree.proofs.sums.are_same.Goals as goal

pub returns : goal.returns
returns c =
    let found = c.args.found.now in
    let bytes = c.args.bytes.now in
    let decides = bytes_eq-Decides found bytes in
    let first : IsBytes found = search rules in
    let second : IsBytes bytes = search rules in (
      λ same. ap encode_lower (decides.0 (sym c.eq.ensures ∙ same)),
      λ alike. c.eq.ensures ∙ decides.1 (one_spelled found bytes first second alike),
    )
