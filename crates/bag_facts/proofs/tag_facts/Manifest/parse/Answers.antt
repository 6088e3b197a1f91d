use Rattle.bag_facts.proofs.Common.{refl, ManifestFault}
use Rattle.bag_facts.proofs.Entries.{parsed_is}
use Rattle.bag_facts.proofs.TextTold.{text_told}
use Rattle.bag_facts.proofs.tag_facts.Manifest.parse.Goals as goal

pub returns-clause-says : goal.returns-clause-says
returns-clause-says c =
    let items = rw c.as_slice.ensures.value at c.in_ok-items.ensures.items in
    let faults = rw c.as_slice.ensures.value at c.in_ok-items.ensures.faults in
    let text =
    text_told c.args.bytes.items (λ code. ManifestFault code c.args.rules c.args.kind c.args.alg c.args.bytes.items)
    (λ none. (refl, refl, none)) (λ fault h. h.2) _ faults
    c.is_text.result (rw c.as_slice-2.ensures at c.is_text.ensures) in
    parsed_is c.args.rules c.args.kind c.args.alg c.args.bytes.items c.is_text.result c.in_ok-items.field-0.items
    c.in_ok-sorted_by_path.field-0 c.in_ok-items.field-0.faults text items
    c.in_ok-sorted_by_path.ensures.permutation c.in_ok-sorted_by_path.ensures.sorted faults
