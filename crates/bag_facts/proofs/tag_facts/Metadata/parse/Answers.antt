use Rattle.bag_facts.proofs.Common.{refl}
use Rattle.bag_read.specs.Info.{InfoFault}
use Rattle.bag_facts.proofs.TextTold.{text_told}
use Rattle.bag_facts.proofs.tag_facts.Metadata.parse.Goals as goal

pub returns : goal.returns
returns c = record {
  text =
      text_told c.args.bytes.now (λ code. InfoFault c.args.rules code c.args.bytes.now) (λ none. (refl, refl, none))
      (λ fault h. h.2) _ c.in_ok-items.ensures.faults
      c.is_text.result (rw c.as_slice.ensures at c.is_text.ensures);
  elements = c.in_ok-items.ensures.items;
  faults = c.in_ok-items.ensures.faults;
}
