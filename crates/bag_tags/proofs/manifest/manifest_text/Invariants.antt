use Rattle.bag_tags.proofs.Common.{◌≡◌, take, string_bytes}
use Rattle.bag_tags.specs.Entry as spec
use Rattle.bag_tags.proofs.manifest.manifest_text.Given as goal

abbrev pub invariant-loop-entry : goal.invariant-loop-entry
invariant-loop-entry l = string_bytes l.text ≡ spec.manifest_text_by l.fn.rules (take l.entry-index l.entries)
