use Rattle.std.proofs.Common.{◌≡◌, map, take, string_bytes}
use Rattle.bag_tags.specs.Entry as entry
use Rattle.bag_tags.specs.Summed.{summed_entry}
use Rattle.bag_tags.proofs.summed.manifest.Given as goal

abbrev pub invariant-loop-file : goal.invariant-loop-file
invariant-loop-file l = string_bytes l.text
    ≡ entry.manifest_text_by l.fn.rules (map (summed_entry l.fn.alg) (take l.file-index l.files))
