use Rattle.bag_text.proofs.Common.{◌≡◌, ◌∙◌, ◌++◌, ap, drop, length, replicate, front_of_sixteen}
use Rattle.std.specs.Int.{from_be_bytes, w128}
use Rattle.bag_text.proofs.SortKeys.{padded}
use Rattle.bag_text.proofs.sort_key.padded_key.Goals as goal

pub returns : goal.returns
returns c =
    let bytes = c.args.bytes.now in
    let front : c.copy_from_slice.new.self ++ drop (length bytes) (replicate 16 0) ≡ front_of_sixteen bytes =
    rw c.copy_from_slice.ensures.after (padded bytes c.requires) in
    c.from_be_bytes.ensures ∙ ap (from_be_bytes w128) front
