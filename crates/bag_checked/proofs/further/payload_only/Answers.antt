use Rattle.bag_checked.proofs.Common.{is_payload_path}
use Rattle.std.proofs.Common.{rules}
use Rattle.std.proofs.lemmas.Fn.{filter_same}
use Rattle.bag_tags.specs.declared.summed.SummedFile.{SummedFile}
use Rattle.bag_checked.proofs.further.payload_only.Goals as goal

pub returns : goal.returns
returns c =
    filter_same _ (λ (one : SummedFile). is_payload_path one.path) _ (λ one b after call. search rules) _ _
    c.retain.ensures.filtered
