use Rattle.std.proofs.Common.{◌<◌, length, arith}
use Rattle.std.proofs.lemmas.List.{get_or_read}
use Rattle.bag_reports.proofs.Ahead.{byte_passes}
use Rattle.bag_reports.proofs.input.Input.pass.Goals as goal

pub invariant_of-self : goal.invariant_of-self
invariant_of-self g c =
    let self = c.args.self.now in
    let within = self.ahead.within in
    let inside : self.at < length self.buffer.items = omega arith in
    record {
      ahead =
          byte_passes _ _ _ _ _ _ _ self.ahead c.requires
          (get_or_read self.buffer.items _ _ inside c.index-byte.ensures 0) c.note.ensures;
    }
