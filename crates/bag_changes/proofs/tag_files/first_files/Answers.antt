use Rattle.bag_changes.proofs.Common.{◌∙◌, ◌++◌}
use Rattle.bag_changes.proofs.OfFiles.{first_of_files}
use Rattle.bag_changes.proofs.tag_files.first_files.Goals as goal

pub returns-clause-files : goal.returns-clause-files
returns-clause-files c =
    first_of_files c.args.target.now.rules c.append.new.self.items c.args.info c.deref.result.now c.args.payload.now
    (c.in_ok-append.ensures.items ∙ (λ i. c.in_ok-files.ensures i ++ c.in_ok-manifests.ensures i))
