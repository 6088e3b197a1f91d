use Rattle.bag_changes.proofs.Contents.{these_files}
use Rattle.bag_renew.proofs.laws.a_renewed_bag_has_these_files.Goals as goal

pub returns : goal.returns
returns c = these_files
