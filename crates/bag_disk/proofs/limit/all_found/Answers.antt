use Rattle.bag_disk.proofs.Common.{IfOk-weaker}
use Rattle.bag_disk.proofs.limit.all_found.Goals as goal

pub returns : goal.returns
returns c =
    IfOk-weaker c.with_folders-2.result _ _
    (λ found last nodes stand. last nodes (c.in_ok-found.ensures nodes stand.are_there stand.are_folders)
    stand.were_folders) c.with_folders-2.ensures
