use Rattle.bag_disk.proofs.DiskCount.{folder_put, folder_taken}
use Rattle.bag_disk.proofs.limit.with_folders.Goals as goal

pub loop-path-preserved-in-Continue-1 : goal.loop-path-preserved-in-Continue-1
loop-path-preserved-in-Continue-1 c = λ nodes files folders.
    folder_put nodes c.loop-path.found.items c.push.new.self.items c.loop-path.folders.items c.pop.new.self.items
    c.in-Some.path c.is_empty.result c.if-not-is_empty.true c.is_empty.ensures.1
    c.in-Some.ensures.items c.in_ok-push.ensures.items (c.loop-path.invariant nodes files folders)

pub loop-path-preserved : goal.loop-path-preserved
loop-path-preserved c = λ nodes files folders.
    folder_taken nodes c.loop-path.found.items c.loop-path.folders.items c.pop.new.self.items c.in-Some.path
    c.in-Some.ensures.items (c.loop-path.invariant nodes files folders)

pub loop-path-preserved-else-not-is_empty : goal.loop-path-preserved-else-not-is_empty
loop-path-preserved-else-not-is_empty c = λ nodes files folders.
    folder_taken nodes c.loop-path.found.items c.loop-path.folders.items c.pop.new.self.items c.in-Some.path
    c.in-Some.ensures.items (c.loop-path.invariant nodes files folders)
