use Rattle.bag_stages.proofs.Common.{on_ok_weaker, texts_of}
use Rattle.bag_stages.proofs.PayloadNames.{nothing_added, read_added}
use Rattle.bag_stages.proofs.names.push_named.Goals as goal

pub returns-in-Some : goal.returns-in-Some
returns-in-Some c = on_ok_weaker c.push_paths.result
    (λ made bag facts deep.
    read_added bag c.args.alg c.in-Some.manifest.now (texts_of c.args.names.now.items)
    (texts_of c.push_paths.new.names.items) (c.in-Some.ensures bag facts deep)
    (rw c.as_slice.ensures at made))
    c.push_paths.ensures

pub returns-in-None : goal.returns-in-None
returns-in-None c = λ bag facts deep.
    nothing_added bag c.args.alg (texts_of c.args.names.now.items) (c.in-None.ensures bag facts deep)
