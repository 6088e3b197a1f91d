use Rattle.bag_stages.proofs.Common.{Md5, texts_of}
use Rattle.bag_stages.proofs.PayloadNames.{all_names, files_first, one_manifest_more}
use Rattle.bag_stages.proofs.names.payload_names.Goals as goal

pub loop-alg-init : goal.loop-alg-init
loop-alg-init c = λ bag facts deep.
    files_first bag c.args.facts.now.listing.files (texts_of c.in_ok-names.names.items) facts.listing.files
    (rw c.files.ensures at c.in_ok-names.ensures)

pub loop-alg-preserved : goal.loop-alg-preserved
loop-alg-preserved c = λ bag facts deep.
    one_manifest_more bag c.loop-alg.alg-index Md5 (texts_of c.loop-alg.names.items)
    (texts_of c.push_named.new.names.items) c.loop-alg-test.true (c.loop-alg.invariant bag facts deep)
    (c.in_ok-push_named.ensures bag facts deep)

pub returns : goal.returns
returns c = λ bag facts deep.
    all_names bag c.loop-alg.alg-index (texts_of c.loop-alg.names.items) c.loop-alg-test.false
    (c.loop-alg.invariant bag facts deep)
