use Rattle.bag_stages.proofs.Common.{[], All-map, IfOk-weaker, IsAscii, texts_of}
use Rattle.bag_stages.proofs.ClashFaults.{clash_faults_listed, no_ascii_clashes, same_names}
use Rattle.bag_stages.proofs.PayloadNames.{text}
use Rattle.bag_stages.proofs.clashes.clash_faults.Goals as goal

pub returns-then-are_ascii : goal.returns-then-are_ascii
returns-then-are_ascii c = λ bag facts deep.
    let names = texts_of c.in_ok-names.names.items in
    let ascii = rw c.as_slice.ensures.value at (c.are_ascii.ensures.0 c.if-are_ascii.true) in
    rw c.new.ensures.items
    (clash_faults_listed bag names (c.in_ok-names.ensures bag facts deep) []
    (no_ascii_clashes names (All-map IsAscii text c.in_ok-names.names.items ascii)))

pub returns : goal.returns
returns c = IfOk-weaker c.clashes_among.result _ _
    (λ faults list bag facts deep.
    let names = texts_of c.in_ok-names-2.names.items in
    let are =
    same_names _ (texts_of c.in_ok-names.names.items) names (c.in_ok-names.ensures bag facts deep)
    c.in_ok-names-2.ensures in
    clash_faults_listed bag names are faults.items
    ((rw c.as_slice-2.ensures.value at list) c.in_ok-names-2.ensures.ascending))
    c.clashes_among.ensures
