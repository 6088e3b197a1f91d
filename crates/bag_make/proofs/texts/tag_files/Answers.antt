use Rattle.bag_make.proofs.Common.{◌∙◌, ap, IfOk-weaker, Payload, Tag, manifests_of}
use Rattle.bag_make.proofs.Composed.{tag_files_are}
use Rattle.bag_make.proofs.texts.tag_files.Goals as goal

pub returns-clause-files : goal.returns-clause-files
returns-clause-files c =
    let algs = c.deref.ensures.value ∙ c.in_ok-members.ensures.items in
    IfOk-weaker c.in_writing_order.result _ _ (λ made is files same are.
    tag_files_are files c.args.listed.now c.args.payload.now c.args.algs c.args.info.now same are
    c.in_ok-declaration.declaration c.in_ok-info.info c.in_ok-payload_manifests.payload_manifests.items
    c.in_ok-tag_manifests.tag_manifests.items made.items c.in_ok-named.named.items c.in_ok-declaration.ensures
    c.in_ok-info.ensures
    (c.in_ok-payload_manifests.ensures ∙ ap (λ xs. manifests_of Payload xs c.args.payload.now) algs)
    (rw c.deref-2.ensures.value at c.in_ok-named.ensures)
    (c.in_ok-tag_manifests.ensures
    ∙ ap (λ xs. manifests_of Tag xs c.deref-4.result.now) (c.deref-3.ensures.value ∙ c.in_ok-members.ensures.items)
    ∙ ap (manifests_of Tag c.args.algs) c.deref-4.ensures.value)
    is)
    c.in_writing_order.ensures
