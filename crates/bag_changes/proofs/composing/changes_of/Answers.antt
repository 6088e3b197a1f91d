use Rattle.bag_changes.proofs.Common.{◌≡◌, ◌∙◌, ◌++◌, ap, subst, sym, map, put}
use Rattle.bag_changes.specs.Composing.{AreOfFiles, tag_manifests_of}
use Rattle.bag_changes.proofs.ComposedChanges.{changes_are, tag_manifests_put}
use Rattle.bag_changes.proofs.OfFiles.{both_of_files, tag_manifests_of_files}
use Rattle.bag_changes.proofs.composing.changes_of.Goals as goal

pub returns-clause-changes : goal.returns-clause-changes
returns-clause-changes c = λ bag of deep renewal aim files are.
    let info = c.args.info in
    let composed = c.in_ok-first.ensures.composed bag renewal aim files are in
    let before = c.in_ok-changes.changes.items in
    let first = c.in_ok-puts.field-0.items in
    let gone = c.in_ok-dropped.field-0.items in
    let last = c.in_ok-puts-2.field-0.items in
    let manifests = c.in_ok-tag_manifests.field-0.items in
    let all : c.append-4.new.changes.items ≡ (((before ++ first) ++ gone) ++ last) ++ manifests =
    c.in_ok-append-4.ensures ∙ ap (λ xs. xs ++ manifests) (c.in_ok-append-3.ensures
    ∙ ap (λ xs. xs ++ last) (c.in_ok-append-2.ensures ∙ ap (λ xs. xs ++ gone) c.in_ok-append.ensures)) in
    let algs = c.deref.ensures.value ∙ c.in_ok-algs.ensures.items ∙ aim.algs in
    changes_are bag renewal files info c.append-4.new.changes.items before first gone last manifests all
    (c.in_ok-changes.ensures.changes bag of deep renewal) (c.in_ok-puts.ensures ∙ ap (map put) composed.first)
    (c.in_ok-dropped.ensures.changes bag renewal aim) (c.in_ok-puts-2.ensures ∙ ap (map put) composed.last)
    (c.in_ok-tag_manifests.ensures
    ∙ ap (tag_manifests_of c.args.target.now.rules c.deref.result.now) c.deref-2.ensures.value
    ∙ tag_manifests_put bag renewal files info c.args.target.now.rules c.deref.result.now
    c.in_ok-first.field-0.named.items aim.rules algs composed.named)

pub returns-clause-files : goal.returns-clause-files
returns-clause-files c =
    let before = c.in_ok-changes.changes.items in
    let first = c.in_ok-puts.field-0.items in
    let gone = c.in_ok-dropped.field-0.items in
    let last = c.in_ok-puts-2.field-0.items in
    let manifests = c.in_ok-tag_manifests.field-0.items in
    let puts = c.in_ok-first.ensures.files in
    let all : c.append-4.new.changes.items ≡ (((before ++ first) ++ gone) ++ last) ++ manifests =
    c.in_ok-append-4.ensures ∙ ap (λ xs. xs ++ manifests) (c.in_ok-append-3.ensures
    ∙ ap (λ xs. xs ++ last) (c.in_ok-append-2.ensures ∙ ap (λ xs. xs ++ gone) c.in_ok-append.ensures)) in
    subst AreOfFiles (sym all)
    (both_of_files (((before ++ first) ++ gone) ++ last) manifests
    (both_of_files ((before ++ first) ++ gone) last
    (both_of_files (before ++ first) gone
    (both_of_files before first c.in_ok-changes.ensures.files (subst AreOfFiles (sym c.in_ok-puts.ensures) puts.first))
    c.in_ok-dropped.ensures.files)
    (subst AreOfFiles (sym c.in_ok-puts-2.ensures) puts.last))
    (subst AreOfFiles (sym c.in_ok-tag_manifests.ensures)
    (tag_manifests_of_files c.args.target.now.rules c.deref.result.now c.deref-2.result.now)))
