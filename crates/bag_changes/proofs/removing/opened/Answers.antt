use Rattle.bag_changes.proofs.Common.{◌≡◌, ◌∙◌, ◌++◌, ◌∷◌, [], ap, cond, Remove, Tag}
use Rattle.bag_changes.specs.Changes.{opening, removals_of}
use Rattle.bag_changes.proofs.OfFiles.{opened_of_files}
use Rattle.bag_changes.proofs.removing.opened.Goals as goal

pub returns-clause-changes : goal.returns-clause-changes
returns-clause-changes c = λ bag of deep renewal.
    let removed : c.in_ok-changes.changes.items ≡ opening bag renewal =
    c.in_ok-changes.ensures ∙ ap (removals_of Tag) (c.deref.ensures.value ∙ c.in_ok-there.ensures.items ∙ c.algs_there.ensures bag of deep) in
    c.in_ok-push_where.ensures
    ∙ (λ j. removed j ++ cond (c.has_file.ensures bag of j) (Remove (c.in_ok-from_str.ensures j) ∷ []) [])

pub returns-clause-files : goal.returns-clause-files
returns-clause-files c =
    opened_of_files c.push_where.new.items.items c.deref.result.now c.in_ok-from_str.field-0 c.has_file.result
    c.in_ok-from_str.ensures
    (c.in_ok-push_where.ensures ∙ ap (λ xs. xs ++ cond c.has_file.result (Remove c.in_ok-from_str.field-0 ∷ []) [])
    c.in_ok-changes.ensures)
