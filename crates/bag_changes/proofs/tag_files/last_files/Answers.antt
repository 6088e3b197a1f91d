use Rattle.bag_changes.proofs.Common.{◌∙◌, ◌++◌, ◌∷◌, [], ap, cond, not}
use Rattle.bag_tags.specs.Declaration.{declaration_text}
use Rattle.bag_changes.proofs.OfFiles.{last_of_files}
use Rattle.bag_changes.proofs.tag_files.last_files.Goals as goal

pub returns-clause-files : goal.returns-clause-files
returns-clause-files c =
    last_of_files c.push_where.new.items.items c.in_ok-file.file declaration_text
    (not c.args.target.now.keeps_declaration) c.in_ok-file.ensures
    (c.in_ok-push_where.ensures
    ∙ ap (λ xs. xs ++ cond (not c.args.target.now.keeps_declaration) (c.in_ok-file.file ∷ []) [])
    c.new-files.ensures.items)
