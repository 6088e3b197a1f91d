use Rattle.std.proofs.Common.{rules, tests}
use Rattle.std.proofs.lemmas.Iterator.{YieldsList-from_slice}
use Rattle.std.proofs.lemmas.Iterator.Search.{find_from_yields_List}
use Rattle.bag_tree.specs.declared.listing.FileEntry.{FileEntry}
use Rattle.bag_changes.specs.Obstacles.{is_unlisted}
use Rattle.bag_changes.proofs.unlisted.first_unlisted.Goals as goal

pub returns : goal.returns
returns c = λ bag facts deep renewal aim.
    find_from_yields_List (λ (entry : FileEntry). is_unlisted bag renewal entry.path) _ _ c.find.result
    c.find.ensures.ran (YieldsList-from_slice c.args.facts.now.listing.files cc) (λ x b q k. search (rules, tests))
