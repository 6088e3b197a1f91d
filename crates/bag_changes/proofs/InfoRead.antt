-- The elements that are read of a bag.
use Rattle.bag_changes.proofs.Common.{◌≡◌, ◌∙◌, [], ℕ, List, Option, None, Some, true, ap, refl, subst, Bag, Renewal}
use Rattle.bag_changes.proofs.Common.{writes_info}
use Rattle.std.proofs.lemmas.Cmp.{on_total}
use Rattle.std.specs.Cmp.{nat_cmp_total}
use Rattle.std.specs.List.{enumerate_from}
use Rattle.std.specs.Ordering.{nat_cmp, on}
use Rattle.bag_text.proofs.ListOf.{one_list}
use Rattle.bag_text.specs.Lines.{lines_of_file}
use Rattle.bag_text.specs.Order.{IsListOf}
use Rattle.bag_text.specs.declared.rules.Rules.{Rules}
use Rattle.bag_read.proofs.InfoElements.{elements_of as elements_listed}
use Rattle.bag_read.specs.Info.{IsElement}
use Rattle.bag_read.specs.InfoReader.{elements}
use Rattle.bag_read.specs.declared.info.Element.{Element}
use Rattle.bag_facts.specs.TagFacts.{IsMetadataOf, IsReadOf}
use Rattle.bag_facts.specs.declared.tag_facts.Metadata.{Metadata}
use Rattle.bag_stages.specs.TagFiles.{lines_or_none}
use Rattle.bag_tags.specs.Element.{NewElement}
use Rattle.bag_tags.specs.OnLines.{text_on_lines}
use Rattle.bag_changes.specs.NewInfo.{CanBeWritten, IsInfoAfter, elements_after, labels_and_values}

-- the elements that are read of bytes are those on their lines
pub elements_read : (rules : Rules) (bytes : List ℕ) (read : List Element)
    → IsListOf (on (λ e. e.line) nat_cmp) (IsElement rules (lines_of_file bytes)) read
    → labels_and_values read ≡ labels_and_values (elements rules (enumerate_from 1 (lines_of_file bytes)))
elements_read rules bytes read list =
    let line : Element → ℕ = λ e. e.line in
    ap labels_and_values
    (one_list (on line nat_cmp) (on_total line nat_cmp_total) (IsElement rules (lines_of_file bytes)) read
    (elements rules (enumerate_from 1 (lines_of_file bytes))) list (elements_listed rules (lines_of_file bytes)))

-- what is known of metadata has the elements of its lines
pub elements_are : (rules : Rules) (content : Option (List ℕ)) (metadata : Metadata)
    → IsReadOf (IsMetadataOf rules) content (Some metadata)
    → labels_and_values metadata.elements
    ≡ labels_and_values (elements rules (enumerate_from 1 (lines_or_none content)))
elements_are rules None metadata h = absurd h
elements_are rules (Some bytes) metadata h = elements_read rules bytes metadata.elements h.elements

-- and there are none where it isn't there
pub none_are : (rules : Rules) (content : Option (List ℕ)) → IsReadOf (IsMetadataOf rules) content None
    → [] ≡ labels_and_values (elements rules (enumerate_from 1 (lines_or_none content)))
none_are rules None h = refl
none_are rules (Some bytes) h = absurd h

-- the text of elements that can be written is what is written
pub written : (bag : Bag) (renewal : Renewal) (lines : List (List ℕ)) (made : List NewElement) (text : List ℕ)
    → writes_info bag renewal ≡ true → made ≡ elements_after bag renewal lines → CanBeWritten made
    → text ≡ text_on_lines made → IsInfoAfter bag renewal lines (Some text)
written bag renewal lines made text writes same good is =
    (writes, subst CanBeWritten same good, is ∙ ap text_on_lines same)
