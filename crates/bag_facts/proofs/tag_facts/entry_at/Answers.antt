use Rattle.bag_facts.proofs.Common.{rules, of_calls, text_cmp}
use Rattle.std.proofs.lemmas.Fn.{always_returns_same}
use Rattle.bag_facts.proofs.Entries.{entry_found, no_entry_found}
use Rattle.bag_facts.proofs.tag_facts.entry_at.Goals as goal

pub returns-in_default : goal.returns-in_default
returns-in_default c = λ ordered.
    no_entry_found c.args.entries.now c.args.path.now c.in_default.field-0 c.binary_search_by.result c.in_default.is
    ordered c.binary_search_by.ensures.bound
    (c.binary_search_by.ensures.position (λ entry. text_cmp entry.path c.args.path.now)
    (always_returns_same _ _ _ (λ a r f called. search (rules, of_calls))))

pub returns : goal.returns
returns c = λ ordered.
    entry_found c.args.entries.now c.args.path.now c.in-Ok.place c.get.result c.in-Ok.ensures.bound
    (c.in-Ok.ensures.position (λ entry. text_cmp entry.path c.args.path.now)
    (always_returns_same _ _ _ (λ a r f called. search (rules, of_calls))))
    c.get.ensures.lookup.3
