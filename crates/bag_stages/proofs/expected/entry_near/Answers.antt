use Rattle.bag_stages.proofs.Common.{rules, of_calls, text_cmp}
use Rattle.std.proofs.lemmas.Fn.{always_returns_same}
use Rattle.bag_facts.proofs.Entries.{entry_found, no_entry_found}
use Rattle.bag_stages.proofs.expected.entry_near.Goals as goal

pub returns-in-Ok : goal.returns-in-Ok
returns-in-Ok c = λ ordered.
    entry_found c.args.entries.now c.args.path.now c.in-Ok.found c.get-in-Ok.result c.in-Ok.ensures.bound
    (c.in-Ok.ensures.position (λ entry. text_cmp entry.path c.args.path.now)
    (always_returns_same _ _ _ (λ a r f called. search (rules, of_calls))))
    c.get-in-Ok.ensures.lookup.3

pub returns-in-Err : goal.returns-in-Err
returns-in-Err c = λ ordered.
    no_entry_found c.args.entries.now c.args.path.now c.in-Err.after c.binary_search_by.result c.in-Err.is ordered
    c.binary_search_by.ensures.bound
    (c.binary_search_by.ensures.position (λ entry. text_cmp entry.path c.args.path.now)
    (always_returns_same _ _ _ (λ a r f called. search (rules, of_calls))))
