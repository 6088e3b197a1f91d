use Rattle.bag_facts.proofs.Common.{◌↔◌, HasFile, IsTrue, has_file, of_calls, rules, text_cmp}
use Rattle.std.proofs.lemmas.Fn.{always_returns_same}
use Rattle.bag_facts.proofs.ListedPaths.{bag_has, path_found, same_truth}
use Rattle.bag_facts.proofs.facts.Facts.has_file.Goals as goal

pub returns : goal.returns
returns c = λ bag of.
    let files = c.as_slice.result.now in
    let tells : IsTrue c.is_ok.result ↔ HasFile bag c.args.path.now =
    bag_has bag c.args.self.now files c.args.path.now c.is_ok.result of c.as_slice.ensures
    (λ ordered.
    path_found files c.args.path.now c.binary_search_by.result c.is_ok.result c.is_ok.ensures.value
    ordered.ascending c.binary_search_by.ensures.bound
    (c.binary_search_by.ensures.position (λ entry. text_cmp entry.path c.args.path.now)
    (always_returns_same _ _ _ (λ a r f called. search (rules, of_calls))))) in
    same_truth c.is_ok.result (has_file bag c.args.path.now) (λ is. tells.0 is) (λ is. tells.1 is)
