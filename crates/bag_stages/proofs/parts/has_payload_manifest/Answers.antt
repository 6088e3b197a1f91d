use Rattle.std.proofs.Common.{rules, tests}
use Rattle.std.proofs.lemmas.Iterator.{YieldsList-from_slice, cases_from_any}
use Rattle.std.proofs.lemmas.Iterator.Search.{true_from_Any}
use Rattle.bag_facts.proofs.SeenFolders.{entry_of}
use Rattle.bag_stages.proofs.Common.{◌≡◌, ℕ, List, true, FileEntry, Payload, is_alg_text, manifest_name}
use Rattle.bag_stages.proofs.parts.has_payload_manifest.Goals as goal

-- the entry is a payload manifest
abbrev IsOne : FileEntry → Type 0
IsOne entry = (alg : List ℕ) × (is_alg_text alg ≡ true) × (entry.path ≡ manifest_name Payload alg)

pub returns-clause-not_listed : goal.returns-clause-not_listed
returns-clause-not_listed c = λ lists.
    let found = entry_of c.args.files.now (manifest_name Payload lists.0) lists.2 in
    true_from_Any IsOne (λ entry. ¬ (IsOne entry)) _ c.args.files.now (λ entry is none. absurd (none is))
    (cases_from_any _ _ _ IsOne (λ entry. ¬ (IsOne entry)) c.any.ensures.ran
    (YieldsList-from_slice c.args.files.now cc) (λ x q k. search (rules, tests)) (λ x q k. search (rules, tests)))
    found.0 found.1 (lists.0, lists.1, found.2)
