use Rattle.bag_stages.proofs.Common.{◌≡◌, refl, None, ap, ◌∙◌, sym, subst, string_bytes, option_map, bytes_eq-Decides}
use Rattle.bag_stages.proofs.Common.{nfc_of}
use Rattle.std.specs.HashMap.{get_by_text}
use Rattle.std.specs.Str.{bytes_eq}
use Rattle.std.proofs.lemmas.Map.Text.{hash_map_updates_text}
use Rattle.bag_stages.proofs.ClashFaults.{first_by_map}
use Rattle.bag_stages.proofs.PayloadNames.{text}
use Rattle.bag_stages.proofs.clashes.clash_of.Goals as goal

pub returns-clause-firsts : goal.returns-clause-firsts
returns-clause-firsts c = λ form.
    let name = c.args.name in
    let old = c.args.firsts.now in
    let set =
    rw c.in_ok-form.ensures at
    (hash_map_updates_text (string_bytes c.in_ok-form.form) old c.insert.new.self _
    c.in_ok-insert.ensures.updates form) in
    let absent = rw (c.as_str.ensures.value, c.in_ok-form.ensures) at c.in_default.ensures.value in
    ap (option_map text) set
    ∙ first_by_map (bytes_eq (nfc_of name.now) form) (get_by_text old form) name form refl
    (λ own. subst (λ t. get_by_text old t ≡ None) ((bytes_eq-Decides (nfc_of name.now) form).0 own) (sym absent))
