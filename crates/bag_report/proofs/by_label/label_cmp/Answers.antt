use Rattle.bag_report.proofs.Conforming.{◌≡◌, rules, refl, ap, ◌∙◌, nat_cmp, YieldsList-from_map_by}
use Rattle.bag_report.proofs.Conforming.{cmp_from_yields_List}
use Rattle.std.specs.Char.{to_ascii_lowercase}
use Rattle.std.specs.Iterator.Adapters.{map_source, map_callee}
use Rattle.std.specs.Str.Iter.{bytes_rest}
use Rattle.std.proofs.lemmas.Iterator.Adapters.{YieldsList-from_bytes}
use Rattle.bag_report.proofs.by_label.label_cmp.Goals as goal

pub returns : goal.returns
returns c =
    cmp_from_yields_List (λ x y. y ≡ x) _ nat_cmp _ c.cmp.ensures.ran
    (YieldsList-from_map_by _ (λ r. r) to_ascii_lowercase
    (YieldsList-from_bytes c.args.a.now (ap bytes_rest c.map-a.ensures.source ∙ c.bytes.ensures.rest))
    c.map-a.ensures.closure (λ x r q called. search rules))
    (λ it e. YieldsList-from_map_by _ (λ r. r) to_ascii_lowercase
    (YieldsList-from_bytes c.args.b.now
    (ap (λ m. bytes_rest (map_source m)) e ∙ ap bytes_rest c.map-b.ensures.source ∙ c.bytes-2.ensures.rest))
    (ap map_callee e ∙ c.map-b.ensures.closure) (λ x r q called. search rules))
    (λ x y. refl)
