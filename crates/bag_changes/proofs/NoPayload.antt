-- Names of the base folder are no paths of the payload.
use Rattle.bag_changes.proofs.Common.{arith, ◌≡◌, ◌&&◌, ℕ, true, List, length, codes, and_parts}
use Rattle.bag_changes.proofs.Common.{bytes_eq, in_base, is_payload_path, tag_path, TagName}
use Rattle.std.proofs.Common.{◌<◌, ◌==◌, nat_lt}
use Rattle.bag_text.specs.Path.{components, first_component, is_base_name, is_path}
use Rattle.std.proofs.lemmas.Bool.{eqb-true, ltb-true}

-- a name of the base folder is no path of the payload
pub no_payload_name : (n : List ℕ) → is_base_name n ≡ true → is_payload_path n ≡ true → ⊥
no_payload_name n is e =
    let one : length (components n) ≡ 1 =
    eqb-true (length (components n)) 1 (and_parts (is_path n) (length (components n) == 1) is).1 in
    let more : 1 < length (components n) =
    ltb-true 1 (length (components n)) (and_parts (is_path n && bytes_eq (first_component n) (codes "data"))
    (nat_lt 1 (length (components n))) e).1 in
    absurd (omega (arith, one, more))

-- a tag file stands in the base folder
pub no_payload_tag : (tag : TagName) → is_payload_path (tag_path tag) ≡ true → ⊥
no_payload_tag tag e = no_payload_name (tag_path tag) (in_base tag) e
