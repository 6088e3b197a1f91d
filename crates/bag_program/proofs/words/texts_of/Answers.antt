use Rattle.bag_program.proofs.Common.{arith, rules, ◌≡◌, ℕ, List, map, ap, ◌∙◌, string_bytes, Bor, Vec, IfOk, Result}
use Rattle.bag_program.proofs.Common.{IsCollectResult, YieldsList, YieldsList-from_map_by, YieldsList-from_slice}
use Rattle.bag_program.proofs.Common.{items_from_drains}
use Rattle.std.specs.declared.option.Option.{Option}
use Rattle.std.specs.Slice.Iter.{iter_rest}
use Rattle.bag_program.proofs.words.texts_of.Goals as goal

-- what is collected are all values
from_collect : {S A B Z E : Type 0} {steps : S → Option A → S → Type 0} {s : S} {all : List B} (v : A → B)
    (r : Result (Vec A Z) E)
    → IsCollectResult steps s r → YieldsList steps v s all → IfOk r (λ w. map v w.items ≡ all)
from_collect v r d e = grind (arith, items_from_drains)

pub returns : goal.returns
returns c =
    let words = YieldsList-from_slice c.args.words.now (ap iter_rest c.map.ensures.source ∙ c.iter.ensures.rest) in
    let text = λ (word : Bor (List ℕ)). word.now in
    from_collect text c.collect.result c.collect.ensures.ran
    (YieldsList-from_map_by _ text string_bytes words c.map.ensures.closure (λ word r f called. search rules))
